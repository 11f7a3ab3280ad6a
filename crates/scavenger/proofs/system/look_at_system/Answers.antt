use Rattle.std.proofs.Common.{arith, refl, ◌∙◌}
use Rattle.disk_records.specs.Addresses.{pages_of}
use Rattle.disk_records.specs.Tapes.{Looks}
use Rattle.disk_records.proofs.Looking.{looks_pages, looks_twice}
use Rattle.disk_records.proofs.Growing.{alone_here, alone_twice}
use Rattle.scav_pages.proofs.Causing.{cause_of_part}
use Rattle.scavenger.proofs.system.look_at_system.Goals as goal

pub returns-in_err-places-clause-looks : goal.returns-in_err-places-clause-looks
returns-in_err-places-clause-looks g c =
    let same = looks_pages c.in_ok-first.ensures.looks in
    looks_twice _ c.in_ok-first.ensures.looks c.in_err-places.ensures.looks (omega (arith, same))

pub returns-in_err-words-clause-looks : goal.returns-in_err-words-clause-looks
returns-in_err-words-clause-looks g c =
    let same = looks_pages c.in_ok-first.ensures.looks in
    let both : Looks g.D.Tape.told (pages_of (g.D.Tape.tape c.args.disk.now).form) (g.D.Tape.tape c.args.disk.now) (g.D.Tape.tape c.find_pages.new.disk) = looks_twice _ c.in_ok-first.ensures.looks c.in_ok-places.ensures.looks (omega (arith, same, (g.D.Tape.tape c.args.disk.now).form.least_pages)) in
    looks_twice _ both c.in_err-words.ensures.looks (omega arith)

pub returns-clause-looks : goal.returns-clause-looks
returns-clause-looks g c =
    let same = looks_pages c.in_ok-first.ensures.looks in
    let both : Looks g.D.Tape.told (pages_of (g.D.Tape.tape c.args.disk.now).form) (g.D.Tape.tape c.args.disk.now) (g.D.Tape.tape c.find_pages.new.disk) = looks_twice _ c.in_ok-first.ensures.looks c.in_ok-places.ensures.looks (omega (arith, same, (g.D.Tape.tape c.args.disk.now).form.least_pages)) in
    looks_twice _ both c.in_ok-words.ensures.looks (omega arith)

pub returns-in_err-first-clause-cause : goal.returns-in_err-first-clause-cause
returns-in_err-first-clause-cause g c = cause_of_part c.in_err-first.field-0.0 c.from_residual.result (alone_here _) refl c.in_err-first.ensures.looks.alone c.in_err-first.ensures.cause c.from_residual.ensures.1

pub returns-in_err-places-clause-cause : goal.returns-in_err-places-clause-cause
returns-in_err-places-clause-cause g c = cause_of_part c.in_err-places.field-0.0 c.from_residual-in_err-places.result c.in_ok-first.ensures.looks.alone c.in_ok-first.ensures.cause c.in_err-places.ensures.looks.alone c.in_err-places.ensures.cause c.from_residual-in_err-places.ensures.1

pub returns-in_err-words-clause-cause : goal.returns-in_err-words-clause-cause
returns-in_err-words-clause-cause g c = cause_of_part c.in_err-words.field-0.0 c.from_residual-in_err-words.result (alone_twice c.in_ok-first.ensures.looks.alone c.in_ok-places.ensures.looks.alone) (c.in_ok-places.ensures.cause ∙ c.in_ok-first.ensures.cause) c.in_err-words.ensures.looks.alone c.in_err-words.ensures.cause c.from_residual-in_err-words.ensures.1

pub returns-clause-want : goal.returns-clause-want
returns-clause-want g c = λ told memory. cc

pub returns-clause-found : goal.returns-clause-found
returns-clause-found g c = λ told astray. cc

pub returns-clause-cause : goal.returns-clause-cause
returns-clause-cause g c = c.in_ok-words.ensures.cause ∙ c.in_ok-places.ensures.cause ∙ c.in_ok-first.ensures.cause
