use Rattle.std.proofs.Common.{Ok, Err, IfOk, sym, subst, refl}
use Rattle.disk_records.specs.Tapes.{pack}
use Rattle.disk_records.proofs.Growing.{alone_here, alone_twice}
use Rattle.disk_records.proofs.Framing.{usable_twice, writes_silent}
use Rattle.scav_pages.specs.declared.errors.Stop.TheVariants.{Memory}
use Rattle.scav_pages.proofs.Causing.{cause_of_part, cause_sooner}
use Rattle.scav_names.specs.Catalogues.{HoldsNames}
use Rattle.scav_names.specs.Mending.{AreMended}
use Rattle.scav_names.specs.Parting.{IsParted}
use Rattle.scav_names.proofs.EnteringParts.{read_does, read_may}
use Rattle.scav_names.proofs.Going.{does_last, does_part, does_stop, so_far_does, so_far_here}
use Rattle.scav_names.proofs.mend.mend.Goals as goal

pub returns-in_err-names-clause-does : goal.returns-in_err-names-clause-does
returns-in_err-names-clause-does g c = λ told may.
    let a = g.D.Tape.tape c.args.disk.now in
    let one = c.in_err-names.ensures in
    does_part c.in_err-names.field-0.0 c.from_residual.result (so_far_here a) one.alone.grown (read_does (Err c.in_err-names.field-0.0) one.alone.grown (one.silent told) (one.found told) (one.names told)) c.from_residual.ensures.1

pub returns-in_err-parted-clause-does : goal.returns-in_err-parted-clause-does
returns-in_err-parted-clause-does g c = λ told may.
    let a = g.D.Tape.tape c.args.disk.now in
    let one = c.in_ok-names.ensures in
    let names = c.in_ok-names.names in
    let read = read_does (Ok names) one.alone.grown (one.silent told) (one.found told) (one.names told) in
    let x = so_far_does (so_far_here a) one.alone.grown read in
    does_stop Memory c.from_residual-in_err-parted.result x (λ astray. cc) c.from_residual-in_err-parted.ensures.1

pub returns-clause-does : goal.returns-clause-does
returns-clause-does g c = λ told may.
    let a = g.D.Tape.tape c.args.disk.now in
    let one = c.in_ok-names.ensures in
    let names = c.in_ok-names.names in
    let read = read_does (Ok names) one.alone.grown (one.silent told) (one.found told) (one.names told) in
    let holds = read.leaves.holds in
    let same = read.leaves.same in
    let x = so_far_does (so_far_here a) one.alone.grown read in
    let parted = c.in_ok-parted.ensures (pack a) holds in
    let then = c.mend_parted.ensures in
    let rest = then.does told (read_may read.leaves may) (subst (λ p. HoldsNames p names) (sym same) holds) (subst (λ p. IsParted p c.in_ok-parted.parted) (sym same) parted) in
    does_last c.mend_parted.result x then.alone.grown rest (λ l. subst (λ p. IfOk c.mend_parted.result (AreMended p (pack (g.D.Tape.tape c.mend_parted.new.disk)))) same l)

pub returns-clause-cause : goal.returns-clause-cause
returns-clause-cause g c = cause_sooner (g.D.Tape.tape c.args.disk.now) (g.D.Tape.tape c.read_names.new.disk) (g.D.Tape.tape c.mend_parted.new.disk) c.mend_parted.result c.in_ok-names.ensures.cause c.mend_parted.ensures.cause

pub returns-clause-alone : goal.returns-clause-alone
returns-clause-alone g c = alone_twice c.in_ok-names.ensures.alone c.mend_parted.ensures.alone

pub returns-clause-frame : goal.returns-clause-frame
returns-clause-frame g c = usable_twice c.in_ok-names.ensures.alone c.mend_parted.ensures.alone (λ told. writes_silent _ _ (c.in_ok-names.ensures.silent told)) c.mend_parted.ensures.frame

pub returns-in_err-names-clause-cause : goal.returns-in_err-names-clause-cause
returns-in_err-names-clause-cause g c = cause_of_part c.in_err-names.field-0.0 c.from_residual.result (alone_here _) refl c.in_err-names.ensures.alone c.in_err-names.ensures.cause c.from_residual.ensures.1

pub returns-in_err-parted-clause-cause : goal.returns-in_err-parted-clause-cause
returns-in_err-parted-clause-cause g c = cause_of_part Memory c.from_residual-in_err-parted.result c.in_ok-names.ensures.alone c.in_ok-names.ensures.cause (alone_here _) refl c.from_residual-in_err-parted.ensures.1
