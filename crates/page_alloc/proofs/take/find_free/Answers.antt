use Rattle.std.proofs.Common.{length, take, ◌∙◌, ap, arith}
use Rattle.std.proofs.lemmas.List.{length-take}
use Rattle.disk_records.specs.Addresses.{pages_of}
use Rattle.disk_records.specs.Tapes.{pack}
use Rattle.page_alloc.specs.Free.{free_addresses, offered_free}
use Rattle.disk_records.proofs.Looking.{looks_pack}
use Rattle.page_alloc.proofs.Silent.{looks_offered, looks_both}
use Rattle.page_alloc.proofs.FreeLists.{taken_are_free, offers_are_free, offered_free-le, offers_of_true}
use Rattle.page_alloc.proofs.take.find_free.Goals as goal

pub returns-in_err-found-clause-looks : goal.returns-in_err-found-clause-looks
returns-in_err-found-clause-looks g c = looks_offered c.args.table.now c.requires.sized c.in_err-found.ensures.looks

pub returns-in_err-offers-clause-looks : goal.returns-in_err-offers-clause-looks
returns-in_err-offers-clause-looks g c = looks_offered c.args.table.now c.requires.sized c.in_ok-found.ensures.looks

pub returns-then-len-wanted-clause-looks : goal.returns-then-len-wanted-clause-looks
returns-then-len-wanted-clause-looks g c = looks_offered c.args.table.now c.requires.sized c.in_ok-found.ensures.looks

pub returns-then-len-wanted-clause-free : goal.returns-then-len-wanted-clause-free
returns-then-len-wanted-clause-free g c = λ told.
    let first = g.D.Tape.tape c.args.disk.now in
    offers_are_free (pack first) c.args.table.now c.args.wanted (pages_of first.form) c.in_ok-found.field-0.found.items (c.in_ok-found.ensures.found told)

pub returns-then-len-wanted-clause-few : goal.returns-then-len-wanted-clause-few
returns-then-len-wanted-clause-few g c = λ told few.
    let first = g.D.Tape.tape c.args.disk.now in
    let long = ap length (c.in_ok-found.ensures.found told) ∙ length-take c.args.wanted (offered_free (pack first) c.args.table.now) in
    let all = offered_free-le (pack first) c.args.table.now (pages_of first.form) in
    absurd (omega (arith, few, long, all))

pub returns-in_err-swept-clause-looks : goal.returns-in_err-swept-clause-looks
returns-in_err-swept-clause-looks g c = looks_both c.args.table.now _ (c.in_ok-offers.ensures ∙ c.in_ok-found.ensures.offers) c.requires.sized c.in_ok-found.ensures.looks c.in_err-swept.ensures.looks

pub returns-then-swept-wanted-clause-looks : goal.returns-then-swept-wanted-clause-looks
returns-then-swept-wanted-clause-looks g c = looks_both c.args.table.now _ (c.in_ok-offers.ensures ∙ c.in_ok-found.ensures.offers) c.requires.sized c.in_ok-found.ensures.looks c.in_ok-swept.ensures.looks

pub returns-clause-looks : goal.returns-clause-looks
returns-clause-looks g c = looks_both c.args.table.now _ (c.in_ok-offers.ensures ∙ c.in_ok-found.ensures.offers) c.requires.sized c.in_ok-found.ensures.looks c.in_ok-swept.ensures.looks

pub returns-clause-free : goal.returns-clause-free
returns-clause-free g c = λ told.
    let first = g.D.Tape.tape c.args.disk.now in
    let lowest = c.in_ok-swept.ensures.lowest told ∙ ap (λ p. take c.args.wanted (free_addresses p)) (looks_pack c.in_ok-found.ensures.looks told) in
    taken_are_free (pack first) c.args.wanted (pages_of first.form) c.in_ok-swept.swept.lowest.items lowest

pub returns-clause-soon : goal.returns-clause-soon
returns-clause-soon g c = λ told is_true.
    let first = g.D.Tape.tape c.args.disk.now in
    let same = ap length (offers_of_true (pack first) c.args.table.now (pages_of first.form) (omega arith) is_true) in
    let all = c.in_ok-swept.ensures.free told ∙ ap (λ p. length (free_addresses p)) (looks_pack c.in_ok-found.ensures.looks told) in
    let long = ap length (c.in_ok-found.ensures.found told) ∙ length-take c.args.wanted (offered_free (pack first) c.args.table.now) in
    absurd (omega (arith, same, all, long))
