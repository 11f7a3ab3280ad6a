use Rattle.std.proofs.Common.{◌≡◌, true, ap, ◌∙◌, refl, sym, subst}
use Rattle.disk_records.specs.Commands.{claim_writes}
use Rattle.disk_records.specs.Labels.{tag}
use Rattle.disk_records.specs.Packs.{after, is_free_at}
use Rattle.disk_records.specs.Tapes.{pack}
use Rattle.disk_records.proofs.Framing.{usable_looks, usable_twice}
use Rattle.disk_records.proofs.Growing.{alone_here, alone_twice}
use Rattle.disk_records.proofs.Looking.{looks_pack}
use Rattle.label_check.proofs.Framing.{usable_claim}
use Rattle.scav_pages.proofs.Causing.{cause_of_guarded, cause_of_part}
use Rattle.scav_pages.proofs.Doing.{does_ok, does_stop_claim, does_stop_looking, going_done, going_here, going_looks, pack_done}
use Rattle.scav_pages.proofs.Keeping.{Mends}
use Rattle.scav_pages.proofs.Rooting.{first_in_range, first_names, leader_in_range, leader_names, leader_mends, not_none, one_still_free, page_mends, root_made, root_words}
use Rattle.scav_pages.proofs.root.make_root.Goals as goal

pub returns-in_err-at-clause-does : goal.returns-in_err-at-clause-does
returns-in_err-at-clause-does g c = λ told may.
    let a = g.D.Tape.tape c.args.disk.now in
    does_stop_looking c.in_err-at.field-0.0 c.from_residual.result (going_here a) c.in_err-at.ensures.looks told
    (λ astray. not_none (pack a) may (c.in_err-at.ensures.none told astray)) (c.in_err-at.ensures.want told) c.from_residual.ensures.1

pub returns-in_err-at-clause-cause : goal.returns-in_err-at-clause-cause
returns-in_err-at-clause-cause g c = cause_of_part c.in_err-at.field-0.0 c.from_residual.result (alone_here _) refl c.in_err-at.ensures.looks.alone c.in_err-at.ensures.cause c.from_residual.ensures.1

pub claim-requires-clause-label : goal.claim-requires-clause-label
claim-requires-clause-label g c = first_in_range 65535 c.real_of.result c.label_of-label.ensures

pub returns-in_err-claim-clause-cause : goal.returns-in_err-claim-clause-cause
returns-in_err-claim-clause-cause g c = cause_of_guarded c.in_err-claim.field-0.0 c.from_residual-in_err-claim.result c.in_ok-at.ensures.looks.alone c.in_ok-at.ensures.cause c.in_err-claim.ensures.alone c.in_err-claim.ensures.cause c.from_residual-in_err-claim.ensures.1

pub returns-in_err-claim-clause-alone : goal.returns-in_err-claim-clause-alone
returns-in_err-claim-clause-alone g c = alone_twice c.in_ok-at.ensures.looks.alone c.in_err-claim.ensures.alone

pub returns-in_err-claim-clause-frame : goal.returns-in_err-claim-clause-frame
returns-in_err-claim-clause-frame g c = usable_twice c.in_ok-at.ensures.looks.alone c.in_err-claim.ensures.alone (usable_looks c.in_ok-at.ensures.looks) (usable_claim c.in_err-claim.ensures.guarded)

pub claim-requires-2-clause-label : goal.claim-requires-2-clause-label
claim-requires-2-clause-label g c = leader_in_range c.real_of-2.result 65535 c.label_of-label-2.ensures

pub returns-in_err-claim-2-clause-cause : goal.returns-in_err-claim-2-clause-cause
returns-in_err-claim-2-clause-cause g c = cause_of_guarded c.in_err-claim-2.field-0.0 c.from_residual-in_err-claim-2.result (alone_twice c.in_ok-at.ensures.looks.alone c.in_ok-claim.ensures.alone) (c.in_ok-claim.ensures.cause ∙ c.in_ok-at.ensures.cause) c.in_err-claim-2.ensures.alone c.in_err-claim-2.ensures.cause c.from_residual-in_err-claim-2.ensures.1

pub returns-in_err-claim-2-clause-alone : goal.returns-in_err-claim-2-clause-alone
returns-in_err-claim-2-clause-alone g c = alone_twice (alone_twice c.in_ok-at.ensures.looks.alone c.in_ok-claim.ensures.alone) c.in_err-claim-2.ensures.alone

pub returns-in_err-claim-2-clause-frame : goal.returns-in_err-claim-2-clause-frame
returns-in_err-claim-2-clause-frame g c = usable_twice (alone_twice c.in_ok-at.ensures.looks.alone c.in_ok-claim.ensures.alone) c.in_err-claim-2.ensures.alone (usable_twice c.in_ok-at.ensures.looks.alone c.in_ok-claim.ensures.alone (usable_looks c.in_ok-at.ensures.looks) (usable_claim c.in_ok-claim.ensures.guarded)) (usable_claim c.in_err-claim-2.ensures.guarded)

pub returns-clause-alone : goal.returns-clause-alone
returns-clause-alone g c = alone_twice (alone_twice c.in_ok-at.ensures.looks.alone c.in_ok-claim.ensures.alone) c.in_ok-claim-2.ensures.alone

pub returns-clause-frame : goal.returns-clause-frame
returns-clause-frame g c = usable_twice (alone_twice c.in_ok-at.ensures.looks.alone c.in_ok-claim.ensures.alone) c.in_ok-claim-2.ensures.alone (usable_twice c.in_ok-at.ensures.looks.alone c.in_ok-claim.ensures.alone (usable_looks c.in_ok-at.ensures.looks) (usable_claim c.in_ok-claim.ensures.guarded)) (usable_claim c.in_ok-claim-2.ensures.guarded)

pub returns-in_err-claim-clause-does : goal.returns-in_err-claim-clause-does
returns-in_err-claim-clause-does g c = λ told may.
    let a = g.D.Tape.tape c.args.disk.now in
    let at = c.in_ok-at.at in
    let label = c.label_of-label.result in
    let looks = c.in_ok-at.ensures.looks in
    let same = looks_pack looks told in
    let free = (c.in_ok-at.ensures.free told).free in
    let names = first_names 65535 c.real_of.result c.label_of-label.ensures in
    does_stop_claim c.in_err-claim.field-0.0 c.from_residual-in_err-claim.result (going_looks (going_here a) looks told) c.in_err-claim.ensures.alone.grown
    (subst (λ p. is_free_at p at ≡ true) (sym same) free)
    (subst (λ p. Mends p (claim_writes at label root_words)) (sym same) (page_mends (pack a) may at label root_words free c.in_ok-at.ensures.first names))
    (c.in_err-claim.ensures.guarded told) c.from_residual-in_err-claim.ensures.1

pub returns-in_err-claim-2-clause-does : goal.returns-in_err-claim-2-clause-does
returns-in_err-claim-2-clause-does g c = λ told may.
    let a = g.D.Tape.tape c.args.disk.now in
    let p = pack a in
    let q = pack (g.D.Tape.tape c.claim.new.disk) in
    let at = c.in_ok-at.at in
    let label = c.label_of-label.result in
    let later = c.label_of-label-2.result in
    let looks = c.in_ok-at.ensures.looks in
    let same = looks_pack looks told in
    let free = (c.in_ok-at.ensures.free told).free in
    let names = first_names 65535 c.real_of.result c.label_of-label.ensures in
    let counts = ap (λ l. (tag l).bytes) c.label_of-label.ensures in
    let later_names = leader_names c.real_of-2.result 65535 c.label_of-label-2.ensures in
    let claimed = c.in_ok-claim.ensures.alone.grown in
    let done = (c.in_ok-claim.ensures.guarded told).ok in
    let left = pack_done claimed done ∙ ap (λ x. after x (claim_writes at label root_words)) same in
    does_stop_claim c.in_err-claim-2.field-0.0 c.from_residual-in_err-claim-2.result
    (going_done (going_looks (going_here a) looks told) claimed (subst (λ x. Mends x (claim_writes at label root_words)) (sym same) (page_mends p may at label root_words free c.in_ok-at.ensures.first names)) done)
    c.in_err-claim-2.ensures.alone.grown
    (one_still_free p may at label root_words free c.in_ok-at.ensures.first names q left)
    (leader_mends p may at label root_words free c.in_ok-at.ensures.first names q left later c.fresh_leader-leader.result counts refl refl later_names c.fresh_leader-leader.ensures.says)
    (c.in_err-claim-2.ensures.guarded told) c.from_residual-in_err-claim-2.ensures.1

pub returns-clause-does : goal.returns-clause-does
returns-clause-does g c = λ told may.
    let a = g.D.Tape.tape c.args.disk.now in
    let p = pack a in
    let q = pack (g.D.Tape.tape c.claim.new.disk) in
    let at = c.in_ok-at.at in
    let label = c.label_of-label.result in
    let later = c.label_of-label-2.result in
    let looks = c.in_ok-at.ensures.looks in
    let same = looks_pack looks told in
    let free = (c.in_ok-at.ensures.free told).free in
    let names = first_names 65535 c.real_of.result c.label_of-label.ensures in
    let counts = ap (λ l. (tag l).bytes) c.label_of-label.ensures in
    let later_names = leader_names c.real_of-2.result 65535 c.label_of-label-2.ensures in
    let claimed = c.in_ok-claim.ensures.alone.grown in
    let done = (c.in_ok-claim.ensures.guarded told).ok in
    let left = pack_done claimed done ∙ ap (λ x. after x (claim_writes at label root_words)) same in
    let last = c.in_ok-claim-2.ensures.alone.grown in
    let whole = (c.in_ok-claim-2.ensures.guarded told).ok in
    does_ok tt
    (going_done
    (going_done (going_looks (going_here a) looks told) claimed (subst (λ x. Mends x (claim_writes at label root_words)) (sym same) (page_mends p may at label root_words free c.in_ok-at.ensures.first names)) done)
    last (leader_mends p may at label root_words free c.in_ok-at.ensures.first names q left later c.fresh_leader-leader.result counts refl refl later_names c.fresh_leader-leader.ensures.says) whole)
    (root_made p may at label root_words free c.in_ok-at.ensures.first names q left later c.fresh_leader-leader.result counts refl refl later_names (pack (g.D.Tape.tape c.claim-2.new.disk)) (pack_done last whole))

pub returns-in_err-at-clause-frame : goal.returns-in_err-at-clause-frame
returns-in_err-at-clause-frame g c = usable_looks c.in_err-at.ensures.looks
