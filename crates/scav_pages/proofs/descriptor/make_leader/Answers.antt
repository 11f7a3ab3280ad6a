use Rattle.std.proofs.Common.{◌≡◌, Some, true, ap, ◌∙◌, refl, sym, subst, arith}
use Rattle.disk_records.specs.Labels.{page_of}
use Rattle.disk_records.specs.Packs.{after, is_free_at}
use Rattle.disk_records.specs.Commands.{claim_writes}
use Rattle.disk_records.specs.Tapes.{pack}
use Rattle.disk_records.proofs.Framing.{usable_looks, usable_twice}
use Rattle.disk_records.proofs.Growing.{alone_here, alone_twice}
use Rattle.disk_records.proofs.Looking.{looks_pack}
use Rattle.label_check.proofs.Framing.{usable_claim}
use Rattle.scav_pages.proofs.Causing.{cause_of_guarded, cause_of_part}
use Rattle.scav_pages.proofs.Doing.{does_ok, does_stop_claim, does_stop_looking, going_done, going_here, going_looks, pack_done}
use Rattle.scav_pages.proofs.Claiming.{named_ranged, names_its_page}
use Rattle.scav_pages.proofs.Describing.{its_page, leader_lasts, leader_place_free, leader_mends}
use Rattle.scav_pages.proofs.Keeping.{Mends}
use Rattle.scav_pages.proofs.descriptor.make_leader.Goals as goal

pub returns-in_err-at-clause-does : goal.returns-in_err-at-clause-does
returns-in_err-at-clause-does g c = λ told may.
    does_stop_looking c.in_err-at.field-0.0 c.from_residual.result (going_here (g.D.Tape.tape c.args.disk.now)) c.in_err-at.ensures.looks told
    (λ astray. leader_place_free (pack (g.D.Tape.tape c.args.disk.now)) c.args.places.now c.args.from.now may c.requires.lacks (c.in_err-at.ensures.none told astray))
    (c.in_err-at.ensures.want told) c.from_residual.ensures.1

pub returns-in_err-at-clause-cause : goal.returns-in_err-at-clause-cause
returns-in_err-at-clause-cause g c = cause_of_part c.in_err-at.field-0.0 c.from_residual.result (alone_here _) refl c.in_err-at.ensures.looks.alone c.in_err-at.ensures.cause c.from_residual.ensures.1

pub claim-requires-clause-label : goal.claim-requires-clause-label
claim-requires-clause-label g c = named_ranged c.label_of-label.result (its_page 0) (ap page_of c.label_of-label.ensures ∙ names_its_page (its_page 0) 512 c.real_of.result 65535 refl (omega arith) (omega arith))

pub returns-in_err-claim-clause-cause : goal.returns-in_err-claim-clause-cause
returns-in_err-claim-clause-cause g c = cause_of_guarded c.in_err-claim.field-0.0 c.from_residual-in_err-claim.result c.in_ok-at.ensures.looks.alone c.in_ok-at.ensures.cause c.in_err-claim.ensures.alone c.in_err-claim.ensures.cause c.from_residual-in_err-claim.ensures.1

pub returns-in_err-claim-clause-alone : goal.returns-in_err-claim-clause-alone
returns-in_err-claim-clause-alone g c = alone_twice c.in_ok-at.ensures.looks.alone c.in_err-claim.ensures.alone

pub returns-in_err-claim-clause-frame : goal.returns-in_err-claim-clause-frame
returns-in_err-claim-clause-frame g c = usable_twice c.in_ok-at.ensures.looks.alone c.in_err-claim.ensures.alone (usable_looks c.in_ok-at.ensures.looks) (usable_claim c.in_err-claim.ensures.guarded)

pub returns-clause-alone : goal.returns-clause-alone
returns-clause-alone g c = alone_twice c.in_ok-at.ensures.looks.alone c.in_ok-claim.ensures.alone

pub returns-clause-frame : goal.returns-clause-frame
returns-clause-frame g c = usable_twice c.in_ok-at.ensures.looks.alone c.in_ok-claim.ensures.alone (usable_looks c.in_ok-at.ensures.looks) (usable_claim c.in_ok-claim.ensures.guarded)

pub returns-in_err-claim-clause-does : goal.returns-in_err-claim-clause-does
returns-in_err-claim-clause-does g c = λ told may.
    let a = g.D.Tape.tape c.args.disk.now in
    let label = c.label_of-label.result in
    let value = c.fresh_leader-leader.result in
    let at = c.in_ok-at.at in
    let looks = c.in_ok-at.ensures.looks in
    let same = looks_pack looks told in
    let found = c.in_ok-at.ensures.free told in
    let names : page_of label ≡ Some (its_page 0) = ap page_of c.label_of-label.ensures ∙ names_its_page (its_page 0) 512 c.real_of.result 65535 refl (omega arith) (omega arith) in
    does_stop_claim c.in_err-claim.field-0.0 c.from_residual-in_err-claim.result (going_looks (going_here a) looks told) c.in_err-claim.ensures.alone.grown
    (subst (λ p. is_free_at p at ≡ true) (sym same) found.free)
    (subst (λ p. Mends p (claim_writes at label value)) (sym same) (leader_mends (pack a) c.args.places.now c.args.from.now may c.requires.lacks at label value found.free names c.fresh_leader-leader.ensures.says))
    (c.in_err-claim.ensures.guarded told) c.from_residual-in_err-claim.ensures.1

pub returns-clause-does : goal.returns-clause-does
returns-clause-does g c = λ told may.
    let a = g.D.Tape.tape c.args.disk.now in
    let label = c.label_of-label.result in
    let value = c.fresh_leader-leader.result in
    let at = c.in_ok-at.at in
    let looks = c.in_ok-at.ensures.looks in
    let same = looks_pack looks told in
    let found = c.in_ok-at.ensures.free told in
    let names : page_of label ≡ Some (its_page 0) = ap page_of c.label_of-label.ensures ∙ names_its_page (its_page 0) 512 c.real_of.result 65535 refl (omega arith) (omega arith) in
    let grown = c.in_ok-claim.ensures.alone.grown in
    let done = (c.in_ok-claim.ensures.guarded told).ok in
    let left = pack_done grown done ∙ ap (λ p. after p (claim_writes at label value)) same in
    let mends = subst (λ p. Mends p (claim_writes at label value)) (sym same) (leader_mends (pack a) c.args.places.now c.args.from.now may c.requires.lacks at label value found.free names c.fresh_leader-leader.ensures.says) in
    does_ok tt (going_done (going_looks (going_here a) looks told) grown mends done)
    (leader_lasts (pack a) c.args.places.now c.args.from.now may c.requires.lacks (pack (g.D.Tape.tape c.claim.new.disk)) at label value found.free names left)

pub returns-in_err-at-clause-frame : goal.returns-in_err-at-clause-frame
returns-in_err-at-clause-frame g c = usable_looks c.in_err-at.ensures.looks
