use Rattle.std.proofs.Common.{◌≡◌, true, ap, ◌∙◌, sym, subst, arith, refl}
use Rattle.disk_records.specs.Commands.{claim_writes}
use Rattle.disk_records.specs.Packs.{after, is_free_at}
use Rattle.disk_records.specs.Tapes.{pack}
use Rattle.disk_records.proofs.Framing.{usable_looks, usable_twice}
use Rattle.disk_records.proofs.Growing.{alone_here, alone_twice}
use Rattle.disk_records.proofs.Looking.{looks_pack}
use Rattle.label_check.proofs.Framing.{usable_claim, usable_release}
use Rattle.scav_pages.proofs.Causing.{cause_of_guarded}
use Rattle.scav_pages.proofs.Doing.{does_ok, does_stop_claim, does_stop_two, going_done, going_here, going_looks, pack_done}
use Rattle.scav_pages.proofs.Keeping.{Mends, mends_nothing}
use Rattle.scav_pages.proofs.Rooting.{copy_mends, first_free, moved, old_mends, root_carried, still_carried}
use Rattle.scav_pages.proofs.root.move_root.Goals as goal

pub returns-in_err-read_page-clause-does : goal.returns-in_err-read_page-clause-does
returns-in_err-read_page-clause-does g c = λ told may.
    let a = g.D.Tape.tape c.args.disk.now in
    does_stop_two c.in_err-read_page.field-0.0 c.from_residual.result (going_here a) c.in_err-read_page.ensures.looks.alone.grown (root_carried (pack a) c.args.old may c.requires.first) (mends_nothing (pack a)) (omega arith) (c.in_err-read_page.ensures.guarded told) c.from_residual.ensures.1

pub returns-in_err-read_page-clause-cause : goal.returns-in_err-read_page-clause-cause
returns-in_err-read_page-clause-cause g c = cause_of_guarded c.in_err-read_page.field-0.0 c.from_residual.result (alone_here _) refl c.in_err-read_page.ensures.looks.alone c.in_err-read_page.ensures.cause c.from_residual.ensures.1

pub returns-in_err-claim-clause-cause : goal.returns-in_err-claim-clause-cause
returns-in_err-claim-clause-cause g c = cause_of_guarded c.in_err-claim.field-0.0 c.from_residual-in_err-claim.result c.in_ok-read_page.ensures.looks.alone c.in_ok-read_page.ensures.cause c.in_err-claim.ensures.alone c.in_err-claim.ensures.cause c.from_residual-in_err-claim.ensures.1

pub returns-in_err-claim-clause-alone : goal.returns-in_err-claim-clause-alone
returns-in_err-claim-clause-alone g c = alone_twice c.in_ok-read_page.ensures.looks.alone c.in_err-claim.ensures.alone

pub returns-in_err-claim-clause-frame : goal.returns-in_err-claim-clause-frame
returns-in_err-claim-clause-frame g c = usable_twice c.in_ok-read_page.ensures.looks.alone c.in_err-claim.ensures.alone (usable_looks c.in_ok-read_page.ensures.looks) (usable_claim c.in_err-claim.ensures.guarded)

pub returns-in_err-release-clause-cause : goal.returns-in_err-release-clause-cause
returns-in_err-release-clause-cause g c = cause_of_guarded c.in_err-release.field-0.0 c.from_residual-in_err-release.result (alone_twice c.in_ok-read_page.ensures.looks.alone c.in_ok-claim.ensures.alone) (c.in_ok-claim.ensures.cause ∙ c.in_ok-read_page.ensures.cause) c.in_err-release.ensures.alone c.in_err-release.ensures.cause c.from_residual-in_err-release.ensures.1

pub returns-in_err-release-clause-alone : goal.returns-in_err-release-clause-alone
returns-in_err-release-clause-alone g c = alone_twice (alone_twice c.in_ok-read_page.ensures.looks.alone c.in_ok-claim.ensures.alone) c.in_err-release.ensures.alone

pub returns-in_err-release-clause-frame : goal.returns-in_err-release-clause-frame
returns-in_err-release-clause-frame g c = usable_twice (alone_twice c.in_ok-read_page.ensures.looks.alone c.in_ok-claim.ensures.alone) c.in_err-release.ensures.alone (usable_twice c.in_ok-read_page.ensures.looks.alone c.in_ok-claim.ensures.alone (usable_looks c.in_ok-read_page.ensures.looks) (usable_claim c.in_ok-claim.ensures.guarded)) (usable_release c.in_err-release.ensures.guarded)

pub returns-clause-alone : goal.returns-clause-alone
returns-clause-alone g c = alone_twice (alone_twice c.in_ok-read_page.ensures.looks.alone c.in_ok-claim.ensures.alone) c.in_ok-release.ensures.alone

pub returns-clause-frame : goal.returns-clause-frame
returns-clause-frame g c = usable_twice (alone_twice c.in_ok-read_page.ensures.looks.alone c.in_ok-claim.ensures.alone) c.in_ok-release.ensures.alone (usable_twice c.in_ok-read_page.ensures.looks.alone c.in_ok-claim.ensures.alone (usable_looks c.in_ok-read_page.ensures.looks) (usable_claim c.in_ok-claim.ensures.guarded)) (usable_release c.in_ok-release.ensures.guarded)

pub returns-in_err-claim-clause-does : goal.returns-in_err-claim-clause-does
returns-in_err-claim-clause-does g c = λ told may.
    let a = g.D.Tape.tape c.args.disk.now in
    let old = c.args.old in
    let s = c.read_page.new.buf in
    let looks = c.in_ok-read_page.ensures.looks in
    let holds = (c.in_ok-read_page.ensures.read told).holds in
    let same = looks_pack looks told in
    does_stop_claim c.in_err-claim.field-0.0 c.from_residual-in_err-claim.result (going_looks (going_here a) looks told) c.in_err-claim.ensures.alone.grown
    (subst (λ p. is_free_at p 1 ≡ true) (sym same) (first_free (pack a) old may c.requires.first))
    (subst (λ p. Mends p (claim_writes 1 s.label s.value)) (sym same) (copy_mends (pack a) old may c.requires.first s holds))
    (c.in_err-claim.ensures.guarded told) c.from_residual-in_err-claim.ensures.1

pub returns-in_err-release-clause-does : goal.returns-in_err-release-clause-does
returns-in_err-release-clause-does g c = λ told may.
    let a = g.D.Tape.tape c.args.disk.now in
    let old = c.args.old in
    let s = c.read_page.new.buf in
    let looks = c.in_ok-read_page.ensures.looks in
    let holds = (c.in_ok-read_page.ensures.read told).holds in
    let same = looks_pack looks told in
    let claimed = c.in_ok-claim.ensures.alone.grown in
    let done = (c.in_ok-claim.ensures.guarded told).ok in
    let left = pack_done claimed done ∙ ap (λ p. after p (claim_writes 1 s.label s.value)) same in
    does_stop_two c.in_err-release.field-0.0 c.from_residual-in_err-release.result
    (going_done (going_looks (going_here a) looks told) claimed (subst (λ p. Mends p (claim_writes 1 s.label s.value)) (sym same) (copy_mends (pack a) old may c.requires.first s holds)) done)
    c.in_err-release.ensures.alone.grown
    (still_carried (pack a) old may c.requires.first s holds (pack (g.D.Tape.tape c.claim.new.disk)) left)
    (old_mends (pack a) old may c.requires.first s holds (pack (g.D.Tape.tape c.claim.new.disk)) left)
    (omega arith) (c.in_err-release.ensures.guarded told) c.from_residual-in_err-release.ensures.1

pub returns-clause-does : goal.returns-clause-does
returns-clause-does g c = λ told may.
    let a = g.D.Tape.tape c.args.disk.now in
    let old = c.args.old in
    let s = c.read_page.new.buf in
    let looks = c.in_ok-read_page.ensures.looks in
    let holds = (c.in_ok-read_page.ensures.read told).holds in
    let same = looks_pack looks told in
    let claimed = c.in_ok-claim.ensures.alone.grown in
    let done = (c.in_ok-claim.ensures.guarded told).ok in
    let left = pack_done claimed done ∙ ap (λ p. after p (claim_writes 1 s.label s.value)) same in
    let released = c.in_ok-release.ensures.alone.grown in
    let gone = (c.in_ok-release.ensures.guarded told).ok in
    does_ok tt
    (going_done (going_done (going_looks (going_here a) looks told) claimed (subst (λ p. Mends p (claim_writes 1 s.label s.value)) (sym same) (copy_mends (pack a) old may c.requires.first s holds)) done)
    released (old_mends (pack a) old may c.requires.first s holds (pack (g.D.Tape.tape c.claim.new.disk)) left) gone)
    (moved (pack a) old may c.requires.first s holds (pack (g.D.Tape.tape c.claim.new.disk)) left (pack (g.D.Tape.tape c.release.new.disk)) (pack_done released gone))

pub returns-in_err-read_page-clause-frame : goal.returns-in_err-read_page-clause-frame
returns-in_err-read_page-clause-frame g c = usable_looks c.in_err-read_page.ensures.looks
