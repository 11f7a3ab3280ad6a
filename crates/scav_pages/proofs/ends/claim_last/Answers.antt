use Rattle.std.proofs.Common.{◌≡◌, ◌<◌, ◌+◌, Some, true, false, ◌∙◌, sym, subst, arith, refl}
use Rattle.alto_words.specs.Fid.{is_fid, disk_descriptor}
use Rattle.disk_records.specs.Tapes.{pack}
use Rattle.disk_records.proofs.Growing.{alone_here}
use Rattle.scav_pages.specs.Ends.{MayClaim}
use Rattle.scav_pages.specs.Parts.{PageClaimed}
use Rattle.scav_pages.specs.Walks.{file_in_hand}
use Rattle.scav_pages.proofs.Causing.{cause_of_part}
use Rattle.scav_pages.proofs.Doing.{does_ok, does_stop_part, going_does, going_here}
use Rattle.scav_pages.proofs.Ending.{claims_for_hand, few_pages, last_was_claimed, may_claim_last_page, other_by_words}
use Rattle.scav_pages.proofs.ends.claim_last.Goals as goal

pub returns-in_default-checked_add-clause-does : goal.returns-in_default-checked_add-clause-does
returns-in_default-checked_add-clause-does g c = λ told may.
    let hand : file_in_hand c.args.walk.now ≡ Some c.in-Some.fid = sym c.fid.ensures ∙ c.in-Some.is in
    let on : c.args.walk.now.goes_on ≡ true = sym c.goes_on.ensures ∙ c.if-not-goes_on.false in
    let few = few_pages (pack (g.D.Tape.tape c.args.disk.now)) c.args.walk.now c.args.from.now may c.in-Some.fid hand (other_by_words c.in-Some.fid (sym c.eq.ensures ∙ c.if-eq.false)) on in
    let within : c.pages.result + 1 < 65536 = omega (arith, few, c.pages.ensures) in
    absurd (c.in_default-checked_add.ensures within)

pub returns-in_err-claim_page-clause-does : goal.returns-in_err-claim_page-clause-does
returns-in_err-claim_page-clause-does g c = λ told may.
    let a = g.D.Tape.tape c.args.disk.now in
    let hand : file_in_hand c.args.walk.now ≡ Some c.in-Some.fid = sym c.fid.ensures ∙ c.in-Some.is in
    let on : c.args.walk.now.goes_on ≡ true = sym c.goes_on.ensures ∙ c.if-not-goes_on.false in
    let number : c.in-Some-checked_add.number ≡ c.args.walk.now.pages + 1 = omega (arith, c.in-Some-checked_add.ensures, c.pages.ensures) in
    let wants = subst (λ n. MayClaim (pack a) (record { fid = c.in-Some.fid; number = n }) 0 c.args.from.now) (sym number) (may_claim_last_page (pack a) c.args.walk.now c.args.from.now may c.in-Some.fid hand (other_by_words c.in-Some.fid (sym c.eq.ensures ∙ c.if-eq.false)) on) in
    does_stop_part c.in_err-claim_page.field-0.0 c.from_residual.result (going_here a) c.in_err-claim_page.ensures.alone.grown (c.in_err-claim_page.ensures.does told wants) c.from_residual.ensures.1

pub returns-in_err-claim_page-clause-cause : goal.returns-in_err-claim_page-clause-cause
returns-in_err-claim_page-clause-cause g c = cause_of_part c.in_err-claim_page.field-0.0 c.from_residual.result (alone_here _) refl c.in_err-claim_page.ensures.alone c.in_err-claim_page.ensures.cause c.from_residual.ensures.1

pub returns-clause-does : goal.returns-clause-does
returns-clause-does g c = λ told may.
    let a = g.D.Tape.tape c.args.disk.now in
    let b = g.D.Tape.tape c.claim_page.new.disk in
    let hand : file_in_hand c.args.walk.now ≡ Some c.in-Some.fid = sym c.fid.ensures ∙ c.in-Some.is in
    let on : c.args.walk.now.goes_on ≡ true = sym c.goes_on.ensures ∙ c.if-not-goes_on.false in
    let apart : is_fid c.in-Some.fid disk_descriptor ≡ false = other_by_words c.in-Some.fid (sym c.eq.ensures ∙ c.if-eq.false) in
    let number : c.in-Some-checked_add.number ≡ c.args.walk.now.pages + 1 = omega (arith, c.in-Some-checked_add.ensures, c.pages.ensures) in
    let wants = subst (λ n. MayClaim (pack a) (record { fid = c.in-Some.fid; number = n }) 0 c.args.from.now) (sym number) (may_claim_last_page (pack a) c.args.walk.now c.args.from.now may c.in-Some.fid hand apart on) in
    let d = c.in_ok-claim_page.ensures.does told wants in
    does_ok tt (going_does (going_here a) c.in_ok-claim_page.ensures.alone.grown d)
    (last_was_claimed (pack a) c.args.walk.now c.args.from.now may c.in-Some.fid hand apart on (pack b) c.in_ok-claim_page.field-0 c.claim_page.new.from
    (subst (λ n. PageClaimed (record { fid = c.in-Some.fid; number = n }) 0 c.claim_page.new.from (pack a) (pack b) c.in_ok-claim_page.field-0) number d.leaves))

pub returns-clause-wrote : goal.returns-clause-wrote
returns-clause-wrote g c = λ told.
    let a = g.D.Tape.tape c.args.disk.now in
    let b = g.D.Tape.tape c.claim_page.new.disk in
    claims_for_hand (pack a) (pack b) c.args.walk.now (record { fid = c.in-Some.fid; number = c.in-Some-checked_add.number }) c.in_ok-claim_page.field-0 (sym c.fid.ensures ∙ c.in-Some.is) (c.in_ok-claim_page.ensures.wrote told)
