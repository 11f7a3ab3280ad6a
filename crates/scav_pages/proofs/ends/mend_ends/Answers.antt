use Rattle.std.proofs.Common.{◌≡◌, ◌<◌, ◌≤◌, true, ℕ, Option, IsTrue, None, Some, IfSome, ap, sym, subst, ◌∙◌, rules, arith, refl}
use Rattle.std.specs.Option.{option_map_or, option_or}
use Rattle.std.proofs.lemmas.List.{get_or-replicate}
use Rattle.std.proofs.lemmas.List.Elements.{All-replicate}
use Rattle.disk_records.specs.Addresses.{pages_of}
use Rattle.disk_records.specs.Causes.{Unfailed}
use Rattle.disk_records.specs.Frames.{WritesUsable}
use Rattle.disk_records.specs.Tapes.{pack}
use Rattle.disk_records.proofs.Framing.{usable_looks, usable_twice}
use Rattle.disk_records.proofs.Growing.{alone_here, alone_twice}
use Rattle.disk_records.proofs.Looking.{looks_pack}
use Rattle.scav_table.specs.declared.row.Row.{Row}
use Rattle.scav_table.specs.Laws.{IsNextRow}
use Rattle.scav_table.specs.Passes.{IsNext}
use Rattle.scav_table.specs.Rows.{is_above}
use Rattle.scav_pages.specs.Ends.{AreWithin}
use Rattle.scav_pages.specs.Walks.{AreWords, IsOtherFile, sector_in_hand}
use Rattle.scav_pages.proofs.Causing.{cause_of_part, cause_of_swept, cause_sooner}
use Rattle.scav_pages.proofs.Ahead.{ahead, ahead_falls}
use Rattle.scav_pages.proofs.Doing.{does_last, does_stop_looking, does_stop_part}
use Rattle.scav_pages.proofs.EndsPass.{IsReadyFor, claims_end, claims_look, claims_row, claims_start, last_left, left_may, ready_left, ready_same, row_left}
use Rattle.scav_pages.proofs.LastPages.{may_begin}
use Rattle.scav_pages.proofs.Passing.{contrary, first_above_stays}
use Rattle.scav_pages.proofs.ends.mend_ends.Goals as goal
use Rattle.scav_pages.proofs.ends.mend_ends.Goals.{then-leaves+in_ok-claim_last, else-leaves}

pub returns-in_err-pass-clause-cause : goal.returns-in_err-pass-clause-cause
returns-in_err-pass-clause-cause g c = cause_of_swept c.in_err-pass.field-0.0 c.from_residual.result (alone_here _) refl c.in_err-pass.ensures.looks.alone c.in_err-pass.ensures.cause c.from_residual.ensures.1

pub loop-row-init : goal.loop-row-init
loop-row-init g c =
    let a = g.D.Tape.tape c.args.disk.now in
    let least = a.form.least_pages in
    let zero : sector_in_hand c.new-walk.result ≡ 0 = ap (λ (o : Option Row). option_map_or (λ (r : Row). r.at) o 0) c.new-walk.ensures.fresh.last in
    record {
      alone = c.in_ok-pass.ensures.looks.alone;
      unfailed = c.in_ok-pass.ensures.cause;
      frame = usable_looks c.in_ok-pass.ensures.looks;
      stands = c.in_ok-pass.ensures.stands;
      first = omega arith;
      within = All-replicate (λ (at : ℕ). at < pages_of a.form) 6 0 (omega (arith, least));
      sector = omega (arith, zero, least);
      claims = claims_start c.in_ok-pass.ensures.looks c.in_ok-pass.ensures.first
          (λ k. c.new-walk.ensures.start (pack a) c.in_ok-pass.pass.last (g.met.D.Disk.formed c.args.disk.now k) (may_begin (pack a) c.in_ok-pass.pass.last c.in_ok-pass.ensures.first)) (λ n few. get_or-replicate {A = ℕ} 6 n 0 0 few);
    }

pub returns-in_err-row-clause-cause : goal.returns-in_err-row-clause-cause
returns-in_err-row-clause-cause g c = cause_of_part c.in_err-row.field-0.0 c.from_residual-in_err-row.result c.loop-row.invariant.alone c.loop-row.invariant.unfailed c.in_err-row.ensures.looks.alone c.in_err-row.ensures.cause c.from_residual-in_err-row.ensures.1

pub returns-in_err-row-clause-alone : goal.returns-in_err-row-clause-alone
returns-in_err-row-clause-alone g c = alone_twice c.loop-row.invariant.alone c.in_err-row.ensures.looks.alone

pub returns-in_err-row-clause-frame : goal.returns-in_err-row-clause-frame
returns-in_err-row-clause-frame g c = usable_twice c.loop-row.invariant.alone c.in_err-row.ensures.looks.alone c.loop-row.invariant.frame (usable_looks c.in_err-row.ensures.looks)

pub returns-in_err-row-clause-does : goal.returns-in_err-row-clause-does
returns-in_err-row-clause-does g c = λ told can rooted.
    let read = c.in_err-row.ensures in
    does_stop_looking c.in_err-row.field-0.0 c.from_residual-in_err-row.result (c.loop-row.invariant.claims.going told can rooted) read.looks told (read.found told) (read.want told) c.from_residual-in_err-row.ensures.1

pub claim_last-requires-clause-place : goal.claim_last-requires-clause-place
claim_last-requires-clause-place g c = subst (λ s. sector_in_hand c.loop-row.walk < pages_of s) (sym (alone_twice c.loop-row.invariant.alone c.in_ok-row.ensures.looks.alone).grown.form) c.loop-row.invariant.sector

pub returns-in_err-claim_last-clause-cause : goal.returns-in_err-claim_last-clause-cause
returns-in_err-claim_last-clause-cause g c = cause_of_part c.in_err-claim_last.field-0.0 c.from_residual-in_err-claim_last.result (alone_twice c.loop-row.invariant.alone c.in_ok-row.ensures.looks.alone) (c.in_ok-row.ensures.cause ∙ c.loop-row.invariant.unfailed) c.in_err-claim_last.ensures.alone c.in_err-claim_last.ensures.cause c.from_residual-in_err-claim_last.ensures.1

pub returns-in_err-claim_last-clause-alone : goal.returns-in_err-claim_last-clause-alone
returns-in_err-claim_last-clause-alone g c = alone_twice (alone_twice c.loop-row.invariant.alone c.in_ok-row.ensures.looks.alone) c.in_err-claim_last.ensures.alone

pub returns-in_err-claim_last-clause-frame : goal.returns-in_err-claim_last-clause-frame
returns-in_err-claim_last-clause-frame g c = usable_twice (alone_twice c.loop-row.invariant.alone c.in_ok-row.ensures.looks.alone) c.in_err-claim_last.ensures.alone (usable_twice c.loop-row.invariant.alone c.in_ok-row.ensures.looks.alone c.loop-row.invariant.frame (usable_looks c.in_ok-row.ensures.looks)) c.in_err-claim_last.ensures.frame

pub returns-in_err-claim_last-clause-does : goal.returns-in_err-claim_last-clause-does
returns-in_err-claim_last-clause-does g c = λ told can rooted.
    let x = claims_look c.loop-row.invariant.claims c.in_ok-row.ensures.looks in
    let row = c.in-Some.row in
    let first = λ (k : IsTrue g.D.Tape.told). first_above_stays (c.loop-row.invariant.claims.follows k).ahead (subst (IsNextRow (pack (g.D.Tape.tape c.loop-row.disk)) c.loop-row.pass.last) c.in-Some.is (c.in_ok-row.ensures.next k)) in
    let words : AreWords c.in-Some.row = subst (λ o. IfSome o AreWords) c.in-Some.is c.in_ok-row.ensures.words in
    let above : is_above c.loop-row.pass.last c.in-Some.row ≡ true = (subst (IsNext c.loop-row.pass.last) c.in-Some.is c.in_ok-row.ensures.rises).0 in
    let last_is : c.next_row.new.pass.last ≡ Some c.in-Some.row = c.in_ok-row.ensures.last ∙ ap (λ o. option_or o c.loop-row.pass.last) c.in-Some.is in
    let before = alone_twice c.loop-row.invariant.alone c.in_ok-row.ensures.looks.alone in
    let other : IsOtherFile c.loop-row.walk c.in-Some.row = c.leaves.ensures.0 (search rules) in
    let may = left_may x (row_left x c.next_row.new.table c.next_row.new.pass row words above first c.in_ok-row.ensures.stands last_is before other) told can rooted in
    does_stop_part c.in_err-claim_last.field-0.0 c.from_residual-in_err-claim_last.result (x.going told can rooted) c.in_err-claim_last.ensures.alone.grown (c.in_err-claim_last.ensures.does told may) c.from_residual-in_err-claim_last.ensures.1

pub loop-row-smaller : goal.loop-row-smaller
loop-row-smaller g c =
    let last_is : c.next_row.new.pass.last ≡ Some c.in-Some.row = c.in_ok-row.ensures.last ∙ ap (λ o. option_or o c.loop-row.pass.last) c.in-Some.is in
    subst (λ l. ahead l < ahead c.loop-row.pass.last) (sym last_is) (ahead_falls c.loop-row.pass.last c.in-Some.row (subst (IsNext c.loop-row.pass.last) c.in-Some.is c.in_ok-row.ensures.rises))

pub loop-row-preserved : goal.loop-row-preserved
loop-row-preserved g c =
    let a = g.D.Tape.tape c.args.disk.now in
    let inv = c.loop-row.invariant in
    let x = claims_look c.loop-row.invariant.claims c.in_ok-row.ensures.looks in
    let row = c.in-Some.row in
    let first = λ (k : IsTrue g.D.Tape.told). first_above_stays (c.loop-row.invariant.claims.follows k).ahead (subst (IsNextRow (pack (g.D.Tape.tape c.loop-row.disk)) c.loop-row.pass.last) c.in-Some.is (c.in_ok-row.ensures.next k)) in
    let words : AreWords c.in-Some.row = subst (λ o. IfSome o AreWords) c.in-Some.is c.in_ok-row.ensures.words in
    let above : is_above c.loop-row.pass.last c.in-Some.row ≡ true = (subst (IsNext c.loop-row.pass.last) c.in-Some.is c.in_ok-row.ensures.rises).0 in
    let last_is : c.next_row.new.pass.last ≡ Some c.in-Some.row = c.in_ok-row.ensures.last ∙ ap (λ o. option_or o c.loop-row.pass.last) c.in-Some.is in
    let before = alone_twice c.loop-row.invariant.alone c.in_ok-row.ensures.looks.alone in
    let low : c.in-Some.row.at < pages_of a.form =
    subst (λ s. c.in-Some.row.at < pages_of s) inv.alone.grown.form (subst (λ o. IfSome o (λ (r : Row). (1 ≤ r.at) × (r.at < pages_of (g.D.Tape.tape c.loop-row.disk).form))) c.in-Some.is c.in_ok-row.ensures.place).1 in
    let ready : IsReadyFor g.D.Tape.told (g.D.Tape.tape c.args.disk.now) (g.D.Tape.tape c.if-leaves.disk) c.next_row.new.table c.next_row.new.pass c.in-Some.row c.loop-row.places c.if-leaves.from = elim c.if-leaves.branch [
      | then-leaves+in_ok-claim_last w ↦
          let other : IsOtherFile c.loop-row.walk c.in-Some.row = c.leaves.ensures.0 (search rules) in
          subst (λ n. IsReadyFor g.D.Tape.told (g.D.Tape.tape c.args.disk.now) (g.D.Tape.tape c.if-leaves.disk) c.next_row.new.table c.next_row.new.pass c.in-Some.row c.loop-row.places n) (sym w.from-is)
          (subst (λ d. IsReadyFor g.D.Tape.told (g.D.Tape.tape c.args.disk.now) (g.D.Tape.tape d) c.next_row.new.table c.next_row.new.pass c.in-Some.row c.loop-row.places w.claim_last.new.from) (sym w.disk-is)
          (ready_left x c.next_row.new.table c.next_row.new.pass row words above first c.in_ok-row.ensures.stands last_is before other w.in_ok-claim_last.ensures.alone w.in_ok-claim_last.ensures.first w.in_ok-claim_last.ensures.does w.in_ok-claim_last.ensures.wrote))
      | else-leaves w ↦
          subst (λ n. IsReadyFor g.D.Tape.told (g.D.Tape.tape c.args.disk.now) (g.D.Tape.tape c.if-leaves.disk) c.next_row.new.table c.next_row.new.pass c.in-Some.row c.loop-row.places n) (sym w.from-is)
          (subst (λ d. IsReadyFor g.D.Tape.told (g.D.Tape.tape c.args.disk.now) (g.D.Tape.tape d) c.next_row.new.table c.next_row.new.pass c.in-Some.row c.loop-row.places c.loop-row.from) (sym w.disk-is)
          (ready_same x c.next_row.new.table c.next_row.new.pass row words above first c.in_ok-row.ensures.stands last_is before inv.first (λ other. contrary (c.leaves.ensures.1 other) w.if-leaves.false)))
    ] in
    let so_far : Unfailed a (g.D.Tape.tape c.next_row.new.disk) = c.in_ok-row.ensures.cause ∙ inv.unfailed in
    let unfailed : Unfailed a (g.D.Tape.tape c.if-leaves.disk) = elim c.if-leaves.branch [
      | then-leaves+in_ok-claim_last w ↦ subst (λ d. Unfailed a (g.D.Tape.tape d)) (sym w.disk-is) (w.in_ok-claim_last.ensures.cause ∙ so_far)
      | else-leaves w ↦ subst (λ d. Unfailed a (g.D.Tape.tape d)) (sym w.disk-is) so_far
    ] in
    let looked = usable_twice inv.alone c.in_ok-row.ensures.looks.alone inv.frame (usable_looks c.in_ok-row.ensures.looks) in
    let frame : WritesUsable g.D.Tape.told a (g.D.Tape.tape c.if-leaves.disk) = elim c.if-leaves.branch [
      | then-leaves+in_ok-claim_last w ↦ subst (λ d. WritesUsable g.D.Tape.told a (g.D.Tape.tape d)) (sym w.disk-is) (usable_twice before w.in_ok-claim_last.ensures.alone looked w.in_ok-claim_last.ensures.frame)
      | else-leaves w ↦ subst (λ d. WritesUsable g.D.Tape.told a (g.D.Tape.tape d)) (sym w.disk-is) looked
    ] in
    record {
      alone = ready.alone;
      unfailed = unfailed;
      frame = frame;
      stands = ready.stands;
      first = ready.first;
      within = c.note_page.ensures.within (pages_of a.form) low inv.within;
      sector = c.meet.ensures.at (pages_of a.form) inv.sector low;
      claims = claims_row c.meet.new.self c.note_page.new.places ready last_is (λ k. c.meet.ensures.walked (pack a) c.loop-row.pass.last (inv.claims.follows k).walked (first k)) c.meet.ensures.hand c.note_page.ensures.noted;
    }

pub claim_last-requires-2-clause-place : goal.claim_last-requires-2-clause-place
claim_last-requires-2-clause-place g c = subst (λ s. sector_in_hand c.loop-row.walk < pages_of s) (sym (alone_twice c.loop-row.invariant.alone c.in_ok-row.ensures.looks.alone).grown.form) c.loop-row.invariant.sector

pub returns-in_err-claim_last-2-clause-cause : goal.returns-in_err-claim_last-2-clause-cause
returns-in_err-claim_last-2-clause-cause g c = cause_of_part c.in_err-claim_last-2.field-0.0 c.from_residual-in_err-claim_last-2.result (alone_twice c.loop-row.invariant.alone c.in_ok-row.ensures.looks.alone) (c.in_ok-row.ensures.cause ∙ c.loop-row.invariant.unfailed) c.in_err-claim_last-2.ensures.alone c.in_err-claim_last-2.ensures.cause c.from_residual-in_err-claim_last-2.ensures.1

pub returns-in_err-claim_last-2-clause-alone : goal.returns-in_err-claim_last-2-clause-alone
returns-in_err-claim_last-2-clause-alone g c = alone_twice (alone_twice c.loop-row.invariant.alone c.in_ok-row.ensures.looks.alone) c.in_err-claim_last-2.ensures.alone

pub returns-in_err-claim_last-2-clause-frame : goal.returns-in_err-claim_last-2-clause-frame
returns-in_err-claim_last-2-clause-frame g c = usable_twice (alone_twice c.loop-row.invariant.alone c.in_ok-row.ensures.looks.alone) c.in_err-claim_last-2.ensures.alone (usable_twice c.loop-row.invariant.alone c.in_ok-row.ensures.looks.alone c.loop-row.invariant.frame (usable_looks c.in_ok-row.ensures.looks)) c.in_err-claim_last-2.ensures.frame

pub returns-in_err-claim_last-2-clause-does : goal.returns-in_err-claim_last-2-clause-does
returns-in_err-claim_last-2-clause-does g c = λ told can rooted.
    let x = claims_look c.loop-row.invariant.claims c.in_ok-row.ensures.looks in
    let none = λ (k : IsTrue g.D.Tape.told). subst (λ p. IsNextRow p c.loop-row.pass.last None) (sym (looks_pack c.in_ok-row.ensures.looks k)) (subst (IsNextRow (pack (g.D.Tape.tape c.loop-row.disk)) c.loop-row.pass.last) c.in_default.is (c.in_ok-row.ensures.next k)) in
    let may = left_may x (last_left x none) told can rooted in
    does_stop_part c.in_err-claim_last-2.field-0.0 c.from_residual-in_err-claim_last-2.result (x.going told can rooted) c.in_err-claim_last-2.ensures.alone.grown (c.in_err-claim_last-2.ensures.does told may) c.from_residual-in_err-claim_last-2.ensures.1

pub mend_descriptor-requires-clause-within : goal.mend_descriptor-requires-clause-within
mend_descriptor-requires-clause-within g c = subst (λ s. AreWithin (pages_of s) c.loop-row.places) (sym (alone_twice (alone_twice c.loop-row.invariant.alone c.in_ok-row.ensures.looks.alone) c.in_ok-claim_last-2.ensures.alone).grown.form) c.loop-row.invariant.within

pub returns-clause-cause : goal.returns-clause-cause
returns-clause-cause g c =
    cause_sooner (g.D.Tape.tape c.args.disk.now) (g.D.Tape.tape c.claim_last-2.new.disk) (g.D.Tape.tape c.mend_descriptor.new.disk) c.mend_descriptor.result (c.in_ok-claim_last-2.ensures.cause ∙ c.in_ok-row.ensures.cause ∙ c.loop-row.invariant.unfailed) c.mend_descriptor.ensures.cause

pub returns-clause-alone : goal.returns-clause-alone
returns-clause-alone g c = alone_twice (alone_twice (alone_twice c.loop-row.invariant.alone c.in_ok-row.ensures.looks.alone) c.in_ok-claim_last-2.ensures.alone) c.mend_descriptor.ensures.alone

pub returns-clause-frame : goal.returns-clause-frame
returns-clause-frame g c = usable_twice (alone_twice (alone_twice c.loop-row.invariant.alone c.in_ok-row.ensures.looks.alone) c.in_ok-claim_last-2.ensures.alone) c.mend_descriptor.ensures.alone (usable_twice (alone_twice c.loop-row.invariant.alone c.in_ok-row.ensures.looks.alone) c.in_ok-claim_last-2.ensures.alone (usable_twice c.loop-row.invariant.alone c.in_ok-row.ensures.looks.alone c.loop-row.invariant.frame (usable_looks c.in_ok-row.ensures.looks)) c.in_ok-claim_last-2.ensures.frame) c.mend_descriptor.ensures.frame

pub returns-clause-does : goal.returns-clause-does
returns-clause-does g c = λ told can rooted.
    let x = claims_look c.loop-row.invariant.claims c.in_ok-row.ensures.looks in
    let none = λ (k : IsTrue g.D.Tape.told). subst (λ p. IsNextRow p c.loop-row.pass.last None) (sym (looks_pack c.in_ok-row.ensures.looks k)) (subst (IsNextRow (pack (g.D.Tape.tape c.loop-row.disk)) c.loop-row.pass.last) c.in_default.is (c.in_ok-row.ensures.next k)) in
    let both = claims_end x none c.in_ok-claim_last-2.ensures.alone.grown c.in_ok-claim_last-2.ensures.does told can rooted in
    does_last c.mend_descriptor.result both.0 c.mend_descriptor.ensures.alone.grown (c.mend_descriptor.ensures.does told both.1) (λ l. l)

pub returns-in_err-pass-clause-frame : goal.returns-in_err-pass-clause-frame
returns-in_err-pass-clause-frame g c = usable_looks c.in_err-pass.ensures.looks
