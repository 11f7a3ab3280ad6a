use Rattle.std.proofs.Common.{◌≡◌, ◌<◌, ◌≤◌, true, IfSome, IsTrue, None, Some, arith, ap, sym, subst, ◌∙◌, refl}
use Rattle.std.specs.Option.{option_or}
use Rattle.disk_records.specs.Addresses.{pages_of}
use Rattle.disk_records.specs.Tapes.{pack}
use Rattle.disk_records.proofs.Framing.{usable_looks, usable_twice}
use Rattle.disk_records.proofs.Growing.{alone_here, alone_twice}
use Rattle.disk_records.proofs.Looking.{looks_pack}
use Rattle.laws_mend.specs.Parts.{Lasting}
use Rattle.scav_table.specs.Laws.{IsFirstAbove, IsNextRow}
use Rattle.scav_table.specs.Passes.{IsNext}
use Rattle.scav_table.specs.Rows.{is_above}
use Rattle.scav_pages.specs.Links.{MayMeet, MendedTo, last_row}
use Rattle.scav_pages.specs.Walks.{AreWords}
use Rattle.scav_pages.proofs.Causing.{cause_of_part, cause_of_swept, cause_sooner}
use Rattle.scav_pages.proofs.Doing.{does_stop_part, going_does, going_looks}
use Rattle.scav_pages.proofs.LinkPass.{links_last, links_none, may_meet, stands_met}
use Rattle.scav_pages.proofs.links.mend_links.Goals as goal

pub returns-in_err-pass-clause-cause : goal.returns-in_err-pass-clause-cause
returns-in_err-pass-clause-cause g c = cause_of_swept c.in_err-pass.field-0.0 c.from_residual.result (alone_here _) refl c.in_err-pass.ensures.looks.alone c.in_err-pass.ensures.cause c.from_residual.ensures.1

pub returns-in_err-row-clause-cause : goal.returns-in_err-row-clause-cause
returns-in_err-row-clause-cause g c = cause_of_part c.in_err-row.field-0.0 c.from_residual-in_err-row.result c.loop-row.invariant.alone c.loop-row.invariant.unfailed c.in_err-row.ensures.looks.alone c.in_err-row.ensures.cause c.from_residual-in_err-row.ensures.1

pub returns-in_err-row-clause-alone : goal.returns-in_err-row-clause-alone
returns-in_err-row-clause-alone g c = alone_twice c.loop-row.invariant.alone c.in_err-row.ensures.looks.alone

pub returns-in_err-row-clause-frame : goal.returns-in_err-row-clause-frame
returns-in_err-row-clause-frame g c = usable_twice c.loop-row.invariant.alone c.in_err-row.ensures.looks.alone c.loop-row.invariant.frame (usable_looks c.in_err-row.ensures.looks)

pub returns-in_err-mend_before-clause-cause : goal.returns-in_err-mend_before-clause-cause
returns-in_err-mend_before-clause-cause g c = cause_of_part c.in_err-mend_before.field-0.0 c.from_residual-in_err-mend_before.result (alone_twice c.loop-row.invariant.alone c.in_ok-row.ensures.looks.alone) (c.in_ok-row.ensures.cause ∙ c.loop-row.invariant.unfailed) c.in_err-mend_before.ensures.alone c.in_err-mend_before.ensures.cause c.from_residual-in_err-mend_before.ensures.1

pub returns-in_err-mend_before-clause-alone : goal.returns-in_err-mend_before-clause-alone
returns-in_err-mend_before-clause-alone g c = alone_twice (alone_twice c.loop-row.invariant.alone c.in_ok-row.ensures.looks.alone) c.in_err-mend_before.ensures.alone

pub returns-in_err-mend_before-clause-frame : goal.returns-in_err-mend_before-clause-frame
returns-in_err-mend_before-clause-frame g c = usable_twice (alone_twice c.loop-row.invariant.alone c.in_ok-row.ensures.looks.alone) c.in_err-mend_before.ensures.alone (usable_twice c.loop-row.invariant.alone c.in_ok-row.ensures.looks.alone c.loop-row.invariant.frame (usable_looks c.in_ok-row.ensures.looks)) c.in_err-mend_before.ensures.frame

pub returns-in_err-mend_before-clause-does : goal.returns-in_err-mend_before-clause-does
returns-in_err-mend_before-clause-does g c = λ told lasting.
    let inv = c.loop-row.invariant in
    let read = c.in_ok-row.ensures in
    let row = c.in-Some.row in
    let now = g.D.Tape.tape c.loop-row.disk in
    let words : AreWords row = subst (λ o. IfSome o AreWords) c.in-Some.is read.words in
    let first : IsFirstAbove (pack now) c.loop-row.pass.last row = subst (IsNextRow (pack now) c.loop-row.pass.last) c.in-Some.is (read.next told) in
    let may : MayMeet (pack (g.D.Tape.tape c.next_row.new.disk)) c.loop-row.pending row = may_meet row (inv.mended told lasting) inv.last first words (looks_pack read.looks told) in
    does_stop_part c.in_err-mend_before.field-0.0 c.from_residual-in_err-mend_before.result (going_looks (inv.going told lasting) read.looks told) c.in_err-mend_before.ensures.alone.grown (c.in_err-mend_before.ensures.does told may) c.from_residual-in_err-mend_before.ensures.1

pub loop-row-preserved : goal.loop-row-preserved
loop-row-preserved g c =
    let inv = c.loop-row.invariant in
    let read = c.in_ok-row.ensures in
    let met = c.in_ok-mend_before.ensures in
    let row = c.in-Some.row in
    let old = g.D.Tape.tape c.args.disk.now in
    let now = g.D.Tape.tape c.loop-row.disk in
    let words : AreWords row = subst (λ o. IfSome o AreWords) c.in-Some.is read.words in
    let first : IsTrue g.D.Tape.told → IsFirstAbove (pack now) c.loop-row.pass.last row = λ told. subst (IsNextRow (pack now) c.loop-row.pass.last) c.in-Some.is (read.next told) in
    let may : IsTrue g.D.Tape.told → Lasting (pack old) → MayMeet (pack (g.D.Tape.tape c.next_row.new.disk)) c.loop-row.pending row = λ told lasting. may_meet row (inv.mended told lasting) inv.last (first told) words (looks_pack read.looks told) in
    let next : c.next_row.new.pass.last ≡ Some row = read.last ∙ ap (λ o. option_or o c.loop-row.pass.last) c.in-Some.is in
    let above : is_above c.loop-row.pass.last row ≡ true = (subst (IsNext c.loop-row.pass.last) c.in-Some.is read.rises).0 in
    let within = subst (λ o. IfSome o (λ r. (1 ≤ r.at) × (r.at < pages_of now.form))) c.in-Some.is read.place in
    let pages : pages_of now.form ≡ pages_of old.form = ap pages_of inv.alone.grown.form in
    let here = met.row in
    record {
      alone = alone_twice (alone_twice inv.alone read.looks.alone) met.alone;
      unfailed = met.cause ∙ read.cause ∙ inv.unfailed;
      frame = usable_twice (alone_twice inv.alone read.looks.alone) met.alone (usable_twice inv.alone read.looks.alone inv.frame (usable_looks read.looks)) met.frame;
      stands = stands_met c.loop-row.pending row read.stands next (subst (λ l. is_above l row ≡ true) inv.last above) met.wrote;
      last = next ∙ ap (λ r. Some r) (sym here);
      place = subst (λ r. (1 ≤ r.at) × (r.at < pages_of old.form)) (sym here) (within.0, omega (arith, within.1, pages));
      going = λ told lasting. going_does (going_looks (inv.going told lasting) read.looks told) met.alone.grown (met.does told (may told lasting));
      mended = λ told lasting. (met.does told (may told lasting)).leaves;
    }

pub returns-in-Some-pending-clause-cause : goal.returns-in-Some-pending-clause-cause
returns-in-Some-pending-clause-cause g c =
    cause_sooner (g.D.Tape.tape c.args.disk.now) (g.D.Tape.tape c.next_row.new.disk) (g.D.Tape.tape c.mend_page.new.disk) c.mend_page.result (c.in_ok-row.ensures.cause ∙ c.loop-row.invariant.unfailed) c.mend_page.ensures.cause

pub returns-in-None-clause-cause : goal.returns-in-None-clause-cause
returns-in-None-clause-cause g c = c.in_ok-row.ensures.cause ∙ c.loop-row.invariant.unfailed

pub returns-in-Some-pending-clause-alone : goal.returns-in-Some-pending-clause-alone
returns-in-Some-pending-clause-alone g c = alone_twice (alone_twice c.loop-row.invariant.alone c.in_ok-row.ensures.looks.alone) c.mend_page.ensures.alone

pub returns-in-Some-pending-clause-frame : goal.returns-in-Some-pending-clause-frame
returns-in-Some-pending-clause-frame g c = usable_twice (alone_twice c.loop-row.invariant.alone c.in_ok-row.ensures.looks.alone) c.mend_page.ensures.alone (usable_twice c.loop-row.invariant.alone c.in_ok-row.ensures.looks.alone c.loop-row.invariant.frame (usable_looks c.in_ok-row.ensures.looks)) c.mend_page.ensures.frame

pub returns-in-Some-pending-clause-does : goal.returns-in-Some-pending-clause-does
returns-in-Some-pending-clause-does g c = λ told lasting.
    let inv = c.loop-row.invariant in
    let read = c.in_ok-row.ensures in
    let page = c.in-Some-pending.last in
    let now = g.D.Tape.tape c.loop-row.disk in
    let ends = g.D.Tape.tape c.next_row.new.disk in
    let same = sym (looks_pack read.looks told) in
    let mended = subst (λ p. MendedTo p (Some page)) same (subst (MendedTo (pack now)) c.in-Some-pending.is (inv.mended told lasting)) in
    let last : c.loop-row.pass.last ≡ Some page.row = inv.last ∙ ap last_row c.in-Some-pending.is in
    let none : IsNextRow (pack now) c.loop-row.pass.last None = subst (IsNextRow (pack now) c.loop-row.pass.last) c.in_default.is (read.next told) in
    links_last c.mend_page.result (going_looks (inv.going told lasting) read.looks told) mended (subst (λ p. IsNextRow p (Some page.row) None) same (subst (λ l. IsNextRow (pack now) l None) last none)) c.mend_page.ensures.alone.grown
    (c.mend_page.ensures.does told) (c.mend_page.ensures.wrote told)

pub returns-in-None-clause-alone : goal.returns-in-None-clause-alone
returns-in-None-clause-alone g c = alone_twice c.loop-row.invariant.alone c.in_ok-row.ensures.looks.alone

pub returns-in-None-clause-frame : goal.returns-in-None-clause-frame
returns-in-None-clause-frame g c = usable_twice c.loop-row.invariant.alone c.in_ok-row.ensures.looks.alone c.loop-row.invariant.frame (usable_looks c.in_ok-row.ensures.looks)

pub returns-in-None-clause-does : goal.returns-in-None-clause-does
returns-in-None-clause-does g c = λ told lasting.
    let inv = c.loop-row.invariant in
    let read = c.in_ok-row.ensures in
    let now = g.D.Tape.tape c.loop-row.disk in
    let same = sym (looks_pack read.looks told) in
    let mended : Lasting (pack now) = subst (MendedTo (pack now)) c.in-None.is (inv.mended told lasting) in
    let last : c.loop-row.pass.last ≡ None = inv.last ∙ ap last_row c.in-None.is in
    let none : IsNextRow (pack now) c.loop-row.pass.last None = subst (IsNextRow (pack now) c.loop-row.pass.last) c.in_default.is (read.next told) in
    links_none (going_looks (inv.going told lasting) read.looks told) (subst Lasting same mended) (subst (λ p. IsNextRow p None None) same (subst (λ l. IsNextRow (pack now) l None) last none))

pub returns-in_err-pass-clause-frame : goal.returns-in_err-pass-clause-frame
returns-in_err-pass-clause-frame g c = usable_looks c.in_err-pass.ensures.looks
