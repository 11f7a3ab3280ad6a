use Rattle.std.proofs.Common.{◌≡◌, ◌≢◌, ◌<◌, ◌≤◌, IfSome, IsTrue, None, Some, arith, rules, subst, sym, ap, ◌∙◌, refl}
use Rattle.std.specs.Option.{option_map, option_or}
use Rattle.disk_records.specs.Addresses.{pages_of}
use Rattle.disk_records.specs.Causes.{Unfailed}
use Rattle.disk_records.specs.Frames.{WritesUsable}
use Rattle.disk_records.specs.Tapes.{pack}
use Rattle.disk_records.proofs.Framing.{usable_looks, usable_twice}
use Rattle.disk_records.proofs.Growing.{alone_here, alone_twice}
use Rattle.label_check.proofs.Framing.{usable_release}
use Rattle.scav_table.specs.Laws.{IsFirstAbove, IsNextRow}
use Rattle.scav_table.specs.Passes.{IsNext}
use Rattle.scav_pages.specs.Walks.{AreWords}
use Rattle.scav_pages.proofs.Causing.{cause_of_guarded, cause_of_part, cause_of_swept}
use Rattle.scav_pages.proofs.Ahead.{ahead, ahead_falls, counts_on}
use Rattle.scav_pages.proofs.Copying.{CopiesPass, CopiesTo, copies_all, copies_none, copy_here, copy_mends, goes_by, last_row, releases}
use Rattle.scav_pages.proofs.Doing.{does_stop_looking, does_stop_two, going_looks}
use Rattle.scav_pages.proofs.copies.release_copies.Goals as goal
use Rattle.scav_pages.proofs.copies.release_copies.Goals.{then-eq+in_ok-release, else-eq}

pub returns-in_err-pass-clause-cause : goal.returns-in_err-pass-clause-cause
returns-in_err-pass-clause-cause g c = cause_of_swept c.in_err-pass.field-0.0 c.from_residual.result (alone_here _) refl c.in_err-pass.ensures.looks.alone c.in_err-pass.ensures.cause c.from_residual.ensures.1

pub loop-row-init : goal.loop-row-init
loop-row-init g c =
    let read = c.in_ok-pass.ensures in
    let first : c.in_ok-pass.pass.last ≡ None = read.first in
    record {
      last = sym (ap (option_map (λ r. r.page)) first);
      pass = record {
        stands = read.stands;
        alone = read.looks.alone;
        released = λ told. subst (λ l. CopiesTo (g.D.Tape.tape c.args.disk.now) (g.D.Tape.tape c.begin.new.disk) l 0) (sym first) (copies_none read.looks told);
      };
      unfailed = read.cause;
      frame = usable_looks read.looks;
    }

pub returns-in_err-row-clause-cause : goal.returns-in_err-row-clause-cause
returns-in_err-row-clause-cause g c = cause_of_part c.in_err-row.field-0.0 c.from_residual-in_err-row.result c.loop-row.invariant.pass.alone c.loop-row.invariant.unfailed c.in_err-row.ensures.looks.alone c.in_err-row.ensures.cause c.from_residual-in_err-row.ensures.1

pub returns-in_err-row-clause-alone : goal.returns-in_err-row-clause-alone
returns-in_err-row-clause-alone g c = alone_twice c.loop-row.invariant.pass.alone c.in_err-row.ensures.looks.alone

pub returns-in_err-row-clause-frame : goal.returns-in_err-row-clause-frame
returns-in_err-row-clause-frame g c = usable_twice c.loop-row.invariant.pass.alone c.in_err-row.ensures.looks.alone c.loop-row.invariant.frame (usable_looks c.in_err-row.ensures.looks)

pub returns-in_err-row-clause-does : goal.returns-in_err-row-clause-does
returns-in_err-row-clause-does g c = λ told.
    let read = c.in_err-row.ensures in
    does_stop_looking c.in_err-row.field-0.0 c.from_residual-in_err-row.result (c.loop-row.invariant.pass.released told).going read.looks told (read.found told) (read.want told) c.from_residual-in_err-row.ensures.1

pub release-requires-clause-first : goal.release-requires-clause-first
release-requires-clause-first g c = (subst (λ o. IfSome o (λ r. (1 ≤ r.at) × (r.at < pages_of (g.D.Tape.tape c.loop-row.disk).form))) c.in-Some.is c.in_ok-row.ensures.place).0

pub release-requires-clause-place : goal.release-requires-clause-place
release-requires-clause-place g c =
    subst (λ s. c.in-Some.row.at < pages_of s) (sym c.in_ok-row.ensures.looks.alone.grown.form) (subst (λ o. IfSome o (λ r. (1 ≤ r.at) × (r.at < pages_of (g.D.Tape.tape c.loop-row.disk).form))) c.in-Some.is c.in_ok-row.ensures.place).1

pub returns-in_err-release-clause-cause : goal.returns-in_err-release-clause-cause
returns-in_err-release-clause-cause g c = cause_of_guarded c.in_err-release.field-0.0 c.from_residual-in_err-release.result (alone_twice c.loop-row.invariant.pass.alone c.in_ok-row.ensures.looks.alone) (c.in_ok-row.ensures.cause ∙ c.loop-row.invariant.unfailed) c.in_err-release.ensures.alone c.in_err-release.ensures.cause c.from_residual-in_err-release.ensures.1

pub returns-in_err-release-clause-alone : goal.returns-in_err-release-clause-alone
returns-in_err-release-clause-alone g c = alone_twice (alone_twice c.loop-row.invariant.pass.alone c.in_ok-row.ensures.looks.alone) c.in_err-release.ensures.alone

pub returns-in_err-release-clause-frame : goal.returns-in_err-release-clause-frame
returns-in_err-release-clause-frame g c = usable_twice (alone_twice c.loop-row.invariant.pass.alone c.in_ok-row.ensures.looks.alone) c.in_err-release.ensures.alone (usable_twice c.loop-row.invariant.pass.alone c.in_ok-row.ensures.looks.alone c.loop-row.invariant.frame (usable_looks c.in_ok-row.ensures.looks)) (usable_release c.in_err-release.ensures.guarded)

pub returns-in_err-release-clause-does : goal.returns-in_err-release-clause-does
returns-in_err-release-clause-does g c = λ told.
    let read = c.in_ok-row.ensures in
    let row = c.in-Some.row in
    let so_far = c.loop-row.invariant.pass.released told in
    let words : AreWords row = subst (λ o. IfSome o AreWords) c.in-Some.is read.words in
    let first : IsFirstAbove (pack (g.D.Tape.tape c.loop-row.disk)) c.loop-row.pass.last row = subst (IsNextRow (pack (g.D.Tape.tape c.loop-row.disk)) c.loop-row.pass.last) c.in-Some.is (read.next told) in
    let same : c.loop-row.last ≡ Some row.page = search rules in
    let last = last_row c.loop-row.pass.last row.page (sym c.loop-row.invariant.last ∙ same) in
    does_stop_two c.in_err-release.field-0.0 c.from_residual-in_err-release.result (going_looks so_far.going read.looks told) c.in_err-release.ensures.alone.grown
    (copy_here so_far read.looks told words first last.0 last.1 last.2) (copy_mends so_far read.looks told words first last.0 last.1 last.2) (omega arith) (c.in_err-release.ensures.guarded told) c.from_residual-in_err-release.ensures.1

pub loop-row-preserved : goal.loop-row-preserved
loop-row-preserved g c =
    let inv = c.loop-row.invariant in
    let read = c.in_ok-row.ensures in
    let row = c.in-Some.row in
    let old = g.D.Tape.tape c.args.disk.now in
    let next : c.next_row.new.pass.last ≡ Some row = read.last ∙ ap (λ o. option_or o c.loop-row.pass.last) c.in-Some.is in
    let words : AreWords row = subst (λ o. IfSome o AreWords) c.in-Some.is read.words in
    let first : IsTrue g.D.Tape.told → IsFirstAbove (pack (g.D.Tape.tape c.loop-row.disk)) c.loop-row.pass.last row = λ told. subst (IsNextRow (pack (g.D.Tape.tape c.loop-row.disk)) c.loop-row.pass.last) c.in-Some.is (read.next told) in
    let so_far : Unfailed old (g.D.Tape.tape c.next_row.new.disk) = read.cause ∙ inv.unfailed in
    let unfailed : Unfailed old (g.D.Tape.tape c.if-eq.disk) = elim c.if-eq.branch [
      | then-eq+in_ok-release w ↦ subst (λ d. Unfailed old (g.D.Tape.tape d)) (sym w.disk-is) (w.in_ok-release.ensures.cause ∙ so_far)
      | else-eq w ↦ subst (λ d. Unfailed old (g.D.Tape.tape d)) (sym w.disk-is) so_far
    ] in
    let before = alone_twice inv.pass.alone read.looks.alone in
    let looked = usable_twice inv.pass.alone read.looks.alone inv.frame (usable_looks read.looks) in
    let frame : WritesUsable g.D.Tape.told old (g.D.Tape.tape c.if-eq.disk) = elim c.if-eq.branch [
      | then-eq+in_ok-release w ↦ subst (λ d. WritesUsable g.D.Tape.told old (g.D.Tape.tape d)) (sym w.disk-is) (usable_twice before w.in_ok-release.ensures.alone looked (usable_release w.in_ok-release.ensures.guarded))
      | else-eq w ↦ subst (λ d. WritesUsable g.D.Tape.told old (g.D.Tape.tape d)) (sym w.disk-is) looked
    ] in
    record {
      last = sym (ap (option_map (λ r. r.page)) next);
      pass = elim c.if-eq.branch [
        | then-eq+in_ok-release w ↦
            let same : c.loop-row.last ≡ Some row.page = search rules in
            let last = last_row c.loop-row.pass.last row.page (sym inv.last ∙ same) in
            subst (λ d. CopiesPass g.D.Tape.told old (g.D.Tape.tape d) c.next_row.new.table c.next_row.new.pass c.if-eq.freed) (sym w.disk-is)
            (releases inv.pass read.looks read.stands next words first last.0 last.1 last.2 w.in_ok-release.ensures.alone (λ told. (w.in_ok-release.ensures.guarded told).ok)
            (λ told frees. counts_on (g.D.Tape.tape w.release.new.disk) c.loop-row.freed (g.met.D.Disk.sized w.release.new.disk told) frees (w.freed-is ∙ w.saturating_add-freed.ensures)))
        | else-eq w ↦
            let other : c.loop-row.last ≢ Some row.page = λ same. search rules in
            subst (λ n. CopiesPass g.D.Tape.told old (g.D.Tape.tape c.if-eq.disk) c.next_row.new.table c.next_row.new.pass n) (sym w.freed-is)
            (subst (λ d. CopiesPass g.D.Tape.told old (g.D.Tape.tape d) c.next_row.new.table c.next_row.new.pass c.loop-row.freed) (sym w.disk-is)
            (goes_by inv.pass read.looks read.stands next words first (λ r is same. other (inv.last ∙ ap (option_map (λ r. r.page)) is ∙ ap (λ x. Some x) same))))
      ];
      unfailed = unfailed;
      frame = frame;
    }

pub loop-row-smaller : goal.loop-row-smaller
loop-row-smaller g c =
    let read = c.in_ok-row.ensures in
    let row = c.in-Some.row in
    let next : c.next_row.new.pass.last ≡ Some row = read.last ∙ ap (λ o. option_or o c.loop-row.pass.last) c.in-Some.is in
    let falls = ahead_falls c.loop-row.pass.last row (subst (IsNext c.loop-row.pass.last) c.in-Some.is read.rises) in
    let is : ahead c.next_row.new.pass.last ≡ ahead (Some row) = ap ahead next in
    omega (arith, falls, is)

pub returns-clause-cause : goal.returns-clause-cause
returns-clause-cause g c = c.in_ok-row.ensures.cause ∙ c.loop-row.invariant.unfailed

pub returns-clause-alone : goal.returns-clause-alone
returns-clause-alone g c = alone_twice c.loop-row.invariant.pass.alone c.in_ok-row.ensures.looks.alone

pub returns-clause-frame : goal.returns-clause-frame
returns-clause-frame g c = usable_twice c.loop-row.invariant.pass.alone c.in_ok-row.ensures.looks.alone c.loop-row.invariant.frame (usable_looks c.in_ok-row.ensures.looks)

pub returns-clause-does : goal.returns-clause-does
returns-clause-does g c = λ told.
    let read = c.in_ok-row.ensures in
    copies_all (c.loop-row.invariant.pass.released told) read.looks told (subst (IsNextRow (pack (g.D.Tape.tape c.loop-row.disk)) c.loop-row.pass.last) c.in_default.is (read.next told))

pub returns-in_err-pass-clause-frame : goal.returns-in_err-pass-clause-frame
returns-in_err-pass-clause-frame g c = usable_looks c.in_err-pass.ensures.looks
