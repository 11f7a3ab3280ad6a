use Rattle.std.proofs.Common.{◌≡◌, true, IsTrue, Some, IfSome, refl, ap, sym, subst, ◌∙◌, rules}
use Rattle.std.specs.Option.{option_or}
use Rattle.disk_records.specs.Causes.{Unfailed}
use Rattle.disk_records.specs.Frames.{WritesUsable}
use Rattle.disk_records.specs.Tapes.{DiskAlone, pack}
use Rattle.disk_records.proofs.Framing.{usable_looks, usable_twice}
use Rattle.disk_records.proofs.Growing.{alone_here, alone_twice}
use Rattle.disk_records.proofs.Looking.{looks_pack}
use Rattle.scav_table.specs.Laws.{IsNextRow}
use Rattle.scav_table.specs.Passes.{IsNext}
use Rattle.scav_table.specs.Rows.{is_above}
use Rattle.scav_pages.specs.Walks.{AreWords, IsOtherFile}
use Rattle.scav_pages.proofs.Causing.{cause_of_part, cause_of_swept, cause_sooner}
use Rattle.scav_pages.proofs.DirectoryPass.{CutsTo, Ready, cuts_done, cuts_left, cuts_look, cuts_row, cuts_start, cuts_stopped, left_at, left_last, may_begin, passed_on, row_there, stands_relabels}
use Rattle.scav_pages.proofs.Doing.{does_stop_looking}
use Rattle.scav_pages.proofs.Passing.{contrary, first_above_stays, stands_same}
use Rattle.scav_pages.proofs.directories.cut_directories.Goals as goal
use Rattle.scav_pages.proofs.directories.cut_directories.Goals.{then-leaves+in_ok-cut_directory, else-leaves}

pub returns-in_err-pass-clause-cause : goal.returns-in_err-pass-clause-cause
returns-in_err-pass-clause-cause g c = cause_of_swept c.in_err-pass.field-0.0 c.from_residual.result (alone_here _) refl c.in_err-pass.ensures.looks.alone c.in_err-pass.ensures.cause c.from_residual.ensures.1

pub loop-row-init : goal.loop-row-init
loop-row-init g c = record {
  alone = c.in_ok-pass.ensures.looks.alone;
  unfailed = c.in_ok-pass.ensures.cause;
  frame = usable_looks c.in_ok-pass.ensures.looks;
  stands = c.in_ok-pass.ensures.stands;
  cuts = subst (λ l. CutsTo g.D.Tape.told (g.D.Tape.tape c.args.disk.now) (g.D.Tape.tape c.begin.new.disk) l c.new-dir.result) (sym c.in_ok-pass.ensures.first)
      (cuts_start c.new-dir.result c.in_ok-pass.ensures.looks (λ k. g.met.D.Disk.formed c.args.disk.now k) c.new-dir.ensures.none c.new-dir.ensures.start);
}

pub returns-in_err-row-clause-cause : goal.returns-in_err-row-clause-cause
returns-in_err-row-clause-cause g c = cause_of_part c.in_err-row.field-0.0 c.from_residual-in_err-row.result c.loop-row.invariant.alone c.loop-row.invariant.unfailed c.in_err-row.ensures.looks.alone c.in_err-row.ensures.cause c.from_residual-in_err-row.ensures.1

pub returns-in_err-row-clause-alone : goal.returns-in_err-row-clause-alone
returns-in_err-row-clause-alone g c = alone_twice c.loop-row.invariant.alone c.in_err-row.ensures.looks.alone

pub returns-in_err-row-clause-frame : goal.returns-in_err-row-clause-frame
returns-in_err-row-clause-frame g c = usable_twice c.loop-row.invariant.alone c.in_err-row.ensures.looks.alone c.loop-row.invariant.frame (usable_looks c.in_err-row.ensures.looks)

pub returns-in_err-row-clause-does : goal.returns-in_err-row-clause-does
returns-in_err-row-clause-does g c = λ told cleared.
    let read = c.in_err-row.ensures in
    does_stop_looking c.in_err-row.field-0.0 c.from_residual-in_err-row.result (c.loop-row.invariant.cuts.going told cleared) read.looks told (read.found told) (read.want told) c.from_residual-in_err-row.ensures.1

pub returns-in_err-cut_directory-clause-cause : goal.returns-in_err-cut_directory-clause-cause
returns-in_err-cut_directory-clause-cause g c = cause_of_part c.in_err-cut_directory.field-0.0 c.from_residual-in_err-cut_directory.result (alone_twice c.loop-row.invariant.alone c.in_ok-row.ensures.looks.alone) (c.in_ok-row.ensures.cause ∙ c.loop-row.invariant.unfailed) c.in_err-cut_directory.ensures.alone c.in_err-cut_directory.ensures.cause c.from_residual-in_err-cut_directory.ensures.1

pub returns-in_err-cut_directory-clause-alone : goal.returns-in_err-cut_directory-clause-alone
returns-in_err-cut_directory-clause-alone g c = alone_twice (alone_twice c.loop-row.invariant.alone c.in_ok-row.ensures.looks.alone) c.in_err-cut_directory.ensures.alone

pub returns-in_err-cut_directory-clause-frame : goal.returns-in_err-cut_directory-clause-frame
returns-in_err-cut_directory-clause-frame g c = usable_twice (alone_twice c.loop-row.invariant.alone c.in_ok-row.ensures.looks.alone) c.in_err-cut_directory.ensures.alone (usable_twice c.loop-row.invariant.alone c.in_ok-row.ensures.looks.alone c.loop-row.invariant.frame (usable_looks c.in_ok-row.ensures.looks)) c.in_err-cut_directory.ensures.frame

pub returns-in_err-cut_directory-clause-does : goal.returns-in_err-cut_directory-clause-does
returns-in_err-cut_directory-clause-does g c = λ told cleared.
    let x = cuts_look c.loop-row.invariant.cuts c.in_ok-row.ensures.looks in
    let first = λ (k : IsTrue g.D.Tape.told). subst (IsNextRow (pack (g.D.Tape.tape c.loop-row.disk)) c.loop-row.pass.last) c.in-Some.is (c.in_ok-row.ensures.next k) in
    let words : AreWords c.in-Some.row = subst (λ o. IfSome o AreWords) c.in-Some.is c.in_ok-row.ensures.words in
    let other : IsOtherFile c.loop-row.dir.walk c.in-Some.row = c.leaves.ensures.0 (search rules) in
    cuts_stopped x (left_at c.loop-row.invariant.cuts first words other) c.in_err-cut_directory.field-0.0 c.from_residual-in_err-cut_directory.result c.in_err-cut_directory.ensures.alone.grown c.in_err-cut_directory.ensures.does c.from_residual-in_err-cut_directory.ensures.1 told cleared

pub loop-row-preserved : goal.loop-row-preserved
loop-row-preserved g c =
    let a = g.D.Tape.tape c.args.disk.now in
    let x = cuts_look c.loop-row.invariant.cuts c.in_ok-row.ensures.looks in
    let last = c.loop-row.pass.last in
    let row = c.in-Some.row in
    let first = λ (k : IsTrue g.D.Tape.told). subst (IsNextRow (pack (g.D.Tape.tape c.loop-row.disk)) c.loop-row.pass.last) c.in-Some.is (c.in_ok-row.ensures.next k) in
    let first_of_all = λ (k : IsTrue g.D.Tape.told). first_above_stays (c.loop-row.invariant.cuts.stays k).rows (first k) in
    let words : AreWords c.in-Some.row = subst (λ o. IfSome o AreWords) c.in-Some.is c.in_ok-row.ensures.words in
    let above : is_above c.loop-row.pass.last c.in-Some.row ≡ true = (subst (IsNext c.loop-row.pass.last) c.in-Some.is c.in_ok-row.ensures.rises).0 in
    let last_is : c.next_row.new.pass.last ≡ Some c.in-Some.row = c.in_ok-row.ensures.last ∙ ap (λ o. option_or o c.loop-row.pass.last) c.in-Some.is in
    let before = alone_twice c.loop-row.invariant.alone c.in_ok-row.ensures.looks.alone in
    let ready : Ready g.D.Tape.told (g.D.Tape.tape c.args.disk.now) (g.D.Tape.tape c.if-leaves.disk) c.next_row.new.table c.next_row.new.pass c.loop-row.pass.last c.if-leaves.dir c.in-Some.row = elim c.if-leaves.branch [
      | then-leaves+in_ok-cut_directory w ↦
          let other : IsOtherFile c.loop-row.dir.walk c.in-Some.row = c.leaves.ensures.0 (search rules) in
          let left = left_at c.loop-row.invariant.cuts first words other in
          subst (λ d. Ready g.D.Tape.told (g.D.Tape.tape c.args.disk.now) (g.D.Tape.tape c.if-leaves.disk) c.next_row.new.table c.next_row.new.pass c.loop-row.pass.last d c.in-Some.row) (sym w.dir-is)
          (subst (λ k. Ready g.D.Tape.told (g.D.Tape.tape c.args.disk.now) (g.D.Tape.tape k) c.next_row.new.table c.next_row.new.pass c.loop-row.pass.last w.new-dir-then-leaves.result c.in-Some.row) (sym w.disk-is) (record {
            alone = alone_twice before w.in_ok-cut_directory.ensures.alone;
            stands = stands_relabels (pack (g.D.Tape.tape w.cut_directory.new.disk)) c.in_ok-row.ensures.stands (λ k. ((x.stays k).rows, left k, w.in_ok-cut_directory.ensures.wrote k, passed_on c.loop-row.pass.last c.next_row.new.pass.last c.in-Some.row above last_is));
            cuts = cuts_left x left w.new-dir-then-leaves.result w.in_ok-cut_directory.ensures.alone.grown w.in_ok-cut_directory.ensures.does w.in_ok-cut_directory.ensures.wrote refl w.new-dir-then-leaves.ensures.start w.new-dir-then-leaves.ensures.none (λ k. may_begin (x.read k).walked (left k) other.0);
            same = λ again. again.0 w.new-dir-then-leaves.ensures.none;
          }))
      | else-leaves w ↦
          subst (λ d. Ready g.D.Tape.told (g.D.Tape.tape c.args.disk.now) (g.D.Tape.tape c.if-leaves.disk) c.next_row.new.table c.next_row.new.pass c.loop-row.pass.last d c.in-Some.row) (sym w.dir-is)
          (subst (λ k. Ready g.D.Tape.told (g.D.Tape.tape c.args.disk.now) (g.D.Tape.tape k) c.next_row.new.table c.next_row.new.pass c.loop-row.pass.last c.loop-row.dir c.in-Some.row) (sym w.disk-is) (record {
            alone = before;
            stands = c.in_ok-row.ensures.stands;
            cuts = x;
            same = λ other. contrary (c.leaves.ensures.1 other) w.if-leaves.false;
          }))
    ] in
    let so_far : Unfailed a (g.D.Tape.tape c.next_row.new.disk) = c.in_ok-row.ensures.cause ∙ c.loop-row.invariant.unfailed in
    let unfailed : Unfailed a (g.D.Tape.tape c.if-leaves.disk) = elim c.if-leaves.branch [
      | then-leaves+in_ok-cut_directory w ↦ subst (λ d. Unfailed a (g.D.Tape.tape d)) (sym w.disk-is) (w.in_ok-cut_directory.ensures.cause ∙ so_far)
      | else-leaves w ↦ subst (λ d. Unfailed a (g.D.Tape.tape d)) (sym w.disk-is) so_far
    ] in
    let inv = c.loop-row.invariant in
    let looked = usable_twice inv.alone c.in_ok-row.ensures.looks.alone inv.frame (usable_looks c.in_ok-row.ensures.looks) in
    let frame : WritesUsable g.D.Tape.told a (g.D.Tape.tape c.if-leaves.disk) = elim c.if-leaves.branch [
      | then-leaves+in_ok-cut_directory w ↦ subst (λ d. WritesUsable g.D.Tape.told a (g.D.Tape.tape d)) (sym w.disk-is) (usable_twice before w.in_ok-cut_directory.ensures.alone looked w.in_ok-cut_directory.ensures.frame)
      | else-leaves w ↦ subst (λ d. WritesUsable g.D.Tape.told a (g.D.Tape.tape d)) (sym w.disk-is) looked
    ] in
    record {
      alone = alone_twice ready.alone c.in_ok-meet_page.ensures.looks.alone;
      unfailed = c.in_ok-meet_page.ensures.cause ∙ unfailed;
      frame = usable_twice ready.alone c.in_ok-meet_page.ensures.looks.alone frame (usable_looks c.in_ok-meet_page.ensures.looks);
      stands = stands_same (pack (g.D.Tape.tape c.meet_page.new.disk)) ready.stands (λ k. looks_pack c.in_ok-meet_page.ensures.looks k);
      cuts = subst (λ l. CutsTo g.D.Tape.told (g.D.Tape.tape c.args.disk.now) (g.D.Tape.tape c.meet_page.new.disk) l c.meet_page.new.dir) (sym last_is)
          (cuts_row ready.cuts c.in_ok-meet_page.ensures.looks first_of_all ready.same c.in_ok-meet_page.ensures.hand (λ k. c.in_ok-meet_page.ensures.read k (pack (g.D.Tape.tape c.args.disk.now)) c.loop-row.pass.last (ready.cuts.read k) (first_of_all k) (row_there (ready.cuts.stays k) (first_of_all k)).0));
    }

pub returns-in_err-meet_page-clause-cause : goal.returns-in_err-meet_page-clause-cause
returns-in_err-meet_page-clause-cause g c =
    let a = g.D.Tape.tape c.args.disk.now in
    let read = alone_twice c.loop-row.invariant.alone c.in_ok-row.ensures.looks.alone in
    let before : DiskAlone a (g.D.Tape.tape c.if-leaves.disk) = elim c.if-leaves.branch [
      | then-leaves+in_ok-cut_directory w ↦ subst (λ d. DiskAlone a (g.D.Tape.tape d)) (sym w.disk-is) (alone_twice read w.in_ok-cut_directory.ensures.alone)
      | else-leaves w ↦ subst (λ d. DiskAlone a (g.D.Tape.tape d)) (sym w.disk-is) read
    ] in
    let so_far : Unfailed a (g.D.Tape.tape c.next_row.new.disk) = c.in_ok-row.ensures.cause ∙ c.loop-row.invariant.unfailed in
    let unfailed : Unfailed a (g.D.Tape.tape c.if-leaves.disk) = elim c.if-leaves.branch [
      | then-leaves+in_ok-cut_directory w ↦ subst (λ d. Unfailed a (g.D.Tape.tape d)) (sym w.disk-is) (w.in_ok-cut_directory.ensures.cause ∙ so_far)
      | else-leaves w ↦ subst (λ d. Unfailed a (g.D.Tape.tape d)) (sym w.disk-is) so_far
    ] in
    cause_of_part c.in_err-meet_page.field-0.0 c.from_residual-in_err-meet_page.result before unfailed c.in_err-meet_page.ensures.looks.alone c.in_err-meet_page.ensures.cause c.from_residual-in_err-meet_page.ensures.1

pub returns-in_err-meet_page-clause-frame : goal.returns-in_err-meet_page-clause-frame
returns-in_err-meet_page-clause-frame g c =
    let a = g.D.Tape.tape c.args.disk.now in
    let inv = c.loop-row.invariant in
    let before = alone_twice inv.alone c.in_ok-row.ensures.looks.alone in
    let alone : DiskAlone a (g.D.Tape.tape c.if-leaves.disk) = elim c.if-leaves.branch [
      | then-leaves+in_ok-cut_directory w ↦ subst (λ d. DiskAlone a (g.D.Tape.tape d)) (sym w.disk-is) (alone_twice before w.in_ok-cut_directory.ensures.alone)
      | else-leaves w ↦ subst (λ d. DiskAlone a (g.D.Tape.tape d)) (sym w.disk-is) before
    ] in
    let looked = usable_twice inv.alone c.in_ok-row.ensures.looks.alone inv.frame (usable_looks c.in_ok-row.ensures.looks) in
    let frame : WritesUsable g.D.Tape.told a (g.D.Tape.tape c.if-leaves.disk) = elim c.if-leaves.branch [
      | then-leaves+in_ok-cut_directory w ↦ subst (λ d. WritesUsable g.D.Tape.told a (g.D.Tape.tape d)) (sym w.disk-is) (usable_twice before w.in_ok-cut_directory.ensures.alone looked w.in_ok-cut_directory.ensures.frame)
      | else-leaves w ↦ subst (λ d. WritesUsable g.D.Tape.told a (g.D.Tape.tape d)) (sym w.disk-is) looked
    ] in
    usable_twice alone c.in_err-meet_page.ensures.looks.alone frame (usable_looks c.in_err-meet_page.ensures.looks)

pub returns-in_err-meet_page-clause-alone : goal.returns-in_err-meet_page-clause-alone
returns-in_err-meet_page-clause-alone g c =
    let a = g.D.Tape.tape c.args.disk.now in
    let x = cuts_look c.loop-row.invariant.cuts c.in_ok-row.ensures.looks in
    let last = c.loop-row.pass.last in
    let row = c.in-Some.row in
    let first = λ (k : IsTrue g.D.Tape.told). subst (IsNextRow (pack (g.D.Tape.tape c.loop-row.disk)) c.loop-row.pass.last) c.in-Some.is (c.in_ok-row.ensures.next k) in
    let first_of_all = λ (k : IsTrue g.D.Tape.told). first_above_stays (c.loop-row.invariant.cuts.stays k).rows (first k) in
    let words : AreWords c.in-Some.row = subst (λ o. IfSome o AreWords) c.in-Some.is c.in_ok-row.ensures.words in
    let above : is_above c.loop-row.pass.last c.in-Some.row ≡ true = (subst (IsNext c.loop-row.pass.last) c.in-Some.is c.in_ok-row.ensures.rises).0 in
    let last_is : c.next_row.new.pass.last ≡ Some c.in-Some.row = c.in_ok-row.ensures.last ∙ ap (λ o. option_or o c.loop-row.pass.last) c.in-Some.is in
    let before = alone_twice c.loop-row.invariant.alone c.in_ok-row.ensures.looks.alone in
    let ready : Ready g.D.Tape.told (g.D.Tape.tape c.args.disk.now) (g.D.Tape.tape c.if-leaves.disk) c.next_row.new.table c.next_row.new.pass c.loop-row.pass.last c.if-leaves.dir c.in-Some.row = elim c.if-leaves.branch [
      | then-leaves+in_ok-cut_directory w ↦
          let other : IsOtherFile c.loop-row.dir.walk c.in-Some.row = c.leaves.ensures.0 (search rules) in
          let left = left_at c.loop-row.invariant.cuts first words other in
          subst (λ d. Ready g.D.Tape.told (g.D.Tape.tape c.args.disk.now) (g.D.Tape.tape c.if-leaves.disk) c.next_row.new.table c.next_row.new.pass c.loop-row.pass.last d c.in-Some.row) (sym w.dir-is)
          (subst (λ k. Ready g.D.Tape.told (g.D.Tape.tape c.args.disk.now) (g.D.Tape.tape k) c.next_row.new.table c.next_row.new.pass c.loop-row.pass.last w.new-dir-then-leaves.result c.in-Some.row) (sym w.disk-is) (record {
            alone = alone_twice before w.in_ok-cut_directory.ensures.alone;
            stands = stands_relabels (pack (g.D.Tape.tape w.cut_directory.new.disk)) c.in_ok-row.ensures.stands (λ k. ((x.stays k).rows, left k, w.in_ok-cut_directory.ensures.wrote k, passed_on c.loop-row.pass.last c.next_row.new.pass.last c.in-Some.row above last_is));
            cuts = cuts_left x left w.new-dir-then-leaves.result w.in_ok-cut_directory.ensures.alone.grown w.in_ok-cut_directory.ensures.does w.in_ok-cut_directory.ensures.wrote refl w.new-dir-then-leaves.ensures.start w.new-dir-then-leaves.ensures.none (λ k. may_begin (x.read k).walked (left k) other.0);
            same = λ again. again.0 w.new-dir-then-leaves.ensures.none;
          }))
      | else-leaves w ↦
          subst (λ d. Ready g.D.Tape.told (g.D.Tape.tape c.args.disk.now) (g.D.Tape.tape c.if-leaves.disk) c.next_row.new.table c.next_row.new.pass c.loop-row.pass.last d c.in-Some.row) (sym w.dir-is)
          (subst (λ k. Ready g.D.Tape.told (g.D.Tape.tape c.args.disk.now) (g.D.Tape.tape k) c.next_row.new.table c.next_row.new.pass c.loop-row.pass.last c.loop-row.dir c.in-Some.row) (sym w.disk-is) (record {
            alone = before;
            stands = c.in_ok-row.ensures.stands;
            cuts = x;
            same = λ other. contrary (c.leaves.ensures.1 other) w.if-leaves.false;
          }))
    ] in
    alone_twice ready.alone c.in_err-meet_page.ensures.looks.alone

pub returns-in_err-meet_page-clause-does : goal.returns-in_err-meet_page-clause-does
returns-in_err-meet_page-clause-does g c = λ told cleared.
    let a = g.D.Tape.tape c.args.disk.now in
    let x = cuts_look c.loop-row.invariant.cuts c.in_ok-row.ensures.looks in
    let last = c.loop-row.pass.last in
    let row = c.in-Some.row in
    let first = λ (k : IsTrue g.D.Tape.told). subst (IsNextRow (pack (g.D.Tape.tape c.loop-row.disk)) c.loop-row.pass.last) c.in-Some.is (c.in_ok-row.ensures.next k) in
    let first_of_all = λ (k : IsTrue g.D.Tape.told). first_above_stays (c.loop-row.invariant.cuts.stays k).rows (first k) in
    let words : AreWords c.in-Some.row = subst (λ o. IfSome o AreWords) c.in-Some.is c.in_ok-row.ensures.words in
    let above : is_above c.loop-row.pass.last c.in-Some.row ≡ true = (subst (IsNext c.loop-row.pass.last) c.in-Some.is c.in_ok-row.ensures.rises).0 in
    let last_is : c.next_row.new.pass.last ≡ Some c.in-Some.row = c.in_ok-row.ensures.last ∙ ap (λ o. option_or o c.loop-row.pass.last) c.in-Some.is in
    let before = alone_twice c.loop-row.invariant.alone c.in_ok-row.ensures.looks.alone in
    let ready : Ready g.D.Tape.told (g.D.Tape.tape c.args.disk.now) (g.D.Tape.tape c.if-leaves.disk) c.next_row.new.table c.next_row.new.pass c.loop-row.pass.last c.if-leaves.dir c.in-Some.row = elim c.if-leaves.branch [
      | then-leaves+in_ok-cut_directory w ↦
          let other : IsOtherFile c.loop-row.dir.walk c.in-Some.row = c.leaves.ensures.0 (search rules) in
          let left = left_at c.loop-row.invariant.cuts first words other in
          subst (λ d. Ready g.D.Tape.told (g.D.Tape.tape c.args.disk.now) (g.D.Tape.tape c.if-leaves.disk) c.next_row.new.table c.next_row.new.pass c.loop-row.pass.last d c.in-Some.row) (sym w.dir-is)
          (subst (λ k. Ready g.D.Tape.told (g.D.Tape.tape c.args.disk.now) (g.D.Tape.tape k) c.next_row.new.table c.next_row.new.pass c.loop-row.pass.last w.new-dir-then-leaves.result c.in-Some.row) (sym w.disk-is) (record {
            alone = alone_twice before w.in_ok-cut_directory.ensures.alone;
            stands = stands_relabels (pack (g.D.Tape.tape w.cut_directory.new.disk)) c.in_ok-row.ensures.stands (λ k. ((x.stays k).rows, left k, w.in_ok-cut_directory.ensures.wrote k, passed_on c.loop-row.pass.last c.next_row.new.pass.last c.in-Some.row above last_is));
            cuts = cuts_left x left w.new-dir-then-leaves.result w.in_ok-cut_directory.ensures.alone.grown w.in_ok-cut_directory.ensures.does w.in_ok-cut_directory.ensures.wrote refl w.new-dir-then-leaves.ensures.start w.new-dir-then-leaves.ensures.none (λ k. may_begin (x.read k).walked (left k) other.0);
            same = λ again. again.0 w.new-dir-then-leaves.ensures.none;
          }))
      | else-leaves w ↦
          subst (λ d. Ready g.D.Tape.told (g.D.Tape.tape c.args.disk.now) (g.D.Tape.tape c.if-leaves.disk) c.next_row.new.table c.next_row.new.pass c.loop-row.pass.last d c.in-Some.row) (sym w.dir-is)
          (subst (λ k. Ready g.D.Tape.told (g.D.Tape.tape c.args.disk.now) (g.D.Tape.tape k) c.next_row.new.table c.next_row.new.pass c.loop-row.pass.last c.loop-row.dir c.in-Some.row) (sym w.disk-is) (record {
            alone = before;
            stands = c.in_ok-row.ensures.stands;
            cuts = x;
            same = λ other. contrary (c.leaves.ensures.1 other) w.if-leaves.false;
          }))
    ] in
    does_stop_looking c.in_err-meet_page.field-0.0 c.from_residual-in_err-meet_page.result (ready.cuts.going told cleared) c.in_err-meet_page.ensures.looks told
    (c.in_err-meet_page.ensures.found told (row_there (ready.cuts.stays told) (first_of_all told)).1) (c.in_err-meet_page.ensures.want told) c.from_residual-in_err-meet_page.ensures.1

pub returns-clause-cause : goal.returns-clause-cause
returns-clause-cause g c =
    cause_sooner (g.D.Tape.tape c.args.disk.now) (g.D.Tape.tape c.next_row.new.disk) (g.D.Tape.tape c.cut_directory-2.new.disk) c.cut_directory-2.result (c.in_ok-row.ensures.cause ∙ c.loop-row.invariant.unfailed) c.cut_directory-2.ensures.cause

pub returns-clause-alone : goal.returns-clause-alone
returns-clause-alone g c = alone_twice (alone_twice c.loop-row.invariant.alone c.in_ok-row.ensures.looks.alone) c.cut_directory-2.ensures.alone

pub returns-clause-frame : goal.returns-clause-frame
returns-clause-frame g c = usable_twice (alone_twice c.loop-row.invariant.alone c.in_ok-row.ensures.looks.alone) c.cut_directory-2.ensures.alone (usable_twice c.loop-row.invariant.alone c.in_ok-row.ensures.looks.alone c.loop-row.invariant.frame (usable_looks c.in_ok-row.ensures.looks)) c.cut_directory-2.ensures.frame

pub returns-clause-does : goal.returns-clause-does
returns-clause-does g c = λ told cleared.
    let x = cuts_look c.loop-row.invariant.cuts c.in_ok-row.ensures.looks in
    let none = λ (k : IsTrue g.D.Tape.told). subst (IsNextRow (pack (g.D.Tape.tape c.loop-row.disk)) c.loop-row.pass.last) c.in_default.is (c.in_ok-row.ensures.next k) in
    cuts_done x (λ k. (left_last c.loop-row.invariant.cuts none k).1) c.cut_directory-2.result c.cut_directory-2.ensures.alone.grown c.cut_directory-2.ensures.does (λ k. (left_last c.loop-row.invariant.cuts none k).0) told cleared

pub returns-in_err-pass-clause-frame : goal.returns-in_err-pass-clause-frame
returns-in_err-pass-clause-frame g c = usable_looks c.in_err-pass.ensures.looks
