use Rattle.std.proofs.Common.{◌≡◌, ◌<◌, IsTrue, Some, None, IfSome, ap, sym, subst, ◌∙◌, rules, refl}
use Rattle.std.specs.Option.{option_or}
use Rattle.disk_records.specs.Addresses.{pages_of}
use Rattle.disk_records.specs.Packs.{Pack, carried, sector_at}
use Rattle.disk_records.specs.Tapes.{pack}
use Rattle.disk_records.proofs.Looking.{looks_pack}
use Rattle.disk_records.proofs.Growing.{alone_here, alone_twice, length-pack, pack-silent, silent_twice}
use Rattle.scav_table.specs.Laws.{IsFirstAbove, IsNextRow}
use Rattle.scav_table.specs.Passes.{IsNext}
use Rattle.scav_pages.specs.Directories.{IsReadTo}
use Rattle.scav_pages.specs.Walks.{AreWords, IsOtherFile, file_in_hand}
use Rattle.scav_pages.proofs.Ahead.{ahead, ahead_falls}
use Rattle.scav_pages.proofs.Passing.{carried_row, contrary, stands_same}
use Rattle.scav_pages.proofs.Causing.{cause_of_part, cause_of_swept}
use Rattle.scavenger.proofs.CountPass.{CountedTo, MayMeet, counted_meet, met_last, met_left, met_same, met_start}
use Rattle.scavenger.proofs.counting.count_pages.Goals as goal
use Rattle.scavenger.proofs.counting.count_pages.Goals.{then-leaves, else-leaves}

pub returns-in_err-pass-clause-alone : goal.returns-in_err-pass-clause-alone
returns-in_err-pass-clause-alone g c = alone_twice c.in_ok-system.ensures.looks.alone c.in_err-pass.ensures.looks.alone

pub loop-row-init : goal.loop-row-init
loop-row-init g c = record {
  alone = alone_twice c.in_ok-system.ensures.looks.alone c.in_ok-pass.ensures.looks.alone;
  unfailed = c.in_ok-pass.ensures.cause ∙ c.in_ok-system.ensures.cause;
  silent = λ k. silent_twice c.in_ok-system.ensures.looks.alone.grown c.in_ok-pass.ensures.looks.alone.grown (c.in_ok-system.ensures.looks.silent k) (c.in_ok-pass.ensures.looks.silent k);
  stands = c.in_ok-pass.ensures.stands;
  read = λ k. subst (λ l. IsReadTo (pack (g.D.Tape.tape c.args.disk.now)) l c.new-dir.result) (sym c.in_ok-pass.ensures.first) (c.new-dir.ensures.start (pack (g.D.Tape.tape c.args.disk.now)) None (g.met.D.Disk.formed c.args.disk.now k) (λ r e. cc));
  counted = λ k. met_start (pack (g.D.Tape.tape c.args.disk.now)) c.in_ok-pass.pass.last c.new-dir.result c.new-counts.result c.in_ok-pass.ensures.first c.new-dir.ensures.none (c.new-counts.ensures (pack (g.D.Tape.tape c.args.disk.now)));
}

pub returns-in_err-row-clause-alone : goal.returns-in_err-row-clause-alone
returns-in_err-row-clause-alone g c = alone_twice c.loop-row.invariant.alone c.in_err-row.ensures.looks.alone

pub loop-row-preserved : goal.loop-row-preserved
loop-row-preserved g c =
    let a = g.D.Tape.tape c.args.disk.now in
    let here = λ (k : IsTrue g.D.Tape.told). pack-silent c.loop-row.invariant.alone.grown (c.loop-row.invariant.silent k) in
    let first = λ (k : IsTrue g.D.Tape.told). subst (λ (q : Pack). IsNextRow q c.loop-row.pass.last (Some c.in-Some.row)) (here k) (subst (IsNextRow (pack (g.D.Tape.tape c.loop-row.disk)) c.loop-row.pass.last) c.in-Some.is (c.in_ok-row.ensures.next k)) in
    let words : AreWords c.in-Some.row = subst (λ o. IfSome o AreWords) c.in-Some.is c.in_ok-row.ensures.words in
    let last_is : c.next_row.new.pass.last ≡ Some c.in-Some.row = c.in_ok-row.ensures.last ∙ ap (λ o. option_or o c.loop-row.pass.last) c.in-Some.is in
    let before = alone_twice c.loop-row.invariant.alone c.in_ok-row.ensures.looks.alone in
    let silent = λ (k : IsTrue g.D.Tape.told). silent_twice c.loop-row.invariant.alone.grown c.in_ok-row.ensures.looks.alone.grown (c.loop-row.invariant.silent k) (c.in_ok-row.ensures.looks.silent k) in
    let shape : (pack (g.D.Tape.tape c.args.disk.now)).shape ≡ c.shape-shape.result = sym c.in_ok-system.ensures.looks.alone.grown.form ∙ sym c.shape-shape.ensures in
    let ready : MayMeet g.D.Tape.told (pack (g.D.Tape.tape c.args.disk.now)) c.loop-row.pass.last c.if-leaves.dir c.if-leaves.counts c.in-Some.row = elim c.if-leaves.branch [
      | then-leaves w ↦
          let other : IsOtherFile c.loop-row.dir.walk c.in-Some.row = c.leaves.ensures.0 (search rules) in
          subst (λ d. MayMeet g.D.Tape.told (pack (g.D.Tape.tape c.args.disk.now)) c.loop-row.pass.last d c.if-leaves.counts c.in-Some.row) (sym w.dir-is)
          (subst (λ n. MayMeet g.D.Tape.told (pack (g.D.Tape.tape c.args.disk.now)) c.loop-row.pass.last w.new-dir-then-leaves.result n c.in-Some.row) (sym w.counts-is)
          (met_left (pack (g.D.Tape.tape c.args.disk.now)) c.loop-row.pass.last c.loop-row.dir w.new-dir-then-leaves.result c.loop-row.counts w.close.new.self c.in-Some.row c.loop-row.invariant.read c.loop-row.invariant.counted first words other
          (λ k left. w.close.ensures (pack (g.D.Tape.tape c.args.disk.now)) shape (c.in_ok-system.ensures.system k) left) w.new-dir-then-leaves.ensures.none w.new-dir-then-leaves.ensures.start))
      | else-leaves w ↦
          subst (λ d. MayMeet g.D.Tape.told (pack (g.D.Tape.tape c.args.disk.now)) c.loop-row.pass.last d c.if-leaves.counts c.in-Some.row) (sym w.dir-is)
          (subst (λ n. MayMeet g.D.Tape.told (pack (g.D.Tape.tape c.args.disk.now)) c.loop-row.pass.last c.loop-row.dir n c.in-Some.row) (sym w.counts-is)
          (met_same (pack (g.D.Tape.tape c.args.disk.now)) c.loop-row.pass.last c.loop-row.dir c.loop-row.counts c.in-Some.row c.loop-row.invariant.read c.loop-row.invariant.counted (λ other. contrary (c.leaves.ensures.1 other) w.if-leaves.false)))
    ] in
    let sector = λ (k : IsTrue g.D.Tape.told). ap (λ (q : Pack). sector_at q c.in-Some.row.at) (looks_pack c.in_ok-row.ensures.looks k ∙ here k) in
    record {
      alone = alone_twice before c.in_ok-meet_page.ensures.looks.alone;
      unfailed = c.in_ok-meet_page.ensures.cause ∙ c.in_ok-row.ensures.cause ∙ c.loop-row.invariant.unfailed;
      silent = λ k. silent_twice before.grown c.in_ok-meet_page.ensures.looks.alone.grown (silent k) (c.in_ok-meet_page.ensures.looks.silent k);
      stands = stands_same (pack (g.D.Tape.tape c.meet_page.new.disk)) c.in_ok-row.ensures.stands (λ k. looks_pack c.in_ok-meet_page.ensures.looks k);
      read = λ k. subst (λ l. IsReadTo (pack (g.D.Tape.tape c.args.disk.now)) l c.meet_page.new.dir) (sym last_is) (c.in_ok-meet_page.ensures.read k (pack (g.D.Tape.tape c.args.disk.now)) c.loop-row.pass.last (ready.read k) (first k) (sector k));
      counted = λ k. subst (λ l. CountedTo (pack (g.D.Tape.tape c.args.disk.now)) l (file_in_hand c.meet_page.new.dir.walk) c.if-leaves.counts) (sym last_is)
          (subst (λ h. CountedTo (pack (g.D.Tape.tape c.args.disk.now)) (Some c.in-Some.row) h c.if-leaves.counts) (sym c.in_ok-meet_page.ensures.hand)
          (counted_meet (pack (g.D.Tape.tape c.args.disk.now)) c.loop-row.pass.last (file_in_hand c.if-leaves.dir.walk) c.in-Some.row c.if-leaves.counts (ready.counted k) (first k) ready.same));
    }

pub returns-in_err-meet_page-clause-found : goal.returns-in_err-meet_page-clause-found
returns-in_err-meet_page-clause-found g c = λ k astray.
    let here = pack-silent c.loop-row.invariant.alone.grown (c.loop-row.invariant.silent k) in
    let first : IsFirstAbove (pack (g.D.Tape.tape c.loop-row.disk)) c.loop-row.pass.last c.in-Some.row = subst (IsNextRow (pack (g.D.Tape.tape c.loop-row.disk)) c.loop-row.pass.last) c.in-Some.is (c.in_ok-row.ensures.next k) in
    let there : carried (pack (g.D.Tape.tape c.next_row.new.disk)) c.in-Some.row.at ≡ Some c.in-Some.row.page = ap (λ (q : Pack). carried q c.in-Some.row.at) (looks_pack c.in_ok-row.ensures.looks k) ∙ carried_row (pack (g.D.Tape.tape c.loop-row.disk)) c.in-Some.row.at c.in-Some.row first.here in
    let not_there = c.in_err-meet_page.ensures.found k there in
    search rules

pub returns-in_err-meet_page-clause-alone : goal.returns-in_err-meet_page-clause-alone
returns-in_err-meet_page-clause-alone g c = alone_twice (alone_twice c.loop-row.invariant.alone c.in_ok-row.ensures.looks.alone) c.in_err-meet_page.ensures.looks.alone

pub returns-clause-counted : goal.returns-clause-counted
returns-clause-counted g c = λ k.
    let here = pack-silent c.loop-row.invariant.alone.grown (c.loop-row.invariant.silent k) in
    let none = subst (λ (q : Pack). IsNextRow q c.loop-row.pass.last None) here (subst (IsNextRow (pack (g.D.Tape.tape c.loop-row.disk)) c.loop-row.pass.last) c.in_default.is (c.in_ok-row.ensures.next k)) in
    let shape : (pack (g.D.Tape.tape c.args.disk.now)).shape ≡ c.shape-shape.result = sym c.in_ok-system.ensures.looks.alone.grown.form ∙ sym c.shape-shape.ensures in
    let system = c.in_ok-system.ensures.system k in
    let all = met_last (pack (g.D.Tape.tape c.args.disk.now)) c.loop-row.pass.last c.loop-row.dir c.loop-row.counts c.close-2.new.self (c.loop-row.invariant.read k) (c.loop-row.invariant.counted k) none (λ left. c.close-2.ensures (pack (g.D.Tape.tape c.args.disk.now)) shape system left) in
    let sized = length-pack (g.D.Tape.tape c.args.disk.now) ∙ g.met.D.Disk.sized c.args.disk.now k ∙ ap pages_of shape in
    c.finish.ensures.counted (pack (g.D.Tape.tape c.args.disk.now)) shape sized system all

pub returns-clause-alone : goal.returns-clause-alone
returns-clause-alone g c = alone_twice c.loop-row.invariant.alone c.in_ok-row.ensures.looks.alone

pub returns-in_err-system-clause-cause : goal.returns-in_err-system-clause-cause
returns-in_err-system-clause-cause g c = cause_of_part c.in_err-system.field-0.0 c.from_residual.result (alone_here _) refl c.in_err-system.ensures.looks.alone c.in_err-system.ensures.cause c.from_residual.ensures.1

pub returns-in_err-pass-clause-cause : goal.returns-in_err-pass-clause-cause
returns-in_err-pass-clause-cause g c = cause_of_swept c.in_err-pass.field-0.0 c.from_residual-in_err-pass.result c.in_ok-system.ensures.looks.alone c.in_ok-system.ensures.cause c.in_err-pass.ensures.looks.alone c.in_err-pass.ensures.cause c.from_residual-in_err-pass.ensures.1

pub returns-in_err-row-clause-cause : goal.returns-in_err-row-clause-cause
returns-in_err-row-clause-cause g c = cause_of_part c.in_err-row.field-0.0 c.from_residual-in_err-row.result c.loop-row.invariant.alone c.loop-row.invariant.unfailed c.in_err-row.ensures.looks.alone c.in_err-row.ensures.cause c.from_residual-in_err-row.ensures.1

pub returns-in_err-meet_page-clause-cause : goal.returns-in_err-meet_page-clause-cause
returns-in_err-meet_page-clause-cause g c = cause_of_part c.in_err-meet_page.field-0.0 c.from_residual-in_err-meet_page.result (alone_twice c.loop-row.invariant.alone c.in_ok-row.ensures.looks.alone) (c.in_ok-row.ensures.cause ∙ c.loop-row.invariant.unfailed) c.in_err-meet_page.ensures.looks.alone c.in_err-meet_page.ensures.cause c.from_residual-in_err-meet_page.ensures.1

pub returns-in_err-system-clause-alone : goal.returns-in_err-system-clause-alone
returns-in_err-system-clause-alone g c = c.in_err-system.ensures.looks.alone

pub returns-in_err-system-clause-silent : goal.returns-in_err-system-clause-silent
returns-in_err-system-clause-silent g c = c.in_err-system.ensures.looks.silent

pub returns-in_err-pass-clause-silent : goal.returns-in_err-pass-clause-silent
returns-in_err-pass-clause-silent g c = λ told. silent_twice c.in_ok-system.ensures.looks.alone.grown c.in_err-pass.ensures.looks.alone.grown (c.in_ok-system.ensures.looks.silent told) (c.in_err-pass.ensures.looks.silent told)

pub returns-in_err-row-clause-silent : goal.returns-in_err-row-clause-silent
returns-in_err-row-clause-silent g c = λ told. silent_twice c.loop-row.invariant.alone.grown c.in_err-row.ensures.looks.alone.grown (c.loop-row.invariant.silent told) (c.in_err-row.ensures.looks.silent told)

pub returns-in_err-meet_page-clause-silent : goal.returns-in_err-meet_page-clause-silent
returns-in_err-meet_page-clause-silent g c = λ told. silent_twice (alone_twice c.loop-row.invariant.alone c.in_ok-row.ensures.looks.alone).grown c.in_err-meet_page.ensures.looks.alone.grown (silent_twice c.loop-row.invariant.alone.grown c.in_ok-row.ensures.looks.alone.grown (c.loop-row.invariant.silent told) (c.in_ok-row.ensures.looks.silent told)) (c.in_err-meet_page.ensures.looks.silent told)

pub returns-clause-found : goal.returns-clause-found
returns-clause-found g c = λ told astray. cc

pub returns-clause-cause : goal.returns-clause-cause
returns-clause-cause g c = c.in_ok-row.ensures.cause ∙ c.loop-row.invariant.unfailed

pub returns-clause-silent : goal.returns-clause-silent
returns-clause-silent g c = λ told. silent_twice c.loop-row.invariant.alone.grown c.in_ok-row.ensures.looks.alone.grown (c.loop-row.invariant.silent told) (c.in_ok-row.ensures.looks.silent told)

pub loop-row-smaller : goal.loop-row-smaller
loop-row-smaller g c =
    let last_is : c.next_row.new.pass.last ≡ Some c.in-Some.row = c.in_ok-row.ensures.last ∙ ap (λ o. option_or o c.loop-row.pass.last) c.in-Some.is in
    subst (λ l. ahead l < ahead c.loop-row.pass.last) (sym last_is) (ahead_falls c.loop-row.pass.last c.in-Some.row (subst (IsNext c.loop-row.pass.last) c.in-Some.is c.in_ok-row.ensures.rises))
