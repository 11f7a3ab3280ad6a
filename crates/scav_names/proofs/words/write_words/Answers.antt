use Rattle.std.proofs.Common.{◌≡◌, ◌<◌, Err, IfSome, IsTrue, None, Some, ap, sym, subst, ◌∙◌, refl}
use Rattle.std.specs.Option.{option_or}
use Rattle.disk_records.specs.Tapes.{pack}
use Rattle.disk_records.proofs.Looking.{looks_pack}
use Rattle.disk_records.proofs.Growing.{alone_here, alone_twice}
use Rattle.disk_records.proofs.Framing.{usable_looks, usable_twice}
use Rattle.scav_pages.specs.Walks.{AreWords, IsSeated}
use Rattle.scav_pages.specs.Links.{WritesPage}
use Rattle.scav_pages.proofs.Ahead.{ahead, ahead_falls}
use Rattle.scav_pages.proofs.Passing.{carried_row}
use Rattle.scav_pages.proofs.Causing.{cause_of_part, cause_of_swept}
use Rattle.scav_table.specs.Laws.{IsFirstAbove, IsNextRow}
use Rattle.scav_table.specs.Passes.{IsNext}
use Rattle.scav_names.specs.Words.{AreWordsOf}
use Rattle.scav_names.proofs.PageWriting.{all_done}
use Rattle.scav_names.proofs.WordPass.{WordsPassed, passed_looks, passed_next, row_is_seated, stands_words, words_end, words_part, words_quiet}
use Rattle.scav_names.proofs.words.write_words.Goals as goal

pub returns-in_err-row-clause-writes : goal.returns-in_err-row-clause-writes
returns-in_err-row-clause-writes g c = λ told are.
    let read = c.in_err-row.ensures in
    words_quiet c.in_err-row.field-0.0 c.from_residual-in_err-row.result (c.loop-row.invariant.passed told are) read.looks told (λ astray. read.found told (ap Err astray)) c.from_residual-in_err-row.ensures.1

pub returns-in_err-row-clause-alone : goal.returns-in_err-row-clause-alone
returns-in_err-row-clause-alone g c = alone_twice c.loop-row.invariant.alone c.in_err-row.ensures.looks.alone

pub returns-in_err-row-clause-frame : goal.returns-in_err-row-clause-frame
returns-in_err-row-clause-frame g c = usable_twice c.loop-row.invariant.alone c.in_err-row.ensures.looks.alone c.loop-row.invariant.frame (usable_looks c.in_err-row.ensures.looks)

pub returns-in_err-done-clause-writes : goal.returns-in_err-done-clause-writes
returns-in_err-done-clause-writes g c = λ told are.
    let read = c.in_ok-row.ensures in
    let row = c.in-Some.row in
    let now = g.D.Tape.tape c.loop-row.disk in
    let so_far = c.loop-row.invariant.passed told are in
    let first : IsFirstAbove (pack now) c.loop-row.pass.last row = subst (IsNextRow (pack now) c.loop-row.pass.last) c.in-Some.is (read.next told) in
    let words : AreWords row = subst (λ o. IfSome o AreWords) c.in-Some.is read.words in
    let seated = row_is_seated are so_far row words first in
    let wrote = c.in_err-done.ensures.writes told (subst (λ p. IsSeated p row) (sym (looks_pack read.looks told)) seated) in
    words_part c.in_err-done.field-0.0 c.from_residual-in_err-done.result (passed_looks so_far read.looks told) c.in_err-done.ensures.alone.grown wrote.some (λ astray. wrote.found (ap Err astray)) c.from_residual-in_err-done.ensures.1

pub returns-in_err-done-clause-alone : goal.returns-in_err-done-clause-alone
returns-in_err-done-clause-alone g c = alone_twice (alone_twice c.loop-row.invariant.alone c.in_ok-row.ensures.looks.alone) c.in_err-done.ensures.alone

pub returns-in_err-done-clause-frame : goal.returns-in_err-done-clause-frame
returns-in_err-done-clause-frame g c = usable_twice (alone_twice c.loop-row.invariant.alone c.in_ok-row.ensures.looks.alone) c.in_err-done.ensures.alone (usable_twice c.loop-row.invariant.alone c.in_ok-row.ensures.looks.alone c.loop-row.invariant.frame (usable_looks c.in_ok-row.ensures.looks)) c.in_err-done.ensures.frame

pub loop-row-preserved : goal.loop-row-preserved
loop-row-preserved g c =
    let inv = c.loop-row.invariant in
    let read = c.in_ok-row.ensures in
    let done = c.in_ok-done.ensures in
    let row = c.in-Some.row in
    let now = g.D.Tape.tape c.loop-row.disk in
    let here = g.D.Tape.tape c.next_row.new.disk in
    let words : AreWords row = subst (λ o. IfSome o AreWords) c.in-Some.is read.words in
    let first : IsTrue g.D.Tape.told → IsFirstAbove (pack now) c.loop-row.pass.last row = λ told. subst (IsNextRow (pack now) c.loop-row.pass.last) c.in-Some.is (read.next told) in
    let first_here : IsTrue g.D.Tape.told → IsFirstAbove (pack here) c.loop-row.pass.last row = λ told. subst (λ p. IsFirstAbove p c.loop-row.pass.last row) (sym (looks_pack read.looks told)) (first told) in
    let next : c.next_row.new.pass.last ≡ Some row = read.last ∙ ap (λ o. option_or o c.loop-row.pass.last) c.in-Some.is in
    let so_far : IsTrue g.D.Tape.told → AreWordsOf (pack (g.D.Tape.tape c.args.disk.now)) c.args.words.now → WordsPassed c.args.words.now (g.D.Tape.tape c.args.disk.now) here c.loop-row.pass.last c.loop-row.done = λ told are. passed_looks (inv.passed told are) read.looks told in
    let wrote : IsTrue g.D.Tape.told → WritesPage row.at row.page (pack here) (pack (g.D.Tape.tape c.write_in_page.new.disk)) = λ told. done.wrote told (carried_row (pack here) row.at row (first_here told).here) in
    record {
      within = done.within.1;
      alone = alone_twice (alone_twice inv.alone read.looks.alone) done.alone;
      unfailed = done.cause ∙ read.cause ∙ inv.unfailed;
      frame = usable_twice (alone_twice inv.alone read.looks.alone) done.alone (usable_twice inv.alone read.looks.alone inv.frame (usable_looks read.looks)) done.frame;
      stands = stands_words row read.stands next wrote;
      passed = λ told are. subst (λ l. WordsPassed c.args.words.now (g.D.Tape.tape c.args.disk.now) (g.D.Tape.tape c.write_in_page.new.disk) l c.in_ok-done.done) (sym next)
          (passed_next are (so_far told are) row words (first_here told) done.alone.grown done.within.0 (done.writes told (row_is_seated are (so_far told are) row words (first_here told))) (wrote told));
    }

pub loop-row-smaller : goal.loop-row-smaller
loop-row-smaller g c =
    let last_is : c.next_row.new.pass.last ≡ Some c.in-Some.row = c.in_ok-row.ensures.last ∙ ap (λ o. option_or o c.loop-row.pass.last) c.in-Some.is in
    subst (λ l. ahead l < ahead c.loop-row.pass.last) (sym last_is) (ahead_falls c.loop-row.pass.last c.in-Some.row (subst (IsNext c.loop-row.pass.last) c.in-Some.is c.in_ok-row.ensures.rises))

pub returns-clause-writes : goal.returns-clause-writes
returns-clause-writes g c = λ told are.
    let read = c.in_ok-row.ensures in
    let now = g.D.Tape.tape c.loop-row.disk in
    let none : IsNextRow (pack now) c.loop-row.pass.last None = subst (IsNextRow (pack now) c.loop-row.pass.last) c.in_default.is (read.next told) in
    all_done tt (words_end are (passed_looks (c.loop-row.invariant.passed told are) read.looks told) (subst (λ p. IsNextRow p c.loop-row.pass.last None) (sym (looks_pack read.looks told)) none))

pub returns-clause-alone : goal.returns-clause-alone
returns-clause-alone g c = alone_twice c.loop-row.invariant.alone c.in_ok-row.ensures.looks.alone

pub returns-clause-frame : goal.returns-clause-frame
returns-clause-frame g c = usable_twice c.loop-row.invariant.alone c.in_ok-row.ensures.looks.alone c.loop-row.invariant.frame (usable_looks c.in_ok-row.ensures.looks)

pub returns-in_err-pass-clause-cause : goal.returns-in_err-pass-clause-cause
returns-in_err-pass-clause-cause g c = cause_of_swept c.in_err-pass.field-0.0 c.from_residual.result (alone_here _) refl c.in_err-pass.ensures.looks.alone c.in_err-pass.ensures.cause c.from_residual.ensures.1

pub returns-in_err-row-clause-cause : goal.returns-in_err-row-clause-cause
returns-in_err-row-clause-cause g c = cause_of_part c.in_err-row.field-0.0 c.from_residual-in_err-row.result c.loop-row.invariant.alone c.loop-row.invariant.unfailed c.in_err-row.ensures.looks.alone c.in_err-row.ensures.cause c.from_residual-in_err-row.ensures.1

pub returns-in_err-done-clause-cause : goal.returns-in_err-done-clause-cause
returns-in_err-done-clause-cause g c = cause_of_part c.in_err-done.field-0.0 c.from_residual-in_err-done.result (alone_twice c.loop-row.invariant.alone c.in_ok-row.ensures.looks.alone) (c.in_ok-row.ensures.cause ∙ c.loop-row.invariant.unfailed) c.in_err-done.ensures.alone c.in_err-done.ensures.cause c.from_residual-in_err-done.ensures.1
