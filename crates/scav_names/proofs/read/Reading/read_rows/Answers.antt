use Rattle.std.proofs.Common.{◌≡◌, ◌<◌, ◌≤◌, IsTrue, Some, None, IfSome, ap, sym, subst, ◌∙◌, refl}
use Rattle.std.specs.Option.{option_or}
use Rattle.disk_records.specs.Addresses.{pages_of}
use Rattle.disk_records.specs.Packs.{Pack, carried}
use Rattle.disk_records.specs.Tapes.{pack}
use Rattle.disk_records.proofs.Looking.{looks_pack}
use Rattle.disk_records.proofs.Growing.{alone_here, alone_twice, pack-silent, silent_twice}
use Rattle.scav_table.specs.declared.row.Row.{Row}
use Rattle.scav_table.specs.Laws.{IsFirstAbove, IsNextRow}
use Rattle.scav_table.specs.Passes.{IsNext}
use Rattle.scav_pages.specs.Walks.{AreWords}
use Rattle.scav_pages.proofs.Ahead.{ahead, ahead_falls}
use Rattle.scav_pages.proofs.Passing.{carried_row, stands_same}
use Rattle.scav_pages.proofs.Causing.{cause_of_part, cause_of_swept}
use Rattle.scav_names.specs.Catalogues.{AreSectors}
use Rattle.scav_names.specs.Readings.{HasReadTo}
use Rattle.scav_names.proofs.Erring.{found_part}
use Rattle.scav_names.proofs.ReadingTo.{read_end}
use Rattle.scav_names.proofs.read.Reading.read_rows.Goals as goal

pub loop-row-init : goal.loop-row-init
loop-row-init g c =
    let a = g.D.Tape.tape c.args.disk.now in
    record {
      alone = c.in_ok-pass.ensures.looks.alone;
      unfailed = c.in_ok-pass.ensures.cause;
      silent = c.in_ok-pass.ensures.looks.silent;
      stands = c.in_ok-pass.ensures.stands;
      read = λ k start. subst (λ l. HasReadTo (pack a) l c.args.self.now) (sym c.in_ok-pass.ensures.first) start;
      sectors = λ s. s;
    }

pub returns-in_err-row-clause-alone : goal.returns-in_err-row-clause-alone
returns-in_err-row-clause-alone g c = alone_twice c.loop-row.invariant.alone c.in_err-row.ensures.looks.alone

pub loop-row-preserved : goal.loop-row-preserved
loop-row-preserved g c =
    let a = g.D.Tape.tape c.args.disk.now in
    let now = g.D.Tape.tape c.next_row.new.disk in
    let inv = c.loop-row.invariant in
    let row = c.in-Some.row in
    let here = λ (k : IsTrue g.D.Tape.told). pack-silent inv.alone.grown (inv.silent k) in
    let there = λ (k : IsTrue g.D.Tape.told). looks_pack c.in_ok-row.ensures.looks k ∙ here k in
    let first = λ (k : IsTrue g.D.Tape.told). subst (λ (q : Pack). IsNextRow q c.loop-row.pass.last (Some row)) (here k) (subst (IsNextRow (pack (g.D.Tape.tape c.loop-row.disk)) c.loop-row.pass.last) c.in-Some.is (c.in_ok-row.ensures.next k)) in
    let words : AreWords row = subst (λ o. IfSome o AreWords) c.in-Some.is c.in_ok-row.ensures.words in
    let last_is : c.next_row.new.pass.last ≡ Some row = c.in_ok-row.ensures.last ∙ ap (λ o. option_or o c.loop-row.pass.last) c.in-Some.is in
    let before = alone_twice inv.alone c.in_ok-row.ensures.looks.alone in
    let silent = λ (k : IsTrue g.D.Tape.told). silent_twice inv.alone.grown c.in_ok-row.ensures.looks.alone.grown (inv.silent k) (c.in_ok-row.ensures.looks.silent k) in
    let turned = λ (k : IsTrue g.D.Tape.told) (start : HasReadTo (pack a) None c.args.self.now). c.turn.ensures.read (pack a) c.loop-row.pass.last (inv.read k start) words (first k) in
    record {
      alone = alone_twice before c.in_ok-meet.ensures.looks.alone;
      unfailed = c.in_ok-meet.ensures.cause ∙ c.in_ok-row.ensures.cause ∙ inv.unfailed;
      silent = λ k. silent_twice before.grown c.in_ok-meet.ensures.looks.alone.grown (silent k) (c.in_ok-meet.ensures.looks.silent k);
      stands = stands_same (pack (g.D.Tape.tape c.meet.new.disk)) c.in_ok-row.ensures.stands (λ k. looks_pack c.in_ok-meet.ensures.looks k);
      read = λ k start. subst (λ l. HasReadTo (pack a) l c.meet.new.self) (sym last_is)
          (subst (λ (q : Pack). HasReadTo q (Some row) c.meet.new.self) (there k)
          (c.in_ok-meet.ensures.read k c.loop-row.pass.last (subst (λ (q : Pack). HasReadTo q c.loop-row.pass.last c.turn.new.self) (sym (there k)) (turned k start)) words (subst (λ (q : Pack). IsFirstAbove q c.loop-row.pass.last row) (sym (there k)) (first k))));
      sectors = λ s.
          let form = before.grown.form in
          subst (λ f. AreSectors f c.meet.new.self.catalogue.root_pages) form
          (c.in_ok-meet.ensures.sectors (subst (λ f. AreSectors f c.turn.new.self.catalogue.root_pages) (sym form) (subst (λ names. AreSectors a.form names.root_pages) (sym c.turn.ensures.keeps) (inv.sectors s))));
    }

pub returns-in_err-meet-clause-found : goal.returns-in_err-meet-clause-found
returns-in_err-meet-clause-found g c = λ k astray.
    let here = pack-silent c.loop-row.invariant.alone.grown (c.loop-row.invariant.silent k) in
    let first : IsFirstAbove (pack (g.D.Tape.tape c.loop-row.disk)) c.loop-row.pass.last c.in-Some.row = subst (IsNextRow (pack (g.D.Tape.tape c.loop-row.disk)) c.loop-row.pass.last) c.in-Some.is (c.in_ok-row.ensures.next k) in
    let there : carried (pack (g.D.Tape.tape c.next_row.new.disk)) c.in-Some.row.at ≡ Some c.in-Some.row.page = ap (λ (q : Pack). carried q c.in-Some.row.at) (looks_pack c.in_ok-row.ensures.looks k) ∙ carried_row (pack (g.D.Tape.tape c.loop-row.disk)) c.in-Some.row.at c.in-Some.row first.here in
    found_part c.in_err-meet.field-0.0 c.from_residual-in_err-meet.result (c.in_err-meet.ensures.found k there) c.from_residual-in_err-meet.ensures.1 astray

pub returns-in_err-meet-clause-alone : goal.returns-in_err-meet-clause-alone
returns-in_err-meet-clause-alone g c = alone_twice (alone_twice c.loop-row.invariant.alone c.in_ok-row.ensures.looks.alone) c.in_err-meet.ensures.looks.alone

pub returns-clause-names : goal.returns-clause-names
returns-clause-names g c = λ k start.
    let here = pack-silent c.loop-row.invariant.alone.grown (c.loop-row.invariant.silent k) in
    let none = subst (λ (q : Pack). IsNextRow q c.loop-row.pass.last None) here (subst (IsNextRow (pack (g.D.Tape.tape c.loop-row.disk)) c.loop-row.pass.last) c.in_default.is (c.in_ok-row.ensures.next k)) in
    read_end (pack (g.D.Tape.tape c.args.disk.now)) c.loop-row.pass.last c.loop-row.self (c.loop-row.invariant.read k start) none

pub returns-clause-alone : goal.returns-clause-alone
returns-clause-alone g c = alone_twice c.loop-row.invariant.alone c.in_ok-row.ensures.looks.alone

pub returns-in_err-pass-clause-cause : goal.returns-in_err-pass-clause-cause
returns-in_err-pass-clause-cause g c = cause_of_swept c.in_err-pass.field-0.0 c.from_residual.result (alone_here _) refl c.in_err-pass.ensures.looks.alone c.in_err-pass.ensures.cause c.from_residual.ensures.1

pub returns-in_err-row-clause-cause : goal.returns-in_err-row-clause-cause
returns-in_err-row-clause-cause g c = cause_of_part c.in_err-row.field-0.0 c.from_residual-in_err-row.result c.loop-row.invariant.alone c.loop-row.invariant.unfailed c.in_err-row.ensures.looks.alone c.in_err-row.ensures.cause c.from_residual-in_err-row.ensures.1

pub returns-in_err-meet-clause-cause : goal.returns-in_err-meet-clause-cause
returns-in_err-meet-clause-cause g c = cause_of_part c.in_err-meet.field-0.0 c.from_residual-in_err-meet.result (alone_twice c.loop-row.invariant.alone c.in_ok-row.ensures.looks.alone) (c.in_ok-row.ensures.cause ∙ c.loop-row.invariant.unfailed) c.in_err-meet.ensures.looks.alone c.in_err-meet.ensures.cause c.from_residual-in_err-meet.ensures.1

pub returns-clause-cause : goal.returns-clause-cause
returns-clause-cause g c = c.in_ok-row.ensures.cause ∙ c.loop-row.invariant.unfailed

pub returns-clause-sectors : goal.returns-clause-sectors
returns-clause-sectors g c = c.loop-row.invariant.sectors

pub returns-clause-silent : goal.returns-clause-silent
returns-clause-silent g c = λ k. silent_twice c.loop-row.invariant.alone.grown c.in_ok-row.ensures.looks.alone.grown (c.loop-row.invariant.silent k) (c.in_ok-row.ensures.looks.silent k)

pub returns-in_err-row-clause-silent : goal.returns-in_err-row-clause-silent
returns-in_err-row-clause-silent g c = λ k. silent_twice c.loop-row.invariant.alone.grown c.in_err-row.ensures.looks.alone.grown (c.loop-row.invariant.silent k) (c.in_err-row.ensures.looks.silent k)

pub returns-in_err-meet-clause-silent : goal.returns-in_err-meet-clause-silent
returns-in_err-meet-clause-silent g c = λ k.
    let before = alone_twice c.loop-row.invariant.alone c.in_ok-row.ensures.looks.alone in
    let silent = silent_twice c.loop-row.invariant.alone.grown c.in_ok-row.ensures.looks.alone.grown (c.loop-row.invariant.silent k) (c.in_ok-row.ensures.looks.silent k) in
    silent_twice before.grown c.in_err-meet.ensures.looks.alone.grown silent (c.in_err-meet.ensures.looks.silent k)

pub returns-in_err-pass-clause-silent : goal.returns-in_err-pass-clause-silent
returns-in_err-pass-clause-silent g c = c.in_err-pass.ensures.looks.silent

pub returns-in_err-pass-clause-alone : goal.returns-in_err-pass-clause-alone
returns-in_err-pass-clause-alone g c = c.in_err-pass.ensures.looks.alone

pub returns-in_err-row-clause-found : goal.returns-in_err-row-clause-found
returns-in_err-row-clause-found g c = λ k astray. found_part c.in_err-row.field-0.0 c.from_residual-in_err-row.result (c.in_err-row.ensures.found k) c.from_residual-in_err-row.ensures.1 astray

pub returns-clause-found : goal.returns-clause-found
returns-clause-found g c = λ k astray. cc

pub loop-row-smaller : goal.loop-row-smaller
loop-row-smaller g c =
    let last_is : c.next_row.new.pass.last ≡ Some c.in-Some.row = c.in_ok-row.ensures.last ∙ ap (λ o. option_or o c.loop-row.pass.last) c.in-Some.is in
    subst (λ l. ahead l < ahead c.loop-row.pass.last) (sym last_is) (ahead_falls c.loop-row.pass.last c.in-Some.row (subst (IsNext c.loop-row.pass.last) c.in-Some.is c.in_ok-row.ensures.rises))

pub meet-requires-clause-first : goal.meet-requires-clause-first
meet-requires-clause-first g c = (subst (λ o. IfSome o (λ (r : Row). (1 ≤ r.at) × (r.at < pages_of (g.D.Tape.tape c.loop-row.disk).form))) c.in-Some.is c.in_ok-row.ensures.place).0

pub meet-requires-clause-place : goal.meet-requires-clause-place
meet-requires-clause-place g c =
    subst (λ f. c.in-Some.row.at < pages_of f) (sym c.in_ok-row.ensures.looks.alone.grown.form)
    (subst (λ o. IfSome o (λ (r : Row). (1 ≤ r.at) × (r.at < pages_of (g.D.Tape.tape c.loop-row.disk).form))) c.in-Some.is c.in_ok-row.ensures.place).1

pub meet-requires-clause-same : goal.meet-requires-clause-same
meet-requires-clause-same g c = c.turn.ensures.same
