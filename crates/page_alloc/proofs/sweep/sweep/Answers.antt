use Rattle.std.proofs.Common.{◌+◌, min, length, sym, ◌∙◌, ap, subst, arith}
use Rattle.disk_records.specs.Packs.{is_free_at}
use Rattle.disk_records.specs.Tapes.{pack}
use Rattle.page_alloc.specs.Free.{IsRising}
use Rattle.page_alloc.specs.Inside.{is_left}
use Rattle.page_alloc.proofs.Silent.{looks_step, looks_below}
use Rattle.page_alloc.proofs.FreeLists.{most_one, count_more, count_listed, rising_listed, lowest_more, left_here}
use Rattle.page_alloc.proofs.Tables.{corrected_then, checked_then, free_then}
use Rattle.page_alloc.proofs.sweep.sweep.Goals as goal

pub is_free_by_now-requires-clause-checked : goal.is_free_by_now-requires-clause-checked
is_free_by_now-requires-clause-checked g c = λ told.
    let inv = c.loop-at.invariant in
    checked_then c.args.offers.now c.args.table.now c.loop-at.table _ inv.looks told (c.requires.checked told) (inv.corrected told) c.loop-at.at (omega arith) (omega (arith, inv.end))

pub returns-in_err-is_free-clause-looks : goal.returns-in_err-is_free-clause-looks
returns-in_err-is_free-clause-looks g c =
    let inv = c.loop-at.invariant in
    let offers = c.args.offers.now in
    looks_below (is_left offers) (c.loop-at.at + 1) _ (omega (arith, inv.end)) (looks_step (is_left offers) c.loop-at.at _ (left_here offers c.loop-at.at (omega arith)) inv.looks c.in_err-is_free.ensures.looks)

pub returns-in_err-list_free-clause-looks : goal.returns-in_err-list_free-clause-looks
returns-in_err-list_free-clause-looks g c =
    let inv = c.loop-at.invariant in
    let offers = c.args.offers.now in
    looks_below (is_left offers) (c.loop-at.at + 1) _ (omega (arith, inv.end)) (looks_step (is_left offers) c.loop-at.at _ (left_here offers c.loop-at.at (omega arith)) inv.looks c.in_ok-is_free.ensures.looks)

pub returns-clause-looks : goal.returns-clause-looks
returns-clause-looks g c = let inv = c.loop-at.invariant in looks_below (is_left c.args.offers.now) c.loop-at.at _ (omega (arith, inv.end)) inv.looks

pub loop-at-preserved : goal.loop-at-preserved
loop-at-preserved g c =
    let first = g.D.Tape.tape c.args.disk.now in
    let inv = c.loop-at.invariant in
    let at = c.loop-at.at in
    let offers = c.args.offers.now in
    let is_free = c.in_ok-is_free.is_free in
    let lowest = c.loop-at.lowest.items in
    record {
      looks = looks_step (is_left offers) at _ (left_here offers at (omega arith)) inv.looks c.in_ok-is_free.ensures.looks;
      unfailed = c.in_ok-is_free.ensures.cause ∙ inv.unfailed;
      end = inv.end;
      sized = c.in_ok-is_free.ensures.sized ∙ inv.sized;
      rising = subst (IsRising (at + 1)) (sym c.in_ok-list_free.ensures) (rising_listed c.args.wanted at is_free lowest (omega arith) inv.rising);
      few = let one = most_one is_free in omega (arith, c.counted-free.ensures, one);
      count = ap length c.in_ok-list_free.ensures ∙ count_listed c.args.wanted at c.loop-at.free is_free lowest inv.count ∙ ap (λ n. min c.args.wanted n) (sym c.counted-free.ensures);
      corrected = λ told. corrected_then c.args.table.now c.loop-at.table c.is_free_by_now.new.table inv.looks told (inv.corrected told) (c.in_ok-is_free.ensures.corrected told);
      free = λ told. c.counted-free.ensures ∙ count_more (is_free_at (pack first)) at c.loop-at.free is_free (inv.free told) (free_then at is_free inv.looks told (c.in_ok-is_free.ensures.free told));
      lowest = λ told. c.in_ok-list_free.ensures ∙ lowest_more (is_free_at (pack first)) c.args.wanted at is_free lowest (inv.lowest told) (free_then at is_free inv.looks told (c.in_ok-is_free.ensures.free told));
    }
