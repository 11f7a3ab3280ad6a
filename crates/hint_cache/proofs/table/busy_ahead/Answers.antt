use Rattle.std.proofs.Common.{◌≡◌, ℕ, ◌+◌, ◌-◌, take, drop, sym, ◌∙◌, ap, arith}
use Rattle.std.specs.List.{list_all}
use Rattle.hint_cache.proofs.FreeBits.{busy_on}
use Rattle.hint_cache.proofs.table.busy_ahead.Goals as goal

pub loop-at-preserved : goal.loop-at-preserved
loop-at-preserved c =
    let bits = c.args.bits.now in
    let size : 64 ≡ c.loop-at.at + 64 - c.loop-at.at = omega arith in
    let more = ap (λ (n : ℕ). list_all (λ busy. busy) (take n (drop c.loop-at.at bits))) size ∙ sym c.are_busy.ensures ∙ c.if-are_busy.true in
    (omega (arith, c.loop-at-test.true, c.loop-at.invariant.0), busy_on c.loop-at.at 64 bits c.loop-at.invariant.1 more)
