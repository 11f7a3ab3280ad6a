use Rattle.std.proofs.Common.{◌≡◌, ℕ, ◌⊎◌, true, length, take}
use Rattle.std.specs.Prelude.{All, Contains}
use Rattle.hint_cache.specs.Bits.{busy_at}
use Rattle.page_alloc.proofs.take.mark_busy.Given as goal

abbrev pub invariant-loop-at : goal.invariant-loop-at
invariant-loop-at l =
    record {
      sized : length l.table ≡ length l.fn.table;
      busy : All (λ at. busy_at l.table at ≡ true) (take l.at-index l.taken);
      others : (at : ℕ) → (busy_at l.table at ≡ busy_at l.fn.table at) ⊎ Contains l.taken at;
    }
