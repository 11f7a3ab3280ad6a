use Rattle.std.proofs.Common.{ℕ, ◌≡◌, ◌≤◌}
use Rattle.hint_cache.specs.Caches.{NoneListed, address_in}
use Rattle.page_seeking.specs.Inside.{KeepsEach}
use Rattle.page_seeking.specs.Seeking.{page_number}
use Rattle.page_seeking.proofs.ends.forget_after.Given as goal

abbrev pub invariant-loop-entry : goal.invariant-loop-entry
invariant-loop-entry l =
    record {
      refused : l.cache.refused ≡ l.fn.cache.refused;
      each : KeepsEach l.fn.cache l.cache;
      lower : (n : ℕ) → n ≤ l.number → address_in l.cache.entries (page_number l.fid n) ≡ address_in l.fn.cache.entries (page_number l.fid n);
      none : NoneListed l.cache.entries l.fid l.above 65535;
    }

abbrev pub decreases-loop-entry : goal.decreases-loop-entry
decreases-loop-entry l = l.above
