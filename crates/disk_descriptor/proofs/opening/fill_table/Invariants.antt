use Rattle.std.proofs.Common.{◌≡◌, ◌<◌, ℕ, get_or, length, true}
use Rattle.hint_cache.specs.Bits.{bit_in}
use Rattle.disk_descriptor.proofs.opening.fill_table.Given as goal

abbrev pub invariant-loop-at : goal.invariant-loop-at
invariant-loop-at l = record {
  sized : length l.table ≡ length l.fn.table;
  done : (i : ℕ) → i < l.at → get_or l.table i true ≡ bit_in l.words i;
}
