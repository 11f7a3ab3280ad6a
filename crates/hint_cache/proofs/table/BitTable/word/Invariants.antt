use Rattle.std.proofs.Common.{◌≡◌, ◌*◌}
use Rattle.hint_cache.specs.Bits.{number_of}
use Rattle.hint_cache.proofs.table.BitTable.word.Given as goal

abbrev pub invariant-loop-i : goal.invariant-loop-i
invariant-loop-i l = l.word ≡ number_of l.self (l.fn.index * 16) l.i
