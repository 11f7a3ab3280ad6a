use Rattle.std.proofs.Common.{◌≡◌, take}
use Rattle.std.specs.List.{list_all}
use Rattle.hint_cache.proofs.table.are_busy.Given as goal

abbrev pub invariant-loop-busy : goal.invariant-loop-busy
invariant-loop-busy l = l.all ≡ list_all (λ busy. busy) (take l.busy-index l.bits)
