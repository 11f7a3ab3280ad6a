use Rattle.std.proofs.Common.{◌≡◌, ◌+◌, drop}
use Rattle.laws_zone.specs.world_model.specs.ZoneWords.{first_set}
use Rattle.zones.proofs.check.check_zeros.Given as goal

abbrev pub invariant-loop-i : goal.invariant-loop-i
invariant-loop-i l = first_set l.from l.words ≡ first_set (l.from + l.i) (drop l.i l.words)
