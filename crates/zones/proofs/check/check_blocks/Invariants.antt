use Rattle.std.proofs.Common.{◌≡◌, ◌+◌, false, length}
use Rattle.laws_zone.specs.world_model.specs.ZoneWords.{first_wrong, zone_start}
use Rattle.zones.proofs.check.check_blocks.Given as goal

abbrev pub invariant-loop-tag : goal.invariant-loop-tag
invariant-loop-tag l = record {
  place : l.at + length l.rest ≡ zone_start + length l.zone;
  same : first_wrong (length l.zone) zone_start false l.zone ≡ first_wrong (length l.rest) l.at l.after_gap l.rest;
}

abbrev pub decreases-loop-tag : goal.decreases-loop-tag
decreases-loop-tag l = length l.rest
