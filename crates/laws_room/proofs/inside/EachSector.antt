-- Each sector of a whole pack is free or in use, where its header is right.
use Rattle.std.proofs.Common.{get_or, refl}
use Rattle.laws_operation.specs.pack_model.specs.reading.Sights.{sights}
use Rattle.laws_operation.specs.pack_model.specs.reading.Sights.Sight.{hidden}
use Rattle.laws_room.proofs.inside.WholeFiles.{sector_free, sector_used}
use Rattle.laws_room.specs.RoomLaws.{EachSectorIsUsedOrFree}

-- the law
pub each_sector_is_used_or_free : EachSectorIsUsedOrFree
each_sector_is_used_or_free p at w = record {
  in_use_is = sector_used p w at (get_or (sights p) at hidden) refl;
  available_is = sector_free p w at (get_or (sights p) at hidden) refl;
}
