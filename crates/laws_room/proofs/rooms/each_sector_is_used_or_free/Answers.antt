use Rattle.laws_room.proofs.inside.EachSector.{each_sector_is_used_or_free}
use Rattle.laws_room.proofs.rooms.each_sector_is_used_or_free.Goals as goal

pub returns : goal.returns
returns c = each_sector_is_used_or_free
