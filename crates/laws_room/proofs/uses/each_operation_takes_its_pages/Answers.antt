use Rattle.laws_room.proofs.inside.EachUse.{each_operation_takes_its_pages}
use Rattle.laws_room.proofs.uses.each_operation_takes_its_pages.Goals as goal

pub returns : goal.returns
returns c = each_operation_takes_its_pages
