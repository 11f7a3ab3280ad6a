use Rattle.laws_zone.proofs.Joining.{freed_blocks_join}
use Rattle.laws_zone.proofs.blocks.freed_blocks_join.Goals as goal

pub returns : goal.returns
returns c = freed_blocks_join
