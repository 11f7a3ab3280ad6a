use Rattle.laws_zone.proofs.inside.Writing.{memories_are_their_blocks}
use Rattle.laws_zone.proofs.memories.memories_are_their_blocks.Goals as goal

pub returns : goal.returns
returns c = memories_are_their_blocks
