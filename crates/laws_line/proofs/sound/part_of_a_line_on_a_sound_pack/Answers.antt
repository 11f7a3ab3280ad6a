use Rattle.laws_line.proofs.inside.crashes.Beginning.{part_of_a_line_on_a_sound_pack}
use Rattle.laws_line.proofs.sound.part_of_a_line_on_a_sound_pack.Goals as goal

pub returns : goal.returns
returns c = part_of_a_line_on_a_sound_pack
