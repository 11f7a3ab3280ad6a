use Rattle.laws_line.proofs.inside.Closing.{closing_of_a_sound_pack}
use Rattle.laws_line.proofs.ending.closing_of_a_sound_pack.Goals as goal

pub returns : goal.returns
returns c = closing_of_a_sound_pack
