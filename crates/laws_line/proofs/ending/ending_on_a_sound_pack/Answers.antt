use Rattle.laws_line.proofs.inside.Closing.{ending_on_a_sound_pack}
use Rattle.laws_line.proofs.ending.ending_on_a_sound_pack.Goals as goal

pub returns : goal.returns
returns c = ending_on_a_sound_pack
