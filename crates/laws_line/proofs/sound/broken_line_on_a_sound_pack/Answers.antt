use Rattle.laws_line.proofs.inside.crashes.Beginning.{broken_line_on_a_sound_pack}
use Rattle.laws_line.proofs.sound.broken_line_on_a_sound_pack.Goals as goal

pub returns : goal.returns
returns c = broken_line_on_a_sound_pack
