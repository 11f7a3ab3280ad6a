use Rattle.laws_line.proofs.inside.crashes.SoundLining.{crashes_of_a_line_on_a_sound_pack}
use Rattle.laws_line.proofs.sound.crashes_of_a_line_on_a_sound_pack.Goals as goal

pub returns : goal.returns
returns c = crashes_of_a_line_on_a_sound_pack
