use Rattle.laws_line.proofs.inside.SoundSettled.{sound_is_settled}
use Rattle.laws_line.proofs.lines.sound_is_settled.Goals as goal

pub returns : goal.returns
returns c = sound_is_settled
