use Rattle.laws_mend.proofs.inside.WholePacks.{sound_is_mended}
use Rattle.laws_mend.proofs.parts.sound_is_mended.Goals as goal

pub returns : goal.returns
returns c = sound_is_mended
