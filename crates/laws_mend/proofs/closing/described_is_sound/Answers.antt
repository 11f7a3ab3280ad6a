use Rattle.laws_mend.proofs.closing.described_is_sound.Goals as goal
use Rattle.laws_mend.proofs.inside.Redescribed.{described_is_sound}

pub returns : goal.returns
returns c = described_is_sound
