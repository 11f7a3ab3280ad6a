use Rattle.laws_session.proofs.inside.Standing.{sound_packs_begin}
use Rattle.laws_session.proofs.ends.sound_packs_begin.Goals as goal

pub returns : goal.returns
returns c = sound_packs_begin
