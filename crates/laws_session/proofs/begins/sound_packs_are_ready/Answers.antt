use Rattle.laws_session.proofs.inside.Opening.{sound_packs_are_ready}
use Rattle.laws_session.proofs.begins.sound_packs_are_ready.Goals as goal

pub returns : goal.returns
returns c = sound_packs_are_ready
