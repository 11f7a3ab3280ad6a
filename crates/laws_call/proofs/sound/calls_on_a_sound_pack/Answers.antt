use Rattle.laws_call.proofs.inside.SoundCalls.{calls_on_a_sound_pack}
use Rattle.laws_call.proofs.sound.calls_on_a_sound_pack.Goals as goal

pub returns : goal.returns
returns g c = calls_on_a_sound_pack _ _
