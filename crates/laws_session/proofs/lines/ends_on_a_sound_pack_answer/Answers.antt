use Rattle.laws_session.proofs.inside.Lining.{ends_on_a_sound_pack_answer}
use Rattle.laws_session.proofs.lines.ends_on_a_sound_pack_answer.Goals as goal

pub returns : goal.returns
returns c = ends_on_a_sound_pack_answer
