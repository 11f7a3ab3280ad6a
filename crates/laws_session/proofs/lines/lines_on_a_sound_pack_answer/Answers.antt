use Rattle.laws_session.proofs.inside.Lining.{lines_on_a_sound_pack_answer}
use Rattle.laws_session.proofs.lines.lines_on_a_sound_pack_answer.Goals as goal

pub returns : goal.returns
returns c = lines_on_a_sound_pack_answer
