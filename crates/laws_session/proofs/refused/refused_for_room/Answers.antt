use Rattle.laws_session.proofs.inside.Refusing.{refused_for_room}
use Rattle.laws_session.proofs.refused.refused_for_room.Goals as goal

pub returns : goal.returns
returns c = refused_for_room
