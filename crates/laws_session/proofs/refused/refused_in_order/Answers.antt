use Rattle.laws_session.proofs.inside.Refusing.{refused_in_order}
use Rattle.laws_session.proofs.refused.refused_in_order.Goals as goal

pub returns : goal.returns
returns c = refused_in_order
