use Rattle.laws_session.proofs.inside.Refusing.{refused_by_tests}
use Rattle.laws_session.proofs.refused.refused_by_tests.Goals as goal

pub returns : goal.returns
returns c = refused_by_tests
