use Rattle.exec_session.specs.Meant.{kept}
use Rattle.session_model.specs.Keeping.{Formed}
use Rattle.test_executive.proofs.talk.talk.Given as goal

abbrev pub invariant-loop-line : goal.invariant-loop-line
invariant-loop-line l = Formed l.shape (kept l.session)
