use Rattle.kept_names.proofs.Passing.{none_passed}
use Rattle.kept_names.proofs.passed.Passed.new.Goals as goal

pub returns : goal.returns
returns c = λ homes. none_passed homes (record { counts = c.new.result }) c.new.ensures.empty
