use Rattle.exec_steps.proofs.Several.{looks_midway_stop}
use Rattle.exec_steps.proofs.laws.looks_midway_stop.Goals as goal

pub returns : goal.returns
returns g c = looks_midway_stop _
