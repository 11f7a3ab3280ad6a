use Rattle.laws_steps.proofs.inside.Hinting.{no_hint_means_an_absent_file}
use Rattle.laws_steps.proofs.hints.no_hint_means_an_absent_file.Goals as goal

pub returns : goal.returns
returns c = no_hint_means_an_absent_file
