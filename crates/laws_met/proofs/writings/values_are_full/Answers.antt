use Rattle.laws_met.proofs.inside.Writings.{values_are_full}
use Rattle.laws_met.proofs.writings.values_are_full.Goals as goal

pub returns : goal.returns
returns c = values_are_full
