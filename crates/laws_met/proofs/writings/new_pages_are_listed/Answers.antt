use Rattle.laws_met.proofs.inside.Writings.{new_pages_are_listed}
use Rattle.laws_met.proofs.writings.new_pages_are_listed.Goals as goal

pub returns : goal.returns
returns c = new_pages_are_listed
