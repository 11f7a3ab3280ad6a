use Rattle.pack_laws.proofs.inside.Tallying.{tally_in_numbers}
use Rattle.pack_laws.proofs.tallies.tally_in_numbers.Goals as goal

pub returns : goal.returns
returns c = tally_in_numbers
