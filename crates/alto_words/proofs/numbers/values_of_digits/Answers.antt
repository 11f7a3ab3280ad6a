use Rattle.alto_words.proofs.HexLanes.{lane_values}
use Rattle.alto_words.proofs.numbers.values_of_digits.Goals as goal

pub returns : goal.returns
returns c = lane_values 16 c.args.digits c.fits-digits.0
