use Rattle.laws_format.proofs.inside.Formats.{formatted_leaders_are_handy}
use Rattle.laws_format.proofs.formatted.formatted_leaders_are_handy.Goals as goal

pub returns : goal.returns
returns c = formatted_leaders_are_handy
