use Rattle.laws_format.proofs.inside.Formats.{formatted_descriptor_fits}
use Rattle.laws_format.proofs.formatted.formatted_descriptor_fits.Goals as goal

pub returns : goal.returns
returns c = formatted_descriptor_fits
