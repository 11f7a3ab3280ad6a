use Rattle.laws_line.proofs.inside.Fitting.{descriptor_fits_on}
use Rattle.laws_line.proofs.fits.descriptor_fits_on.Goals as goal

pub returns : goal.returns
returns c = descriptor_fits_on
