use Rattle.laws_line.proofs.inside.Fitting.{fitting_descriptor_may_close}
use Rattle.laws_line.proofs.fits.fitting_descriptor_may_close.Goals as goal

pub returns : goal.returns
returns c = fitting_descriptor_may_close
