use Rattle.laws_lookup.proofs.inside.Fitting.{apart_entry_fits}
use Rattle.laws_lookup.proofs.entering.apart_entry_fits.Goals as goal

pub returns : goal.returns
returns c = apart_entry_fits
