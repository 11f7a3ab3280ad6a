use Rattle.laws_met.proofs.inside.Crowded.{entering_over_a_pages_end_is_written}
use Rattle.laws_met.proofs.writings.entering_over_a_pages_end_is_written.Goals as goal

pub returns : goal.returns
returns c = entering_over_a_pages_end_is_written
