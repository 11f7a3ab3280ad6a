use Rattle.laws_midway.proofs.inside.Longer.{last_page_has_a_number}
use Rattle.laws_midway.proofs.growing.last_page_has_a_number.Goals as goal

pub returns : goal.returns
returns c = last_page_has_a_number
