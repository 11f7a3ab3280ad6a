use Rattle.laws_lookup.proofs.inside.OneSlot.{place_means_one_page}
use Rattle.laws_lookup.proofs.hints.place_means_one_page.Goals as goal

pub returns : goal.returns
returns c = place_means_one_page
