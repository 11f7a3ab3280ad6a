use Rattle.laws_lookup.proofs.inside.Misleading.{link_means_the_next_page}
use Rattle.laws_lookup.proofs.hints.link_means_the_next_page.Goals as goal

pub returns : goal.returns
returns c = link_means_the_next_page
