use Rattle.laws_operation.proofs.inside.links.PageAfter.{next_link_names_the_page_after}
use Rattle.laws_operation.proofs.links.next_link_names_the_page_after.Goals as goal

pub returns : goal.returns
returns c = next_link_names_the_page_after
