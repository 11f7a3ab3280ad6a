-- The next link of a page, by the place of the page after it.
use Rattle.laws_operation.proofs.inside.links.Linked.{file_links}
use Rattle.laws_operation.specs.PageLinkLaws.{NextLinkNamesThePageAfter}

pub next_link_names_the_page_after : NextLinkNamesThePageAfter
next_link_names_the_page_after p f n i w links there = (file_links p w links.pages f n i there).next
