-- The laws of links: what other crates cite.
pub use Rattle.laws_operation.proofs.inside.links.PageAfter.{next_link_names_the_page_after}
