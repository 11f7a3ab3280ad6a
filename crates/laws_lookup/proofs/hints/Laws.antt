-- The laws of hints: what other crates cite.
pub use Rattle.laws_lookup.proofs.inside.Misleading.{hint_misled_before, hint_names_one_sector, label_of_another_page_misleads, link_means_the_next_page, no_sector_misleads}
pub use Rattle.laws_lookup.proofs.inside.TrueHints.{held_address_never_misleads, root_never_misleads, true_hints_never_mislead}
pub use Rattle.laws_lookup.proofs.inside.OneSlot.{place_means_one_page}
