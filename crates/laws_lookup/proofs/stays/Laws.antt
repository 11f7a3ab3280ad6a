-- The laws of what stays: what other crates cite.
pub use Rattle.laws_lookup.proofs.inside.Staying.{address_misled_before, entries_of_another_directory_stand, entries_stand_beside_an_ordinary_file, link_misled_before, pages_of_another_file_stay, slots_of_another_directory_stay, values_leave_next_links, values_misled_before}
