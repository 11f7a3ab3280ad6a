-- The laws of other files: what other crates cite.
pub use Rattle.laws_lookup.proofs.inside.LeftAlone.{cut_keeps_pages, cut_leaves_others, grow_keeps_pages, grow_leaves_others, make_leaves_others, place_is_of_its_file, release_leaves_others, values_leave_others, widen_keeps_pages, widen_leaves_others}
