-- Where the pages of a file are once it has grown, and how long it is. What other crates cite.
pub use Rattle.laws_midway.proofs.inside.Growing.{directory_has_grown, file_has_grown}
pub use Rattle.laws_midway.proofs.inside.Longer.{grow_lengthens, last_page_has_a_number, widen_lengthens}
