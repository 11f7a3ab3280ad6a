-- What a caller knows before it cuts a file. What other crates cite.
pub use Rattle.laws_midway.proofs.inside.Cutting.{cut_is_of_these_sectors, whole_file_may_be_cut}
