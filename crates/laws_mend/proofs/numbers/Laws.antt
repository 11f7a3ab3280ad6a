-- The laws of numbers: what other crates cite.
pub use Rattle.laws_mend.proofs.inside.Counting.{freed_and_free, used_available_is_free}
pub use Rattle.laws_mend.proofs.inside.FirstSector.{first_sector_is_free}
pub use Rattle.laws_mend.proofs.inside.Freed.{copy_release_frees, directory_cut_frees, stray_release_frees, unused_release_frees}
pub use Rattle.laws_mend.proofs.inside.Freeing.{frees_join}
pub use Rattle.laws_mend.proofs.inside.FreeOnes.{needed_is_free, two_needed_are_free}
pub use Rattle.laws_mend.proofs.inside.Lacked.{lacking_page_is_free, root_needs_two}
pub use Rattle.laws_mend.proofs.inside.LackedDescriptor.{lacking_descriptor_page_is_free}
