-- The laws of lines on files that aren't refused: what other crates cite.
pub use Rattle.laws_session.proofs.inside.Filling.{full_asks_for_its_pages}
pub use Rattle.laws_session.proofs.inside.Newcomers.{copy_may_begin, make_dir_may_begin, make_may_begin, rename_may_begin}
pub use Rattle.laws_session.proofs.inside.OneFile.{append_may_begin, cut_may_begin, delete_may_begin, patch_may_begin, remove_dir_may_begin}
pub use Rattle.laws_session.proofs.inside.Outloading.{outload_may_begin}
pub use Rattle.laws_session.proofs.inside.Passing.{unrefused_lines_have_their_pages}
