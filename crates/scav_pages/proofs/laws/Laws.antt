-- The laws of walks along rows, and of directories in hand: what other crates cite.
pub use Rattle.scav_pages.proofs.DirectoryReading.{may_cut as left_directory_is_known}
pub use Rattle.scav_pages.proofs.Walking.{leaves_its_file, leaves_the_last_file, left_file_is_known}
