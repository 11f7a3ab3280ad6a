-- The laws of counting: what other crates cite.
pub use Rattle.laws_mend.proofs.inside.Pages.{counts_by_its_end, counts_by_its_format, full_pages_are_few, lasting_file_has_its_pages, used_by_its_page}
pub use Rattle.laws_mend.proofs.inside.Shortened.{directory_reaches_its_end}
