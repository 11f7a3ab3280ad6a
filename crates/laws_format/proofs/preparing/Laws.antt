-- The laws of preparing: what other crates cite.
pub use Rattle.laws_format.proofs.inside.Preparing.{free_header_views_same, preparing_frees_the_drive, preparing_goes_on, preparing_shows_same, unused_value_reads_same}
