-- The laws of views: what other crates cite.
pub use Rattle.laws_record.proofs.SystemWrites.{first_leader_of_the_main_directory}
pub use Rattle.laws_record.proofs.inside.AsBefore.{descriptor_leader_views_same, descriptor_pages_views_same, system_leader_value_views_same, unused_release_views_same}
