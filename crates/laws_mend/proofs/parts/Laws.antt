-- The laws of parts: what other crates cite.
pub use Rattle.laws_mend.proofs.inside.Alike.{leader_value_leaves, other_links_leave}
pub use Rattle.laws_mend.proofs.inside.Completed.{last_claim_leaves}
pub use Rattle.laws_mend.proofs.inside.Describing.{described_is_lasting, descriptor_claim_leaves, descriptor_count_leaves, descriptor_leader_makes_lasting}
pub use Rattle.laws_mend.proofs.inside.Gone.{copy_release_leaves, stray_release_leaves, unused_release_leaves}
pub use Rattle.laws_mend.proofs.inside.PartsMended.{parts_are_mended}
pub use Rattle.laws_mend.proofs.inside.RootMade.{root_is_made}
pub use Rattle.laws_mend.proofs.inside.RootMoved.{root_is_moved}
pub use Rattle.laws_mend.proofs.inside.Shortened.{directory_cut_leaves}
pub use Rattle.laws_mend.proofs.inside.WholePacks.{sound_is_mended, whole_is_lasting}
