-- The laws of runs: what other crates cite.
pub use Rattle.laws_mend.proofs.inside.Claiming.{descriptor_claim_tends, last_claim_tends, unread_claim_tends}
pub use Rattle.laws_mend.proofs.inside.Relabelling.{descriptor_count_tends, directory_cut_tends, lost_name_tends, other_links_tend}
pub use Rattle.laws_mend.proofs.inside.Releasing.{copy_release_tends, stray_release_tends, unused_release_tends}
pub use Rattle.laws_mend.proofs.inside.SystemPages.{descriptor_leader_tends, root_copy_tends, root_leader_tends, system_name_tends}
