-- The laws of quiet: what other crates cite.
pub use Rattle.laws_record.proofs.inside.AsBefore.{copy_claim_reads_same, copy_release_reads_same, equal_value_reads_same, free_value_reads_same, last_claim_reads_same, leader_hints_reads_same, lowest_release_reads_same, other_links_reads_same, past_count_reads_same, same_leader_reads_same, stray_release_reads_same, unread_claim_reads_same, unread_release_reads_same}
