-- What stays known of the sectors to come midway in a call's own loop. What other crates cite.
pub use Rattle.laws_midway.proofs.inside.Apart.{carried_is_apart_from_free, claims_leave_carried_pages}
pub use Rattle.laws_midway.proofs.inside.Looping.{claims_leave_other_sectors, each_sector_stays, relabel_leaves_other_sectors, releases_leave_other_sectors, releases_leave_the_rest}
