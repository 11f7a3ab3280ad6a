-- The laws of walks: what other crates cite.
pub use Rattle.laws_zone.proofs.inside.Walks.{walks_begin, walks_go_on, walks_meet_a_block, walks_pass_all}
