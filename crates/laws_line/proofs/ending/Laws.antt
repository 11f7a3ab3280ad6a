-- The laws of the end of a session: what other crates cite.
pub use Rattle.laws_line.proofs.inside.Closing.{closing_of_a_sound_pack, ending_on_a_sound_pack}
