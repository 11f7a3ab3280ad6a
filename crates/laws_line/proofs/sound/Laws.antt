-- The laws of sound: what other crates cite.
pub use Rattle.laws_line.proofs.inside.crashes.Beginning.{broken_line_on_a_sound_pack, part_of_a_line_on_a_sound_pack}
pub use Rattle.laws_line.proofs.inside.crashes.SoundLining.{crashes_of_a_line_on_a_sound_pack}
