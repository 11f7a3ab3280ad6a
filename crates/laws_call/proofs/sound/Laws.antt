-- The laws of calls from a sound pack: what other crates cite.
pub use Rattle.laws_call.proofs.inside.SoundCalls.{calls_on_a_sound_pack}
