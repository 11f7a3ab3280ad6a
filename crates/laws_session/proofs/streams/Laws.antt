-- The laws of lines on streams: what other crates cite.
pub use Rattle.laws_session.proofs.inside.Flushing.{ending_is_a_line, stream_line_may_begin}
pub use Rattle.laws_session.proofs.inside.Fitting.{kept_streams_stand, streams_stay_fit}
pub use Rattle.laws_session.proofs.inside.Numbered.{streams_stay_apart}
