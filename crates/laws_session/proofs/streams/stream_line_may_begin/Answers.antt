use Rattle.laws_session.proofs.inside.Flushing.{stream_line_may_begin}
use Rattle.laws_session.proofs.streams.stream_line_may_begin.Goals as goal

pub returns : goal.returns
returns c = stream_line_may_begin
