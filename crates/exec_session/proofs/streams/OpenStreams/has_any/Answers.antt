use Rattle.std.proofs.Common.{ap, length, nat_lt, ◌∙◌}
use Rattle.exec_session.proofs.Slots.{any_in_slots}
use Rattle.exec_session.proofs.streams.OpenStreams.has_any.Goals as goal

pub returns : goal.returns
returns c = c.have_any.ensures ∙ any_in_slots 0 c.self.inside.slots ∙ ap (λ os. nat_lt 0 (length os)) c.self.view_is
