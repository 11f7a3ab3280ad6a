use Rattle.std.proofs.Common.{IfNone, IfSome, length, map, subst, ◌<◌, ◌≡◌, ◌≤◌}
use Rattle.session_model.specs.Keeping.{stream_of}
use Rattle.session_model.specs.Refusals.{most_streams}
use Rattle.session_model.specs.Streams.{free_number}
use Rattle.exec_session.specs.Streams.{numbered}
use Rattle.exec_session.proofs.Slots.{lowest_found, none_found}
use Rattle.exec_session.proofs.streams.OpenStreams.lowest_free.Goals as goal

pub returns-clause-free : goal.returns-clause-free
returns-clause-free c =
    subst (λ os. IfSome c.first_free.result (λ n. (n < most_streams) × (n ≡ free_number 0 (map stream_of os)))) c.self.view_is
    (subst (λ many. IfSome c.first_free.result (λ n. (n < many) × (n ≡ free_number 0 (map stream_of (numbered 0 c.self.inside.slots))))) c.self.invariant (lowest_found c.self.inside.slots c.first_free.result c.first_free.ensures))

pub returns-clause-full : goal.returns-clause-full
returns-clause-full c =
    subst (λ os. IfNone c.first_free.result (most_streams ≤ length os)) c.self.view_is
    (subst (λ many. IfNone c.first_free.result (many ≤ length (numbered 0 c.self.inside.slots))) c.self.invariant (none_found c.self.inside.slots c.first_free.result c.first_free.ensures))
