use Rattle.std.proofs.Common.{arith, ◌∙◌}
use Rattle.exec_session.proofs.Slots.{some_at}
use Rattle.exec_session.proofs.streams.OpenStreams.is_open.Goals as goal

pub returns : goal.returns
returns c =
    let eight = c.self.told in
    let low = c.requires.low in
    c.is_some.ensures ∙ some_at c.self.inside.slots c.args.self.now c.self.view_is c.args.number c.from.result c.from.ensures (omega (arith, eight, low)) c.index-self-from.result
