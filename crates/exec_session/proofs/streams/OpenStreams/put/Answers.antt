use Rattle.std.proofs.Common.{arith}
use Rattle.exec_session.proofs.Slots.{slot_put}
use Rattle.exec_session.proofs.streams.OpenStreams.put.Goals as goal

pub returns : goal.returns
returns c =
    let eight = c.self.invariant in
    let low = c.requires.low in
    slot_put c.self.inside.slots c.args.self.now c.self.view_is c.args.number c.from.result c.from.ensures (omega (arith, eight, low)) c.args.state c.requires.free
