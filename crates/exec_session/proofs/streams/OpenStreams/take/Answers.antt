use Rattle.std.proofs.Common.{ap, arith, sym, ◌∙◌}
use Rattle.std.specs.Option.{option_map}
use Rattle.std.specs.Prelude.{slice_set}
use Rattle.exec_session.specs.Streams.{numbered, open_file}
use Rattle.exec_session.proofs.Slots.{slot_emptied, open_at}
use Rattle.exec_session.proofs.streams.OpenStreams.take.Goals as goal

pub returns-clause-taken : goal.returns-clause-taken
returns-clause-taken c =
    let eight = c.self.invariant in
    let low = c.requires.low in
    open_at c.self.inside.slots c.args.self.now c.self.view_is c.args.number c.from.result c.from.ensures (omega (arith, eight, low)) c.index-self-from.result
    ∙ ap (option_map (open_file c.args.number)) (sym c.replace.ensures.value)

pub returns-clause-left : goal.returns-clause-left
returns-clause-left c =
    let eight = c.self.invariant in
    let low = c.requires.low in
    ap (λ slot. numbered 0 (slice_set c.self.inside.slots c.from.result slot)) c.replace.ensures.after
    ∙ slot_emptied c.self.inside.slots c.args.self.now c.self.view_is c.args.number c.from.result c.from.ensures (omega (arith, eight, low))
