use Rattle.std.proofs.Common.{sym, ap, ◌∙◌, subst}
use Rattle.std.specs.Iterator.Adapters.{rev_source}
use Rattle.std.specs.Slice.Iter.{iter_rest}
use Rattle.executive.proofs.Names.{Ordered, ordered_more, ordered_none}
use Rattle.executive.proofs.list.names_of.Goals as goal

pub loop-slot-init : goal.loop-slot-init
loop-slot-init c =
    let left = ap rev_source c.into_iter-slot-iterator.ensures.into_iter_gives ∙ c.rev-slot-items.ensures.source in
    subst (λ l. Ordered c.new-names.result.keys l c.args.slots.now) (sym (ap iter_rest left ∙ c.iter.ensures.rest)) (ordered_none c.new-names.result.keys c.args.slots.now c.new-names.ensures.empty)

pub loop-slot-preserved : goal.loop-slot-preserved
loop-slot-preserved c =
    ordered_more c.loop-slot.names.keys c.insert_name.new.names.keys c.in-Some.slot.now (iter_rest (rev_source c.next.new.self)) (iter_rest (rev_source c.loop-slot.slot-iterator)) c.args.slots.now
    c.loop-slot.invariant c.in-Some.ensures.steps c.in_ok-insert_name.ensures
