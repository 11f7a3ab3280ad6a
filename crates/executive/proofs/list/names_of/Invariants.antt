use Rattle.std.specs.Iterator.Adapters.{rev_source}
use Rattle.std.specs.Slice.Iter.{iter_rest}
use Rattle.executive.proofs.Names.{Ordered}
use Rattle.executive.proofs.list.names_of.Given as goal

abbrev pub invariant-loop-slot : goal.invariant-loop-slot
invariant-loop-slot l = Ordered l.names.keys (iter_rest (rev_source l.slot-iterator)) l.slots
