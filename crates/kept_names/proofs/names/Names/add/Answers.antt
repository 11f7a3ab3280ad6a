use Rattle.kept_names.proofs.Homes.{entry_order, entry_stands}
use Rattle.kept_names.proofs.names.Names.add.Goals as goal

pub returns : goal.returns
returns c = λ homes stands none.
    entry_stands _ entry_order c.args.self.now _ c.args.entry homes c.in_ok-insert.ensures.updates.0 c.in_ok-insert-2.ensures.updates.0
    c.in_ok-insert-3.ensures.keys stands none
