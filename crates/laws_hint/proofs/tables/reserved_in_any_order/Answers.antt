use Rattle.laws_hint.proofs.inside.Reserving.{reserved_in_any_order}
use Rattle.laws_hint.proofs.tables.reserved_in_any_order.Goals as goal

pub returns : goal.returns
returns c = reserved_in_any_order
