use Rattle.std.proofs.Common.{◌≡◌, ◌++◌, map}
use Rattle.executive.specs.declared.order.Listed.{Listed}
use Rattle.executive.proofs.list.row_of.Given as goal

abbrev pub invariant-loop-listed : goal.invariant-loop-listed
invariant-loop-listed l = l.row.items ++ map (λ (x : Listed). x.name) l.listed-iterator ≡ map (λ (x : Listed). x.name) l.names.keys
