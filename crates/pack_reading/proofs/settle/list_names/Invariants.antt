use Rattle.std.proofs.Common.{◌≡◌, ◌++◌, map}
use Rattle.kept_names.specs.Homes.{naming_at}
use Rattle.pack_reading.specs.Shows.{shown_name}
use Rattle.pack_reading.proofs.settle.list_names.Given as goal

abbrev pub invariant-loop-entry : goal.invariant-loop-entry
invariant-loop-entry l = l.list.items ++ map (λ e. shown_name (naming_at e)) l.entry-iterator ≡ map (λ e. shown_name (naming_at e)) l.names.kept.keys
