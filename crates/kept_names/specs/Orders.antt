-- The order of names with their directories is total.
use Rattle.std.specs.Cmp.{IsTotalOrder, then_total, on_total}
use Rattle.pack_laws.proofs.Keys.{fid_total}
use Rattle.pack_laws.proofs.Orders.{name_total}
use Rattle.kept_names.specs.Homes.{qualified_cmp}

pub qualified_total : IsTotalOrder qualified_cmp
qualified_total = then_total (on_total (λ p. p.directory) fid_total) (on_total (λ p. p.name) name_total)
