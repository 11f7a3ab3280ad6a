use Rattle.laws_line.proofs.inside.crashes.Parting.{crashes_of_parts}
use Rattle.laws_line.proofs.parts.crashes_of_parts.Goals as goal

pub returns : goal.returns
returns g c = crashes_of_parts g.X.Property.holds
