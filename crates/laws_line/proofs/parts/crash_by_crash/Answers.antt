use Rattle.laws_line.proofs.inside.crashes.Parting.{crash_by_crash}
use Rattle.laws_line.proofs.parts.crash_by_crash.Goals as goal

pub returns : goal.returns
returns g c = crash_by_crash g.X.Property.holds
