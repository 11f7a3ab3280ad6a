use Rattle.laws_session.proofs.inside.Scavenging.{quiet_writes_obey}
use Rattle.laws_session.proofs.scavenges.quiet_writes_obey.Goals as goal

pub returns : goal.returns
returns c = quiet_writes_obey
