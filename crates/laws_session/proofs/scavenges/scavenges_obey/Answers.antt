use Rattle.laws_session.proofs.inside.Scavenging.{scavenges_obey}
use Rattle.laws_session.proofs.scavenges.scavenges_obey.Goals as goal

pub returns : goal.returns
returns c = scavenges_obey
