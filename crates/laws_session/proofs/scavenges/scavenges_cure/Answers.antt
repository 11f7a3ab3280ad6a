use Rattle.laws_session.proofs.inside.Scavenging.{scavenges_cure}
use Rattle.laws_session.proofs.scavenges.scavenges_cure.Goals as goal

pub returns : goal.returns
returns c = scavenges_cure
