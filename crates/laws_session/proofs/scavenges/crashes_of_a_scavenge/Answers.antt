use Rattle.laws_session.proofs.inside.Scavenging.{crashes_of_a_scavenge}
use Rattle.laws_session.proofs.scavenges.crashes_of_a_scavenge.Goals as goal

pub returns : goal.returns
returns c = crashes_of_a_scavenge
