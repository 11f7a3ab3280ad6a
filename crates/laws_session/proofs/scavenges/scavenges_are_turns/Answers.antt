use Rattle.laws_session.proofs.inside.Scavenging.{scavenges_are_turns}
use Rattle.laws_session.proofs.scavenges.scavenges_are_turns.Goals as goal

pub returns : goal.returns
returns c = scavenges_are_turns
