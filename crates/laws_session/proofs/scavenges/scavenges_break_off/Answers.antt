use Rattle.laws_session.proofs.inside.Answering.{scavenges_break_off}
use Rattle.laws_session.proofs.scavenges.scavenges_break_off.Goals as goal

pub returns : goal.returns
returns c = scavenges_break_off
