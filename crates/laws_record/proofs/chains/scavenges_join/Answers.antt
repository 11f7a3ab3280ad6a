use Rattle.laws_record.proofs.Chaining.{scavenges_join}
use Rattle.laws_record.proofs.chains.scavenges_join.Goals as goal

pub returns : goal.returns
returns c = scavenges_join
