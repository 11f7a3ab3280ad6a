use Rattle.pack_laws.proofs.OwnRule.{own_rule}
use Rattle.pack_laws.proofs.names.own_rule.Goals as goal

pub returns : goal.returns
returns c = own_rule
