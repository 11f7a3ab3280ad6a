use Rattle.kept_names.proofs.Homes.{empty_stands}
use Rattle.kept_names.proofs.names.Names.new.Goals as goal

pub returns : goal.returns
returns c = empty_stands _ c.new.ensures.empty c.new-2.ensures.empty c.new-3.ensures.empty
