use Rattle.laws_format.proofs.inside.Writes.{formatting_leaves_its_pack}
use Rattle.laws_format.proofs.formatted.formatting_leaves_its_pack.Goals as goal

pub returns : goal.returns
returns c = formatting_leaves_its_pack
