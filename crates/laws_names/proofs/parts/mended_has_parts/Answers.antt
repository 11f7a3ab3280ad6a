use Rattle.laws_names.proofs.inside.Parted.{mended_has_parts}
use Rattle.laws_names.proofs.parts.mended_has_parts.Goals as goal

pub returns : goal.returns
returns c = mended_has_parts
