use Rattle.laws_format.proofs.inside.Formats.{formatted_pack_is_empty}
use Rattle.laws_format.proofs.formatted.formatted_pack_is_empty.Goals as goal

pub returns : goal.returns
returns c = formatted_pack_is_empty
