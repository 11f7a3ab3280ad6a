use Rattle.laws_format.proofs.inside.Formats.{formatted_pack_has_free_sectors}
use Rattle.laws_format.proofs.formatted.formatted_pack_has_free_sectors.Goals as goal

pub returns : goal.returns
returns c = formatted_pack_has_free_sectors
