use Rattle.laws_format.proofs.inside.Formats.{formatted_pack_shows_nothing}
use Rattle.laws_format.proofs.formatted.formatted_pack_shows_nothing.Goals as goal

pub returns : goal.returns
returns c = formatted_pack_shows_nothing
