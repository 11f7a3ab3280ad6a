use Rattle.laws_format.proofs.inside.Formats.{formatted_pack_begins_a_session}
use Rattle.laws_format.proofs.formatted.formatted_pack_begins_a_session.Goals as goal

pub returns : goal.returns
returns c = formatted_pack_begins_a_session
