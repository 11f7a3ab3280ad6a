use Rattle.laws_line.proofs.inside.Marked.{open_pack_is_unmarked}
use Rattle.laws_line.proofs.crashes.open_pack_is_unmarked.Goals as goal

pub returns : goal.returns
returns c = open_pack_is_unmarked
