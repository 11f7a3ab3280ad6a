use Rattle.laws_hint.proofs.inside.Wording.{absent_map_is_read_busy_and_described_free}
use Rattle.laws_hint.proofs.words.absent_map_is_read_busy_and_described_free.Goals as goal

pub returns : goal.returns
returns c = absent_map_is_read_busy_and_described_free
