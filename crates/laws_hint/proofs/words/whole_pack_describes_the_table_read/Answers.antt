use Rattle.laws_hint.proofs.inside.Wording.{whole_pack_describes_the_table_read}
use Rattle.laws_hint.proofs.words.whole_pack_describes_the_table_read.Goals as goal

pub returns : goal.returns
returns c = whole_pack_describes_the_table_read
