use Rattle.laws_record.proofs.AllSectors.{sentences_hold}
use Rattle.laws_record.proofs.sentences.sentences_hold.Goals as goal

pub returns : goal.returns
returns c = sentences_hold
