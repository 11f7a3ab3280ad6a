use Rattle.laws_record.proofs.inside.LyingFiles.{by_sentences}
use Rattle.laws_record.proofs.sentences.by_sentences.Goals as goal

pub returns : goal.returns
returns c = by_sentences
