use Rattle.std.proofs.Common.{◌∙◌, ap}
use Rattle.pack_model.specs.reading.Bytes.{words_of}
use Rattle.leader_page.proofs.leader.name_words.Goals as goal

pub returns-clause-words : goal.returns-clause-words
returns-clause-words c = c.bytes_into_words.ensures.words ∙ ap words_of c.name_bytes-bytes.ensures.bytes
