-- Whole by the sentences, and whole by where each file lies.
use Rattle.pack_laws.specs.disk_records.specs.Packs.{Pack}
use Rattle.pack_laws.specs.pack_model.specs.states.Sentences.{IsWholeBySentences}
use Rattle.pack_laws.specs.pack_model.specs.states.Whole.{Whole}

-- what the sentences say of all sectors makes each file lie as a whole one
abbrev pub BySentences : Type 0
BySentences = (p : Pack) → IsWholeBySentences p → Whole p

-- and the other way
abbrev pub SentencesHold : Type 0
SentencesHold = (p : Pack) → Whole p → IsWholeBySentences p
