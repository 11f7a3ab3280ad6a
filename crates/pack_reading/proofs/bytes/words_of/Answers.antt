use Rattle.std.proofs.Common.{◌≡◌, ◌∙◌, arith}
use Rattle.std.proofs.lemmas.Grind.{common_steps}
use Rattle.pack_reading.proofs.Words.{words_of-even}
use Rattle.pack_reading.proofs.bytes.words_of.Goals as goal

pub returns : goal.returns
returns c =
    let all : c.from_vec.result ≡ c.bytes_into_words.new.words = grind (arith, common_steps) in
    all ∙ c.bytes_into_words.ensures.words ∙ words_of-even c.args.bytes.now
