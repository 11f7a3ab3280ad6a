use Rattle.std.proofs.Common.{ℕ, List, ◌+◌, ◌∷◌, ◌++◌, [], ap, refl, ◌∙◌, arith}
use Rattle.pack_model.specs.reading.Bytes.{put_at}
use Rattle.pack_model.specs.reading.SlotWords.{short_name_words}
use Rattle.disk_descriptor.proofs.Puts.{put_twice}
use Rattle.disk_descriptor.proofs.root.put_entry.Goals as goal

pub returns : goal.returns
returns c =
    let f = c.args.fid in
    let name = c.args.name.now in
    let head : ℕ → List ℕ = λ n. (1024 + n) ∷ f.high ∷ f.low ∷ f.version ∷ 0 ∷ c.args.leader_at ∷ [] in
    c.put_name.ensures
    ∙ ap (put_at (c.args.at + 6) (short_name_words name)) c.put.ensures
    ∙ put_twice c.args.at (c.args.at + 6) (head c.entry_words-first.result) (short_name_words name) c.args.value.now refl (let asked = c.requires in let long = c.put.array_long in omega arith)
    ∙ ap (λ n. put_at c.args.at (head n ++ short_name_words name) c.args.value.now) c.entry_words-first.ensures.words
