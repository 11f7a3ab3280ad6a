use Rattle.std.proofs.Common.{◌≡◌, ◌+◌, ◌/◌, length, take, ap, ◌∙◌, arith}
use Rattle.std.proofs.lemmas.List.{length-take}
use Rattle.pack_model.specs.reading.Bytes.{put_at}
use Rattle.pack_model.specs.reading.SlotWords.{short_name_words}
use Rattle.alto_words.proofs.Versions.{is_stored_name-fits}
use Rattle.dir_slots.proofs.NameWords.{name_words-short}
use Rattle.disk_descriptor.proofs.root.put_name.Goals as goal

pub slice_bounds-words-end : goal.slice_bounds-words-end
slice_bounds-words-end c = let long = is_stored_name-fits _ c.as_bytes.ensures.stored in let same = ap length c.as_bytes.ensures.value in let fits = c.name_words-words.type_inv in omega (arith, long, same)

pub slice_bounds-put-end : goal.slice_bounds-put-end
slice_bounds-put-end c =
    let long = is_stored_name-fits _ c.as_bytes.ensures.stored in
    let same = ap length c.as_bytes.ensures.value in
    let fits = c.name_words-words.type_inv in
    let taken = length-take ((length c.as_bytes.result.now + 2) / 2) c.name_words-words.result in
    omega (arith, long, same)

pub put-requires : goal.put-requires
put-requires c =
    let same = ap length c.as_bytes.ensures.value in
    let taken = length-take ((length c.as_bytes.result.now + 2) / 2) c.name_words-words.result in
    let asked = c.requires in
    omega (arith, same, taken)

pub returns : goal.returns
returns c =
    let name = c.args.name.now in
    let most = is_stored_name-fits name c.as_bytes.ensures.stored in
    let taken : take ((length c.as_bytes.result.now + 2) / 2) c.name_words-words.result ≡ short_name_words name =
    (λ i. take ((length (c.as_bytes.ensures.value i) + 2) / 2) (c.name_words-words.ensures.words i)) ∙ name_words-short name most in
    c.put.ensures ∙ ap (λ words. put_at c.args.at words c.args.value.now) taken
