use Rattle.std.proofs.Common.{◌≡◌, ◌+◌, ◌/◌, ◌++◌, length, take, ap, ◌∙◌, arith}
use Rattle.std.proofs.lemmas.List.{length-take}
use Rattle.pack_model.specs.reading.SlotWords.{short_name_words}
use Rattle.alto_words.proofs.Versions.{is_stored_name-fits}
use Rattle.dir_slots.proofs.NameWords.{name_words-short}
use Rattle.dir_slots.proofs.write.push_name.Goals as goal

pub slice_bounds-filled-end : goal.slice_bounds-filled-end
slice_bounds-filled-end c = let long = is_stored_name-fits _ c.as_bytes.ensures.stored in let same = ap length c.as_bytes.ensures.value in let fits = c.name_words-filled.type_inv in omega (arith, long, same)

pub slice_bounds-extend_from_slice-end : goal.slice_bounds-extend_from_slice-end
slice_bounds-extend_from_slice-end c =
    let long = is_stored_name-fits _ c.as_bytes.ensures.stored in
    let same = ap length c.as_bytes.ensures.value in
    let fits = c.name_words-filled.type_inv in
    let taken = length-take ((length c.as_bytes.result.now + 2) / 2) c.name_words-filled.result in
    omega (arith, long, same)

pub returns-clause-words : goal.returns-clause-words
returns-clause-words c =
    let name = c.args.name.now in
    let most = is_stored_name-fits name c.as_bytes.ensures.stored in
    let taken : take ((length c.as_bytes.result.now + 2) / 2) c.name_words-filled.result ≡ short_name_words name =
    (λ i. take ((length (c.as_bytes.ensures.value i) + 2) / 2) (c.name_words-filled.ensures.words i)) ∙ name_words-short name most in
    c.in_ok-extend_from_slice.ensures.items ∙ ap (λ l. c.args.words.now.items ++ l) taken
