-- The words of an entry, put one part after another.
use Rattle.std.proofs.Common.{◌≡◌, ℕ, ◌+◌, ◌-◌, ◌/◌, ◌<◌, ◌≤◌, true, List, [], ◌∷◌, ◌++◌, length, take, drop, refl, sym, ◌∙◌, ap, arith}
use Rattle.std.specs.Prelude.{◌==◌, cond}
use Rattle.std.proofs.lemmas.Bool.{cond-false, ne_eqb}
use Rattle.std.proofs.lemmas.List.{append-nil, length-append, length-take, take-append-le, take_all}
use Rattle.alto_words.proofs.Versions.{is_stored_name-fits}
use Rattle.alto_words.specs.Names.{is_stored_name}
use Rattle.alto_words.specs.declared.fid.Fid.{Fid}
use Rattle.dir_slots.proofs.NameWords.{name_words-short}
use Rattle.pack_model.specs.operations.PageWords.{entered_words, name_words}
use Rattle.pack_model.specs.reading.Bytes.{put_at}
use Rattle.pack_model.specs.reading.SlotWords.{entry_words, short_name_words}
use Rattle.pack_model.specs.reading.Slots.{entry_length}

-- what was put first, and next, stands first
front : (a b : List ℕ) (n : ℕ) → length a ≡ n → take n (a ++ b) ≡ a
front a b n size = take-append-le n a b (omega (arith, size)) ∙ take_all n a (omega (arith, size))

built : (head tail w : List ℕ) (n : ℕ) → length head ≡ 6 → length head + length tail ≡ n → take n (put_at 6 tail (put_at 0 head w)) ≡ head ++ tail
built head tail w n size all =
    let first : take 6 (put_at 0 head w) ≡ head = front head (drop (0 + length head) w) 6 size in
    let sum = length-append head tail in
    ap (λ l. take n ((l ++ tail) ++ drop (6 + length tail) (put_at 0 head w))) first
    ∙ front (head ++ tail) (drop (6 + length tail) (put_at 0 head w)) n (omega (arith, sum, all))

-- ---- an entry
abbrev pub entry_head : Fid → ℕ → ℕ → List ℕ
entry_head f address count = (1024 + count) ∷ f.high ∷ f.low ∷ f.version ∷ 0 ∷ address ∷ []

module _ (f : Fid) (address : ℕ) (name : List ℕ) (count : ℕ) (filled w : List ℕ) (many : count ≡ entry_length (length name)) (is : filled ≡ name_words name) (stored : is_stored_name name ≡ true) (sized : length filled ≡ 20) where
  abbrev put_both : List ℕ
  put_both = put_at 6 (take (count - 6) filled) (put_at 0 (entry_head f address count) w)

  short : take (count - 6) filled ≡ short_name_words name
  short =
      let size : count - 6 ≡ (length name + 2) / 2 = omega (arith, many) in
      ap (λ n. take n filled) size ∙ ap (take ((length name + 2) / 2)) is ∙ name_words-short name (is_stored_name-fits name stored)

  both_are : take count put_both ≡ entry_words f address name
  both_are =
      let taken = length-take (count - 6) filled in
      let fits = is_stored_name-fits name stored in
      built (entry_head f address count) (take (count - 6) filled) w count refl (omega (arith, taken, sized, fits, many))
      ∙ ap (λ l. entry_head f address count ++ l) short ∙ ap (λ n. entry_head f address n ++ short_name_words name) many

  pub words_done : (left : ℕ) → left ≡ 0 → take count put_both ≡ entered_words f address name left
  words_done left none = both_are ∙ sym (append-nil (entry_words f address name)) ∙ ap (λ n. entry_words f address name ++ cond (n == 0) [] (n ∷ [])) (sym none)

  pub words_left : (left : ℕ) → 0 < left → count + 1 ≤ length put_both → take (count + 1) (put_at count (left ∷ []) put_both) ≡ entered_words f address name left
  words_left left some fits =
      let taken = length-take count put_both in
      let push : length (take count put_both ++ left ∷ []) ≡ length (take count put_both) + 1 = length-append (take count put_both) (left ∷ []) in
      front (take count put_both ++ left ∷ []) (drop (count + 1) put_both) (count + 1) (omega (arith, taken, push, fits))
      ∙ ap (λ l. l ++ left ∷ []) both_are
      ∙ ap (λ l. entry_words f address name ++ l) (sym (cond-false (left == 0) [] (left ∷ []) (ne_eqb left 0 (omega (arith, some)))))
