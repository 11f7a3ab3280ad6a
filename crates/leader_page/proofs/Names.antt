-- Names in words 6 to 25 of a leader page.
use Rattle.std.proofs.Common.{◌≡◌, ℕ, suc, ◌+◌, ◌-◌, ◌/◌, ◌<◌, ◌≤◌, Bool, true, List, [], ◌∷◌, ◌++◌, length, take, drop, replicate, refl, sym, ap, ◌∙◌, arith}
use Rattle.std.specs.Prelude.{◌==◌, ◌&&◌}
use Rattle.std.specs.List.{list_all}
use borrow.Rule.Slice.PartMut.{post_of}
use Rattle.std.proofs.lemmas.List.{length-append, length-replicate, drop-replicate, take_at}
use Rattle.std.proofs.lemmas.Bool.{eq-eqb}
use Rattle.std.proofs.lemmas.Bool.Decides.{nat_tests}
use Rattle.alto_words.specs.Names.{is_stored_name}
use Rattle.alto_words.proofs.Versions.{is_stored_character, is_stored_name-fits, is_stored_name-characters}
use Rattle.disk_records.specs.Words.{word}
use Rattle.pack_model.specs.reading.Bytes.{bytes_of, words_of}
use Rattle.pack_model.specs.reading.Leaders.{name_bytes, spelled_name, is_readable}
use Rattle.pack_model.specs.operations.PageWords.{filled, name_words}
use Rattle.disk_records.proofs.Bytes.{length-words_of}
use Rattle.leader_page.proofs.Bytes.{bytes_of-words_of, AreBytes, AreBytes-append, AreBytes-zeros}

-- ---- stored names
character-below : (c : ℕ) → is_stored_character c ≡ true → c < 256
character-below c h = grind (arith, nat_tests)

characters-are_bytes : (name : List ℕ) → list_all is_stored_character name ≡ true → AreBytes name
characters-are_bytes [] h = tt
characters-are_bytes (c ∷ name) h =
    let both : (is_stored_character c ≡ true) × (list_all is_stored_character name ≡ true) = grind (arith, nat_tests) in
    (character-below c both.0, characters-are_bytes name both.1)

-- ---- a name's words
-- its length, its characters, zeros
abbrev pub spelled_bytes : List ℕ → List ℕ
spelled_bytes name = length name ∷ (name ++ replicate (39 - length name) 0)

pub filled-name : (name : List ℕ) → filled 40 (length name ∷ name) ≡ spelled_bytes name
filled-name name =
    let zeros : 40 - suc (length name) ≡ 39 - length name = omega arith in
    ap (λ (n : ℕ). length name ∷ (name ++ replicate n 0)) zeros

-- a length, the characters copied after it, and the zeros that stood there
pub spelled_bytes-copied : (text copy name : List ℕ) → text ≡ name → copy ≡ text → length text ≤ 39 → length text ∷ (copy ++ post_of 1 (1 + length text - 1) (length text ∷ replicate 39 0)) ≡ filled 40 (length name ∷ name)
spelled_bytes-copied text copy name same copied fits =
    let from : 1 + length text - 1 ≡ length text = omega arith in
    let zeros : drop (1 + length text - 1) (replicate 39 0) ≡ replicate (39 - length text) 0 =
    ap (λ (n : ℕ). drop n (replicate 39 0)) from ∙ drop-replicate (length text) 39 0 in
    (λ i. length text ∷ (copied i ++ zeros i)) ∙ ap spelled_bytes same ∙ sym (filled-name name)

length-spelled_bytes : (name : List ℕ) → length name ≤ 39 → length (spelled_bytes name) ≡ 40
length-spelled_bytes name fits = let zeros : List ℕ = replicate (39 - length name) 0 in
    let all : length zeros ≡ 39 - length name = length-replicate {A = ℕ} (39 - length name) 0 in
    omega (arith, length-append name zeros)

pub length-name_words : (name : List ℕ) → length name ≤ 39 → length (name_words name) ≡ 20
length-name_words name fits =
    length-words_of (filled 40 (length name ∷ name))
    ∙ ap (λ (b : List ℕ). length b / 2) (filled-name name)
    ∙ ap (λ (n : ℕ). n / 2) (length-spelled_bytes name fits)

pub bytes_of-name_words : (name : List ℕ) → is_stored_name name ≡ true → bytes_of (name_words name) ≡ spelled_bytes name
bytes_of-name_words name stored =
    let fits = is_stored_name-fits name stored in
    let small : length name < 256 = omega (arith, fits) in
    ap (λ (b : List ℕ). bytes_of (words_of b)) (filled-name name)
    ∙ bytes_of-words_of 20 (spelled_bytes name) (length-spelled_bytes name fits)
    (small, AreBytes-append name (replicate (39 - length name) 0) (characters-are_bytes name (is_stored_name-characters name stored)) (AreBytes-zeros (39 - length name)))

-- ---- words that have a name's words in the place of the name
module _ (words name : List ℕ) (stored : is_stored_name name ≡ true) (named : take 20 (drop 6 words) ≡ name_words name) where
  bytes_named : name_bytes words ≡ spelled_bytes name
  bytes_named = ap bytes_of named ∙ bytes_of-name_words name stored

  pub spelled_name-named : spelled_name words ≡ name
  spelled_name-named =
      ap (λ (b : List ℕ). take (word b 0) (drop 1 b)) bytes_named
      ∙ take_at name (replicate (39 - length name) 0) (length name) refl

  pub is_readable-named : is_readable words ≡ true
  unfolding is_readable
  is_readable-named =
      ap (λ (s : List ℕ). length s == word (name_bytes words) 0 && is_stored_name s) spelled_name-named
      ∙ ap (λ (b : List ℕ). length name == word b 0 && is_stored_name name) bytes_named
      ∙ ap (λ (t : Bool). t && is_stored_name name) (eq-eqb (length name) (length name) refl)
      ∙ stored
