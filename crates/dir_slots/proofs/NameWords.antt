-- A name as the words that stand in an entry.
use Rattle.std.proofs.Common.{◌≡◌, ℕ, zero, suc, ◌+◌, ◌-◌, ◌*◌, ◌/◌, ◌%◌, ◌<◌, ◌≤◌, true, List, [], ◌∷◌, ◌++◌, length, take, replicate, Some, None, refl, sym, ap, ◌∙◌, arith, inl, inr}
use Rattle.std.specs.Prelude.{◌==◌}
use Rattle.std.specs.List.{list_all, IsSplitAt}
use Rattle.std.proofs.lemmas.Bool.{cond-true, and_parts, cases_lt}
use Rattle.std.proofs.lemmas.Bool.Decides.{nat_tests}
use Rattle.std.proofs.lemmas.List.{append_assoc, append-nil, length-append, length_push, take_all, take_at, drop_at, take-append-le}
use Rattle.alto_words.specs.Names.{is_stored_name}
use Rattle.alto_words.proofs.Versions.{is_stored_character, is_stored_name-fits, is_stored_name-characters}
use Rattle.pack_model.specs.reading.Bytes.{bytes_of, words_of}
use Rattle.pack_model.specs.operations.PageWords.{name_words}
use Rattle.pack_model.specs.reading.SlotWords.{short_name_words}
use Rattle.dir_slots.specs.Inside.{name_of}
use Rattle.dir_slots.proofs.Names.{name_of-parts}

-- ---- bytes in words
-- numbers that are bytes
abbrev pub AreBytes : List ℕ → Type 0
AreBytes [] = Unit {0}
AreBytes (b ∷ bytes) = (b < 256) × AreBytes bytes

character_below : (c : ℕ) → is_stored_character c ≡ true → c < 256
character_below c h = grind (arith, nat_tests)

characters_below : (name rest : List ℕ) → list_all is_stored_character name ≡ true → AreBytes rest → AreBytes (name ++ rest)
characters_below [] rest h bytes = bytes
characters_below (c ∷ name) rest h bytes = let parts = and_parts (is_stored_character c) (list_all is_stored_character name) h in (character_below c parts.0, characters_below name rest parts.1 bytes)

-- bytes survive as words, except a last odd one
bytes_of-pairs : (bytes : List ℕ) → AreBytes bytes → bytes_of (words_of bytes) ≡ take (2 * (length bytes / 2)) bytes
bytes_of-pairs [] h = refl
bytes_of-pairs (a ∷ []) h = refl
bytes_of-pairs (a ∷ b ∷ bytes) h =
    let low = h.1.0 in
    let high : (a * 256 + b) / 256 ≡ a = omega arith in
    let rest : (a * 256 + b) % 256 ≡ b = omega arith in
    let n : 2 * (suc (suc (length bytes)) / 2) ≡ suc (suc (2 * (length bytes / 2))) = omega arith in
    (λ i. high i ∷ rest i ∷ bytes_of-pairs bytes h.1.1 i) ∙ ap (λ m. take m (a ∷ b ∷ bytes)) (sym n)

length-words_of : (bytes : List ℕ) → length (words_of bytes) ≡ length bytes / 2
length-words_of [] = refl
length-words_of (a ∷ []) = refl
length-words_of (a ∷ b ∷ bytes) = let e = length-words_of bytes in omega arith

-- ---- a name
-- the bytes of a name with its length, and a 0 after it
abbrev pub short_bytes : List ℕ → List ℕ
short_bytes name = length name ∷ (name ++ 0 ∷ [])

pub length-short_name : (name : List ℕ) → length (short_name_words name) ≡ (length name + 2) / 2
length-short_name name =
    let e = length-words_of (short_bytes name) in
    let f = length_push name 0 in
    omega arith

-- those in whole words are the name and what follows it, which is 0
record Spelled (name : List ℕ) : Type 0 where
  pad : List ℕ
  blank : list_all (λ b. b == 0) pad ≡ true
  whole : take (2 * (length (short_bytes name) / 2)) (short_bytes name) ≡ length name ∷ (name ++ pad)

spelled : (name : List ℕ) → Spelled name
spelled name =
    let long = length_push name 0 in
    elim (cases_lt (length name % 2) 1) [
      | inl even ↦ record {
        pad = 0 ∷ [];
        blank = refl;
        whole = take_all (2 * (length (short_bytes name) / 2)) (short_bytes name) (omega arith);
      }
      | inr odd ↦ record {
        pad = [];
        blank = refl;
        whole =
            let n : 2 * (length (short_bytes name) / 2) ≡ suc (length name) = omega arith in
            ap (λ m. take m (short_bytes name)) n ∙ ap (λ l. length name ∷ l) (take_at name (0 ∷ []) (length name) refl ∙ sym (append-nil name));
      }
    ]

pub after_name : (name pad : List ℕ) → IsSplitAt (name ++ pad) (length name) name pad
after_name name pad =
    let long = length-append name pad in
    (omega arith, sym (take_at name pad (length name) refl), sym (drop_at name pad (length name) refl), refl, omega arith)

-- the words of a stored name are read as that name
pub name_of-written : (name : List ℕ) → is_stored_name name ≡ true → name_of (bytes_of (short_name_words name)) ≡ Some name
name_of-written name stored =
    let s = spelled name in
    let bytes : AreBytes (short_bytes name) = (let most = is_stored_name-fits name stored in omega arith, characters_below name (0 ∷ []) (is_stored_name-characters name stored) (omega arith, tt)) in
    name_of-parts (bytes_of (short_name_words name)) (name ++ s.pad) name s.pad (length name) (bytes_of-pairs (short_bytes name) bytes ∙ s.whole) (after_name name s.pad)
    ∙ cond-true _ _ None s.blank ∙ cond-true _ (Some name) None stored

-- ---- the words of a name
take-words_of : (k : ℕ) (bytes : List ℕ) → take k (words_of bytes) ≡ words_of (take (2 * k) bytes)
take-words_of zero bytes = refl
take-words_of (suc k) [] = let n : 2 * suc k ≡ suc (suc (2 * k)) = omega arith in ap (λ m. words_of (take m [])) (sym n)
take-words_of (suc k) (a ∷ []) = let n : 2 * suc k ≡ suc (suc (2 * k)) = omega arith in ap (λ m. words_of (take m (a ∷ []))) (sym n)
take-words_of (suc k) (a ∷ b ∷ bytes) =
    let n : 2 * suc k ≡ suc (suc (2 * k)) = omega arith in
    ap (λ l. (a * 256 + b) ∷ l) (take-words_of k bytes) ∙ ap (λ m. words_of (take m (a ∷ b ∷ bytes))) (sym n)

-- a zero after the name, and more zeros
one_zero : (name : List ℕ) (m k : ℕ) → 1 ≤ m → k ≤ suc (suc (length name)) → take k (length name ∷ (name ++ replicate m 0)) ≡ take k (short_bytes name)
one_zero name zero k some within = absurd (omega arith)
one_zero name (suc m) k some within =
    let long = length_push name 0 in
    ap (λ l. take k (length name ∷ l)) (sym (append_assoc name (0 ∷ []) (replicate m 0)))
    ∙ take-append-le k (short_bytes name) (replicate m 0) (omega arith)

-- the first words of a name with its length and zeros are the name's words
name_words-written : (name : List ℕ) (m : ℕ) → length name + m ≡ 39 → take ((length name + 2) / 2) (words_of (length name ∷ (name ++ replicate m 0))) ≡ short_name_words name
name_words-written name m whole =
    let n : ℕ = length name in
    let k : ℕ = (n + 2) / 2 in
    let long = length_push name 0 in
    take-words_of k (n ∷ (name ++ replicate m 0))
    ∙ ap words_of (same_bytes name m whole)
    ∙ sym (take-words_of k (short_bytes name)) ∙ take_all k (short_name_words name) (let e = length-short_name name in omega arith)
  where
    same_bytes : (name : List ℕ) (m : ℕ) → length name + m ≡ 39 → take (2 * ((length name + 2) / 2)) (length name ∷ (name ++ replicate m 0)) ≡ take (2 * ((length name + 2) / 2)) (short_bytes name)
    same_bytes name m whole = elim (cases_lt (length name % 2) 1) [
      | inl even ↦ one_zero name m (2 * ((length name + 2) / 2)) (omega arith) (omega arith)
      | inr odd ↦
          let n : 2 * ((length name + 2) / 2) ≡ suc (length name) = omega arith in
          ap (λ j. take j (length name ∷ (name ++ replicate m 0))) n
          ∙ ap (λ l. length name ∷ l) (take_at name (replicate m 0) (length name) refl ∙ sym (take_at name (0 ∷ []) (length name) refl))
          ∙ ap (λ j. take j (short_bytes name)) (sym n)
    ]

pub name_words-short : (name : List ℕ) → length name ≤ 39 → take ((length name + 2) / 2) (name_words name) ≡ short_name_words name
name_words-short name short =
    let zeros : 40 - suc (length name) ≡ 39 - length name = omega arith in
    ap (λ m. take ((length name + 2) / 2) (words_of (length name ∷ (name ++ replicate m 0)))) zeros
    ∙ name_words-written name (39 - length name) (omega arith)
