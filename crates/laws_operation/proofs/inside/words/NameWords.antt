-- Names in words 6 to 25 of a leader page.
use Rattle.std.proofs.Common.{List, [], ap, arith, cond, drop, eq-eqb, length, refl, take, true, ℕ, ◌&&◌, ◌-◌, ◌/◌, ◌<◌, ◌==◌, ◌∙◌, ◌∷◌, ◌≡◌, ◌≤◌}
use Rattle.std.proofs.lemmas.Bool.{eq-eqb}
use Rattle.std.proofs.lemmas.Bool.Decides.{nat_tests}
use Rattle.std.proofs.lemmas.List.{take_at}
use Rattle.std.proofs.lemmas.List.Elements.{All-cons, All-nil}
use Rattle.std.specs.List.{list_all}
use Rattle.std.specs.Prelude.{All, replicate}
use Rattle.laws_contents.specs.alto_words.specs.Fid.{serial_of}
use Rattle.laws_contents.specs.alto_words.proofs.Versions.{is_stored_character, is_stored_name-fits, is_stored_name-characters}
use Rattle.laws_contents.specs.alto_words.specs.Names.{is_stored_name, lost}
use Rattle.laws_contents.specs.alto_words.specs.declared.fid.Fid.{Fid}
use Rattle.laws_contents.specs.disk_records.specs.Words.{word}
use Rattle.laws_contents.specs.pack_model.specs.reading.Bytes.{bytes_of, words_of}
use Rattle.laws_contents.specs.pack_model.specs.reading.Leaders.{is_readable, leader_name, name_bytes, spelled_name}
use Rattle.laws_contents.specs.pack_model.specs.operations.PageWords.{filled, name_words}
use Rattle.laws_contents.specs.pack_laws.proofs.Bytes.{length-words_of}
use Rattle.laws_operation.proofs.inside.words.Filled.{filled_back, length-filled}

-- ---- stored names
pub stored_short : (name : List ℕ) → is_stored_name name ≡ true → length name ≤ 39
stored_short = is_stored_name-fits

character_below : (c : ℕ) → is_stored_character c ≡ true → c < 256
character_below c h = grind (arith, nat_tests)

characters_below : (name : List ℕ) → list_all is_stored_character name ≡ true → All (λ b. b < 256) name
characters_below [] h = All-nil (λ b. b < 256)
characters_below (c ∷ name) h =
    let both : (is_stored_character c ≡ true) × (list_all is_stored_character name ≡ true) = grind (arith, nat_tests) in
    All-cons (λ b. b < 256) c name (character_below c both.0) (characters_below name both.1)

-- a stored name has bytes
pub stored_below : (name : List ℕ) → is_stored_name name ≡ true → All (λ b. b < 256) name
stored_below name stored = characters_below name (is_stored_name-characters name stored)

-- and with its length before it
pub spelled_below : (name : List ℕ) → is_stored_name name ≡ true → All (λ b. b < 256) (length name ∷ name)
spelled_below name stored = let short = stored_short name stored in All-cons (λ b. b < 256) (length name) name (omega arith) (stored_below name stored)

-- ---- its words
pub length-name_words : (name : List ℕ) → is_stored_name name ≡ true → length (name_words name) ≡ 20
length-name_words name stored =
    let short = stored_short name stored in
    let all : length (filled 40 (length name ∷ name)) ≡ 40 = length-filled 40 (length name ∷ name) (omega arith) in
    let half : length (words_of (filled 40 (length name ∷ name))) ≡ length (filled 40 (length name ∷ name)) / 2 = length-words_of (filled 40 (length name ∷ name)) in
    omega arith

-- words with those of a name in the place of the name
module _ (words name : List ℕ) (stored : is_stored_name name ≡ true) (named : take 20 (drop 6 words) ≡ name_words name) where
  bytes_are : name_bytes words ≡ filled 40 (length name ∷ name)
  bytes_are = let short = stored_short name stored in ap bytes_of named ∙ filled_back 20 (length name ∷ name) (omega arith) (spelled_below name stored)

  -- spell it
  spelled_is : spelled_name words ≡ name
  spelled_is = ap (λ b. take (word b 0) (drop 1 b)) bytes_are ∙ take_at name (replicate (40 - length (length name ∷ name)) 0) (length name) refl

  -- so it can be read
  pub readable_named : is_readable words ≡ true
  unfolding is_readable
  readable_named =
      ap (λ s. length s == word (name_bytes words) 0 && is_stored_name s) spelled_is
      ∙ ap (λ b. length name == word b 0 && is_stored_name name) bytes_are
      ∙ ap (λ t. t && is_stored_name name) (eq-eqb (length name) (length name) refl)
      ∙ stored

  -- and is the one that is read
  pub name_named : (f : Fid) → leader_name f words ≡ name
  unfolding leader_name
  name_named f = ap (λ t. cond t (spelled_name words) (lost (serial_of f))) readable_named ∙ spelled_is
