-- The words of a leader, and the leader of words.
use Rattle.std.proofs.Common.{◌≡◌, ℕ, ◌+◌, ◌*◌, ◌/◌, ◌%◌, Bool, true, cond, List, ◌∷◌, ◌++◌, length, take, drop, refl, ap, ◌∙◌, arith, append_assoc}
use Rattle.std.proofs.lemmas.List.{length-append, take_at, drop_at}
use Rattle.alto_words.specs.declared.fid.Fid.{Fid}
use Rattle.alto_words.specs.Names.{is_stored_name, lost}
use Rattle.alto_words.specs.Fid.{serial_of}
use Rattle.disk_records.specs.Words.{double}
use Rattle.pack_model.specs.reading.Leaders.{Leader, spelled_name, is_readable, leader_name, leader_words, leader_of}
use Rattle.pack_model.specs.operations.PageWords.{name_words, leader_value}
use Rattle.leader_page.specs.Pages.{Says}
use Rattle.alto_words.proofs.Versions.{is_stored_name-fits}
use Rattle.leader_page.proofs.Names.{length-name_words, spelled_name-named, is_readable-named}

-- the leader of the words that say something
abbrev pub in_words : Fid → List ℕ → Leader
in_words f words = record { created = double words 0; written = double words 2; read = double words 4; name = leader_name f words; rest = drop 26 words }

pub leader_of-in_words : (f : Fid) (value : List ℕ) → leader_of f value ≡ in_words f (leader_words value)
unfolding leader_of
leader_of-in_words f value = refl

-- the name of readable words
pub leader_name-readable : (f : Fid) (words : List ℕ) → is_readable words ≡ true → leader_name f words ≡ spelled_name words
unfolding leader_name
leader_name-readable f words readable = ap (λ (t : Bool). cond t (spelled_name words) (lost (serial_of f))) readable

pub leader_name-named : (f : Fid) (words name : List ℕ) → is_stored_name name ≡ true → take 20 (drop 6 words) ≡ name_words name → leader_name f words ≡ name
leader_name-named f words name stored named = leader_name-readable f words (is_readable-named words name stored named) ∙ spelled_name-named words name stored named

-- a number of its halves
pub of_halves : (n : ℕ) → n / 65536 * 65536 + n % 65536 ≡ n
of_halves n = omega arith

-- ---- what the words of a leader say
module _ (l : Leader) (hints : List ℕ) (stored : is_stored_name l.name ≡ true) (whole : length l.rest ≡ 220) where
  size : length (name_words l.name) ≡ 20
  size = length-name_words l.name (is_stored_name-fits l.name stored)

  both : length (name_words l.name ++ l.rest) ≡ 240
  both = length-append (name_words l.name) l.rest ∙ omega (arith, size, whole)

  -- the dates, and words after them
  abbrev dated : List ℕ → List ℕ
  dated words = l.created / 65536 ∷ l.created % 65536 ∷ l.written / 65536 ∷ l.written % 65536 ∷ l.read / 65536 ∷ l.read % 65536 ∷ words

  words_are : leader_words (leader_value l hints) ≡ dated (name_words l.name ++ l.rest)
  words_are = ap dated (take_at (name_words l.name ++ l.rest) hints 240 both)

  named : take 20 (drop 6 (dated (name_words l.name ++ l.rest))) ≡ name_words l.name
  named = take_at (name_words l.name) l.rest 20 size

  in_dated : (f : Fid) → in_words f (dated (name_words l.name ++ l.rest)) ≡ l
  in_dated f =
      let name = leader_name-named f (dated (name_words l.name ++ l.rest)) l.name stored named in
      let rest = drop_at (name_words l.name) l.rest 20 size in
      λ i. record { created = of_halves l.created i; written = of_halves l.written i; read = of_halves l.read i; name = name i; rest = rest i }

  pub value-says : Says (leader_value l hints) l hints
  value-says = record {
    readable = ap is_readable words_are ∙ is_readable-named (dated (name_words l.name ++ l.rest)) l.name stored named;
    leader_is = λ f. leader_of-in_words f (leader_value l hints) ∙ ap (in_words f) words_are ∙ in_dated f;
    hints_are = drop_at (name_words l.name ++ l.rest) hints 240 both;
  }

  pub value-name : take 20 (drop 6 (leader_value l hints)) ≡ name_words l.name
  value-name = ap (take 20) (append_assoc (name_words l.name) l.rest hints) ∙ take_at (name_words l.name) (l.rest ++ hints) 20 size

  pub length-value : length hints ≡ 10 → length (leader_value l hints) ≡ 256
  length-value ten = let all = length-append (name_words l.name ++ l.rest) hints in omega (arith, all, both, ten)
