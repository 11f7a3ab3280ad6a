-- Values with another name, and with another written date.
use Rattle.std.proofs.Common.{◌≡◌, ℕ, ◌+◌, ◌*◌, ◌/◌, ◌%◌, true, List, [], ◌∷◌, ◌++◌, length, take, drop, refl, sym, ap, ◌∙◌, arith, append_assoc}
use Rattle.std.proofs.lemmas.List.{length-take-le, take_at, drop_at, drop-take, drop-drop, take-take, take-append-le, drop-append-le, drop_all}
use Rattle.std.proofs.Math.Seq.{take-add}
use Rattle.alto_words.specs.declared.fid.Fid.{Fid}
use Rattle.alto_words.specs.Names.{is_stored_name}
use Rattle.pack_model.specs.reading.Leaders.{Leader, is_readable, leader_name, leader_words}
use Rattle.pack_model.specs.operations.PageWords.{name_words, titled_value, stamped_value}
use Rattle.leader_page.specs.Laws.{SaysTitled, SaysStamped}
use Rattle.alto_words.proofs.Versions.{is_stored_name-fits}
use Rattle.leader_page.proofs.Names.{length-name_words, is_readable-named}
use Rattle.leader_page.proofs.Values.{in_words, leader_of-in_words, leader_name-named, of_halves}

-- ---- another name, in a value by its first six words and the others
module _ (a b c d e g : ℕ) (t name : List ℕ) (stored : is_stored_name name ≡ true) where
  abbrev first : List ℕ → List ℕ
  first words = a ∷ b ∷ c ∷ d ∷ e ∷ g ∷ words

  size : length (name_words name) ≡ 20
  size = length-name_words name (is_stored_name-fits name stored)

  value_is : titled_value name (first t) ≡ first (name_words name ++ drop 20 t)
  value_is = ap (λ (n : ℕ). first (name_words name) ++ drop (6 + n) (first t)) size

  words_are : leader_words (titled_value name (first t)) ≡ first (name_words name ++ take 220 (drop 20 t))
  words_are =
      ap leader_words value_is
      ∙ ap first (take-add 20 220 (name_words name ++ drop 20 t))
      ∙ (λ i. first (take_at (name_words name) (drop 20 t) 20 size i ++ take 220 (drop_at (name_words name) (drop 20 t) 20 size i)))

  spells : take 20 (drop 6 (first (name_words name ++ take 220 (drop 20 t)))) ≡ name_words name
  spells = take_at (name_words name) (take 220 (drop 20 t)) 20 size

  titled_words : (f : Fid) → in_words f (first (name_words name ++ take 220 (drop 20 t))) ≡ record (in_words f (first (take 240 t))) { name = name }
  titled_words f =
      let new_name = leader_name-named f (first (name_words name ++ take 220 (drop 20 t))) name stored spells in
      let rest = drop_at (name_words name) (take 220 (drop 20 t)) 20 size ∙ sym (drop-take 20 220 t) in
      λ i. record { created = a * 65536 + b; written = c * 65536 + d; read = e * 65536 + g; name = new_name i; rest = rest i }

  says_titled : SaysTitled (first t) name
  says_titled = record {
    readable = ap is_readable words_are ∙ is_readable-named (first (name_words name ++ take 220 (drop 20 t))) name stored spells;
    leader_is = λ f.
        leader_of-in_words f (titled_value name (first t)) ∙ ap (in_words f) words_are ∙ titled_words f
        ∙ ap (λ (l : Leader). record l { name = name }) (sym (leader_of-in_words f (first t)));
    hints_are =
        ap (drop 246) value_is ∙ sym (drop-drop 220 20 (name_words name ++ drop 20 t))
        ∙ ap (drop 220) (drop_at (name_words name) (drop 20 t) 20 size) ∙ drop-drop 220 20 t;
  }

pub title : (value name : List ℕ) → length value ≡ 256 → is_stored_name name ≡ true → SaysTitled value name
title [] name long stored = absurd (omega (arith, long))
title (a ∷ []) name long stored = absurd (omega (arith, long))
title (a ∷ b ∷ []) name long stored = absurd (omega (arith, long))
title (a ∷ b ∷ c ∷ []) name long stored = absurd (omega (arith, long))
title (a ∷ b ∷ c ∷ d ∷ []) name long stored = absurd (omega (arith, long))
title (a ∷ b ∷ c ∷ d ∷ e ∷ []) name long stored = absurd (omega (arith, long))
title (a ∷ b ∷ c ∷ d ∷ e ∷ g ∷ t) name long stored = says_titled a b c d e g t name stored

-- ---- another written date
-- only the words from 6 on spell the name
same_readable : (a b c d e g : ℕ) (t : List ℕ) (m n : ℕ) → is_readable (a ∷ b ∷ m ∷ n ∷ e ∷ g ∷ t) ≡ is_readable (a ∷ b ∷ c ∷ d ∷ e ∷ g ∷ t)
unfolding is_readable
same_readable a b c d e g t m n = refl

same_name : (f : Fid) (a b c d e g : ℕ) (t : List ℕ) (m n : ℕ) → leader_name f (a ∷ b ∷ m ∷ n ∷ e ∷ g ∷ t) ≡ leader_name f (a ∷ b ∷ c ∷ d ∷ e ∷ g ∷ t)
unfolding leader_name is_readable
same_name f a b c d e g t m n = refl

module _ (a b c d e g : ℕ) (t : List ℕ) (moment at number bytes : ℕ) (long : length (a ∷ b ∷ c ∷ d ∷ e ∷ g ∷ t) ≡ 256) where
  abbrev dated : List ℕ
  dated = a ∷ b ∷ moment / 65536 ∷ moment % 65536 ∷ e ∷ g ∷ t

  abbrev last_page : List ℕ
  last_page = at ∷ number ∷ bytes ∷ []

  front : length (take 253 dated) ≡ 253
  front = length-take-le 253 dated (omega (arith, long))

  parts : stamped_value moment at number bytes (a ∷ b ∷ c ∷ d ∷ e ∷ g ∷ t) ≡ take 253 dated ++ (last_page ++ drop 256 dated)
  parts = append_assoc (take 253 dated) last_page (drop 256 dated)

  stamped_words : leader_words (stamped_value moment at number bytes (a ∷ b ∷ c ∷ d ∷ e ∷ g ∷ t)) ≡ take 246 dated
  stamped_words =
      ap (take 246) parts ∙ take-append-le 246 (take 253 dated) (last_page ++ drop 256 dated) (omega (arith, front)) ∙ take-take 246 253 dated (omega arith)

  stamped_hints : drop 246 (stamped_value moment at number bytes (a ∷ b ∷ c ∷ d ∷ e ∷ g ∷ t)) ≡ take 7 (drop 246 dated) ++ last_page
  stamped_hints =
      ap (drop 246) parts ∙ drop-append-le 246 (take 253 dated) (last_page ++ drop 256 dated) (omega (arith, front))
      ∙ (λ i. drop-take 246 7 dated i ++ (last_page ++ drop_all 256 dated (omega (arith, long)) i))

  says_stamped : SaysStamped (a ∷ b ∷ c ∷ d ∷ e ∷ g ∷ t) moment at number bytes
  says_stamped = record {
    readable = ap is_readable stamped_words ∙ same_readable a b c d e g (take 240 t) (moment / 65536) (moment % 65536);
    leader_is = λ f.
        let name = same_name f a b c d e g (take 240 t) (moment / 65536) (moment % 65536) in
        let words : in_words f (take 246 dated) ≡ record (in_words f (a ∷ b ∷ c ∷ d ∷ e ∷ g ∷ take 240 t)) { written = moment } =
        λ i. record { created = a * 65536 + b; written = of_halves moment i; read = e * 65536 + g; name = name i; rest = drop 20 (take 240 t) } in
        leader_of-in_words f (stamped_value moment at number bytes (a ∷ b ∷ c ∷ d ∷ e ∷ g ∷ t)) ∙ ap (in_words f) stamped_words ∙ words
        ∙ ap (λ (l : Leader). record l { written = moment }) (sym (leader_of-in_words f (a ∷ b ∷ c ∷ d ∷ e ∷ g ∷ t)));
    hints_are = stamped_hints;
  }

pub stamp : (value : List ℕ) (moment at number bytes : ℕ) → length value ≡ 256 → SaysStamped value moment at number bytes
stamp [] moment at number bytes long = absurd (omega (arith, long))
stamp (a ∷ []) moment at number bytes long = absurd (omega (arith, long))
stamp (a ∷ b ∷ []) moment at number bytes long = absurd (omega (arith, long))
stamp (a ∷ b ∷ c ∷ []) moment at number bytes long = absurd (omega (arith, long))
stamp (a ∷ b ∷ c ∷ d ∷ []) moment at number bytes long = absurd (omega (arith, long))
stamp (a ∷ b ∷ c ∷ d ∷ e ∷ []) moment at number bytes long = absurd (omega (arith, long))
stamp (a ∷ b ∷ c ∷ d ∷ e ∷ g ∷ t) moment at number bytes long = says_stamped a b c d e g t moment at number bytes long
