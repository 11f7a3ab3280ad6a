-- What was encoded is decoded as it was, and the other way round.
use Rattle.std.proofs.Common.{◌≡◌, ℕ, ◌+◌, ◌-◌, ◌*◌, ◌/◌, ◌%◌, ◌<◌, true, List, [], ◌∷◌, ◌++◌, length, take, drop, replicate, Option, Some, None, refl, sym, ap, ◌∙◌, arith}
use Rattle.std.specs.Prelude.{All}
use Rattle.std.proofs.lemmas.List.{length-take-le, take-append-drop, drop-take, take-take}
use Rattle.std.proofs.lemmas.Bool.Decides.{nat_tests}
use Rattle.std.proofs.Math.Seq.{take-add}
use Rattle.alto_words.specs.Fid.{sys_dir}
use Rattle.disk_records.specs.Words.{word}
use Rattle.pack_model.specs.reading.Bytes.{bytes_of, words_of}
use Rattle.pack_model.specs.reading.Leaders as model
use Rattle.pack_model.specs.reading.Leaders.{name_bytes, spelled_name, is_readable, leader_words, leader_of}
use Rattle.pack_model.specs.operations.PageWords.{name_words, leader_value}
use Rattle.leader_page.specs.declared.leader.Leader.{Leader}
use Rattle.leader_page.specs.Pages.{said, Says, IsDecoded, IsPadded}
use Rattle.disk_records.proofs.Bytes.{length-bytes_of, words_of-bytes_of}
use Rattle.leader_page.proofs.Names.{filled-name}
use Rattle.leader_page.proofs.Values.{in_words, leader_of-in_words, leader_name-readable}

-- ---- a value is that of one leader alone
same_leader : (l other : Leader) → said other ≡ said l → other.hints ≡ l.hints → other ≡ l
same_leader l other e h = λ i. record { created = (e i).created; written = (e i).written; read = (e i).read; name = (e i).name; rest = (e i).rest; hints = h i }

pub reads_back : (value : List ℕ) (l : Leader) (answer : Option Leader) → Says value (said l) l.hints → IsDecoded value answer → answer ≡ Some l
reads_back value l None says none = absurd (let readable = says.readable in cc)
reads_back value l (Some other) says some = ap Some (same_leader l other (sym (some.leader_is sys_dir) ∙ says.leader_is sys_dir) (sym some.hints_are ∙ says.hints_are))

-- ---- a value that is written back
first_and_rest : (l : List ℕ) → 0 < length l → word l 0 ∷ drop 1 l ≡ l
first_and_rest [] h = absurd (omega arith)
first_and_rest (x ∷ l) h = refl

spelled_length : (words : List ℕ) → is_readable words ≡ true → length (spelled_name words) ≡ word (name_bytes words) 0
unfolding is_readable
spelled_length words readable = grind (arith, nat_tests)

-- the words of a name, where zeros are after it
name_words-back : (words : List ℕ) → 0 < length (name_bytes words) → is_readable words ≡ true → IsPadded words → name_words (spelled_name words) ≡ take 20 (drop 6 words)
name_words-back words some readable padded =
    let n = spelled_length words readable in
    ap words_of (filled-name (spelled_name words))
    ∙ ap (λ (k : ℕ). words_of (k ∷ (spelled_name words ++ replicate (39 - k) 0))) n
    ∙ ap (λ (zeros : List ℕ). words_of (word (name_bytes words) 0 ∷ (spelled_name words ++ zeros))) (sym padded)
    ∙ ap (λ (l : List ℕ). words_of (word (name_bytes words) 0 ∷ l)) (take-append-drop (word (name_bytes words) 0) (drop 1 (name_bytes words)))
    ∙ ap words_of (first_and_rest (name_bytes words) some)
    ∙ words_of-bytes_of (take 20 (drop 6 words))

high_half : (n h l : ℕ) → n ≡ h * 65536 + l → l < 65536 → n / 65536 ≡ h
high_half n h l e below = omega arith

low_half : (n h l : ℕ) → n ≡ h * 65536 + l → l < 65536 → n % 65536 ≡ l
low_half n h l e below = omega arith

module _ (a b c d e g : ℕ) (t : List ℕ) (leader : model.Leader) (hints : List ℕ) (long : length (a ∷ b ∷ c ∷ d ∷ e ∷ g ∷ t) ≡ 256) (below_b : b < 65536) (below_d : d < 65536) (below_g : g < 65536) (padded : IsPadded (a ∷ b ∷ c ∷ d ∷ e ∷ g ∷ t)) (says : Says (a ∷ b ∷ c ∷ d ∷ e ∷ g ∷ t) leader hints) where
  abbrev words : List ℕ
  words = a ∷ b ∷ c ∷ d ∷ e ∷ g ∷ take 240 t

  leader_is : in_words sys_dir words ≡ leader
  leader_is = sym (leader_of-in_words sys_dir (a ∷ b ∷ c ∷ d ∷ e ∷ g ∷ t)) ∙ says.leader_is sys_dir

  same_bytes : name_bytes words ≡ name_bytes (a ∷ b ∷ c ∷ d ∷ e ∷ g ∷ t)
  same_bytes = ap bytes_of (take-take 20 240 t (omega arith))

  padded_words : IsPadded words
  padded_words =
      ap (λ (l : List ℕ). drop (word l 0) (drop 1 l)) same_bytes ∙ padded ∙ ap (λ (l : List ℕ). replicate (39 - word l 0) 0) (sym same_bytes)

  some : 0 < length (name_bytes words)
  some = omega (arith, ap length same_bytes, length-bytes_of (take 20 t), length-take-le 20 t (omega (arith, long)))

  name_back : name_words leader.name ≡ take 20 t
  name_back =
      ap (λ (l : model.Leader). name_words l.name) (sym leader_is) ∙ ap name_words (leader_name-readable sys_dir words says.readable)
      ∙ name_words-back words some says.readable padded_words ∙ take-take 20 240 t (omega arith)

  rest_back : leader.rest ≡ take 220 (drop 20 t)
  rest_back = ap (λ (l : model.Leader). l.rest) (sym leader_is) ∙ drop-take 20 220 t

  created : leader.created ≡ a * 65536 + b
  created = ap (λ (l : model.Leader). l.created) (sym leader_is)

  written : leader.written ≡ c * 65536 + d
  written = ap (λ (l : model.Leader). l.written) (sym leader_is)

  read : leader.read ≡ e * 65536 + g
  read = ap (λ (l : model.Leader). l.read) (sym leader_is)

  behind : (name_words leader.name ++ leader.rest) ++ hints ≡ t
  behind =
      (λ i. (name_back i ++ rest_back i) ++ sym says.hints_are i)
      ∙ ap (λ (l : List ℕ). l ++ drop 240 t) (sym (take-add 20 220 t)) ∙ take-append-drop 240 t

  value_back : leader_value leader hints ≡ a ∷ b ∷ c ∷ d ∷ e ∷ g ∷ t
  value_back = λ i.
      high_half leader.created a b created below_b i ∷ low_half leader.created a b created below_b i ∷ high_half leader.written c d written below_d i
      ∷ low_half leader.written c d written below_d i ∷ high_half leader.read e g read below_g i ∷ low_half leader.read e g read below_g i ∷ behind i

pub writes_back : (value : List ℕ) (leader : model.Leader) (hints : List ℕ) → length value ≡ 256 → All (λ w. w < 65536) value → IsPadded value → Says value leader hints → leader_value leader hints ≡ value
writes_back [] leader hints long fit padded says = absurd (omega (arith, long))
writes_back (a ∷ []) leader hints long fit padded says = absurd (omega (arith, long))
writes_back (a ∷ b ∷ []) leader hints long fit padded says = absurd (omega (arith, long))
writes_back (a ∷ b ∷ c ∷ []) leader hints long fit padded says = absurd (omega (arith, long))
writes_back (a ∷ b ∷ c ∷ d ∷ []) leader hints long fit padded says = absurd (omega (arith, long))
writes_back (a ∷ b ∷ c ∷ d ∷ e ∷ []) leader hints long fit padded says = absurd (omega (arith, long))
writes_back (a ∷ b ∷ c ∷ d ∷ e ∷ g ∷ t) leader hints long fit padded says =
    value_back a b c d e g t leader hints long (fit 1 0 (omega arith)) (fit 3 0 (omega arith)) (fit 5 0 (omega arith)) padded says
