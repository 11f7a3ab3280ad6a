-- What the words of DiskDescriptor say once they were read.
use Rattle.std.proofs.Common.{Bool, List, None, Some, [], ap, arith, cond, drop, length, nat_le, refl, sym, take, true, ℕ, ◌+◌, ◌/◌, ◌<◌, ◌∙◌, ◌∷◌, ◌≡◌, ◌≤◌}
use Rattle.std.proofs.lemmas.Bool.Decides.{nat_tests}
use Rattle.std.proofs.lemmas.List.{drop-take, get_or-take, length-take-le, take-take}
use Rattle.std.proofs.lemmas.Option.{slice_get-get_or}
use Rattle.std.specs.List.{AllByRecursion}
use Rattle.std.specs.Prelude.{◌==◌}
use Rattle.alto_words.specs.Fid.{disk_descriptor}
use Rattle.disk_records.specs.Addresses.{descriptor_length, pages_of, table_words}
use Rattle.disk_records.specs.Packs.{Pack}
use Rattle.disk_records.specs.Words.{double, word}
use Rattle.disk_records.specs.declared.shape.Shape.{Shape}
use Rattle.hint_cache.specs.Bits.{bits_in}
use Rattle.pack_model.specs.hints.Tables.{table_in}
use Rattle.pack_model.specs.reading.Model.{descriptor_words, last_serial, read_as, read_sights}
use Rattle.pack_model.specs.reading.Sights.{sights}
use Rattle.pack_model.specs.sessions.Descriptor.{DescriptorFits, data_pages}
use Rattle.pack_model.specs.states.Sound.{mark_clean}
use Rattle.disk_descriptor.specs.Opening.{IsOpened, bad_word, shape_words}
use Rattle.disk_descriptor.specs.Reading.{IsRead}

-- the first word that differs is in front
pub bad_taken : (ws : List (ℕ × ℕ)) (n : ℕ) (words : List ℕ) → AllByRecursion (λ w. w.0 < n) ws → bad_word ws (take n words) ≡ bad_word ws words
bad_taken [] n words low = refl
bad_taken (w ∷ ws) n words low =
    let here : word (take n words) w.0 ≡ word words w.0 = get_or-take n words w.0 0 low.0 in
    let rest = bad_taken ws n words low.1 in
    λ i. cond (here i == w.1) (rest i) (Some (w.0, here i))

last_said : (p : Pack) → (read_as p).last ≡ last_serial (descriptor_words (sights p))
unfolding read_sights
last_said p = refl

-- ---- of a pack of this shape whose DiskDescriptor was read, and is as long as for it
module _ (p : Pack) (shape : Shape) (words pages : List ℕ) (size : ℕ) (read : IsRead p disk_descriptor words pages size) (same : p.shape ≡ shape) (is : size ≡ descriptor_length shape) where
  abbrev t : ℕ
  t = table_words shape

  few : t ≤ 1218
  few = let most : pages_of shape ≤ 19488 = shape.most_pages in omega (arith, most)

  -- its words are those in front
  words_are : take (16 + t) words ≡ descriptor_words (sights p)
  words_are =
      let upto : 16 + t ≡ size / 2 = omega (arith, is) in
      ap (λ n. take n words) upto ∙ read.words_are (omega (arith, is, few))

  word_is : (i : ℕ) → i < 16 → word (descriptor_words (sights p)) i ≡ word words i
  word_is i low = ap (λ l. word l i) (sym words_are) ∙ get_or-take (16 + t) words i 0 (omega (arith, low))

  bad_is : bad_word (shape_words p.shape) (descriptor_words (sights p)) ≡ bad_word (shape_words shape) words
  bad_is =
      ap (λ (s : Shape). bad_word (shape_words s) (descriptor_words (sights p))) same
      ∙ ap (bad_word (shape_words shape)) (sym words_are)
      ∙ bad_taken (shape_words shape) (16 + t) words (omega arith, (omega arith, (omega arith, (omega arith, (omega arith, tt)))))

  table_is : take t (drop 16 words) ≡ table_in p
  table_is =
      sym (take-take t t (drop 16 words) (omega arith))
      ∙ ap (take t) (sym (drop-take 16 t words))
      ∙ ap (λ l. take t (drop 16 l)) words_are
      ∙ ap (λ (s : Shape). take (table_words s) (drop 16 (descriptor_words (sights p)))) (sym same)

  last_is : length words ≡ 1280 → (read_as p).last ≡ double words 4
  last_is long =
      let many : length (descriptor_words (sights p)) ≡ 16 + t = ap length (sym words_are) ∙ length-take-le (16 + t) words (omega (arith, long, few)) in
      let enough : nat_le 6 (length (descriptor_words (sights p))) ≡ true = grind (arith, nat_tests, many) in
      let high = word_is 4 (omega arith) in
      let low = word_is 5 (omega arith) in
      last_said p ∙ ap (λ b. cond b (double (descriptor_words (sights p)) 4) 0) enough ∙ omega (arith, high, low)

  fits : length words ≡ 1280 → length pages ≡ 5 → DescriptorFits p shape (double words 4) (word words 6) (take (data_pages shape) pages)
  fits long room =
      let count : length (take (data_pages shape) pages) ≡ data_pages shape = length-take-le (data_pages shape) pages (omega (arith, room, few)) in
      record {
        shape_is = same;
        last_is = last_is long;
        mark_is = word_is 6 (omega arith);
        size = count;
        bears = λ n within. read.pages_are (omega (arith, is, few)) n (omega (arith, within, count, is)) ∙ ap Some (sym (get_or-take (data_pages shape) pages n 0 (omega (arith, within, count)))) ∙ sym (slice_get-get_or (take (data_pages shape) pages) n 0 within);
      }

  pub opened : (busy : List Bool) (map_words : List ℕ) → bad_word (shape_words shape) words ≡ None → length words ≡ 1280 → length pages ≡ 5 → word words 6 ≡ mark_clean → map_words ≡ take (table_words shape) (drop 16 words) → busy ≡ bits_in (pages_of shape) map_words
      → IsOpened p (record { shape = shape; last = double words 4; mark = word words 6; pages = take (data_pages shape) pages }) busy
  opened busy map_words right long room clean map_is table = record {
    size = sym read.size_is ∙ is ∙ ap descriptor_length (sym same);
    right = bad_is ∙ right;
    fits = fits long room;
    clean = clean;
    table = table ∙ ap (bits_in (pages_of shape)) (map_is ∙ table_is) ∙ ap (λ (s : Shape). bits_in (pages_of s) (table_in p)) (sym same);
  }
