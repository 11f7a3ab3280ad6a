-- DiskDescriptor's words with any table: those before the map, and those of the map page by page.
use Rattle.std.proofs.Common.{Bool, List, [], ap, arith, false, true, length, min, not, refl, replicate, suc, sym, take, drop, map, zero, ℕ, ◌*◌, ◌++◌, ◌+◌, ◌-◌, ◌∙◌, ◌∷◌, ◌≡◌, ◌≤◌}
use Rattle.std.proofs.Math.Seq.{drop-append-add}
use Rattle.std.proofs.lemmas.List.FromFn.{length-map-range_with_len, map-range_with_len_more}
use Rattle.std.proofs.lemmas.List.{drop-replicate}
use Rattle.std.specs.List.{range_with_len}
use Rattle.disk_records.specs.Addresses.{cylinders_of, disks_of, table_words}
use Rattle.disk_records.specs.declared.shape.Shape.{Shape}
use Rattle.hint_cache.specs.Bits.{word_of}
use Rattle.laws_hint.proofs.words.Laws.{table_gives_the_words_of_its_bits}
use Rattle.pack_model.specs.operations.PageWords.{filled, halves}
use Rattle.pack_model.specs.reading.Bytes.{put_at}
use Rattle.pack_model.specs.sessions.Descriptor.{descriptor_text, descriptor_value}
use Rattle.pack_model.specs.states.InUse.{how_many, one_if}
use Rattle.disk_descriptor.proofs.Puts.{put_twice}

-- ---- so many words of a map, from one on
abbrev pub words_from : List Bool → ℕ → ℕ → List ℕ
words_from bits first many = map (word_of bits) (range_with_len first many)

pub many_words : (bits : List Bool) (first many : ℕ) → length (words_from bits first many) ≡ many
many_words bits first many = length-map-range_with_len (word_of bits) first many

-- the next of them is put after those before it
pub next_word : (bits : List Bool) (at first i : ℕ) (old : List ℕ) → at + i ≤ length old → put_at (at + i) (word_of bits (first + i) ∷ []) (put_at at (words_from bits first i) old) ≡ put_at at (words_from bits first (i + 1)) old
next_word bits at first i old within =
    let size = many_words bits first i in
    put_twice at (at + i) (words_from bits first i) (word_of bits (first + i) ∷ []) old (omega (arith, size)) within
    ∙ ap (λ words. put_at at words old) (sym (map-range_with_len_more (word_of bits) first i (first + i) refl))

-- the first ones, and those after them
take_words : (bits : List Bool) (first many n : ℕ) → take n (words_from bits first many) ≡ words_from bits first (min n many)
take_words bits first many zero = let e : min 0 many ≡ 0 = omega arith in ap (words_from bits first) (sym e)
take_words bits first zero (suc n) = let e : min (suc n) 0 ≡ 0 = omega arith in ap (words_from bits first) (sym e)
take_words bits first (suc many) (suc n) = let e : min (suc n) (suc many) ≡ suc (min n many) = omega arith in ap (λ (l : List ℕ). word_of bits first ∷ l) (take_words bits (first + 1) many n) ∙ ap (words_from bits first) (sym e)

drop_words : (bits : List Bool) (first many n later : ℕ) → later ≡ first + n → drop n (words_from bits first many) ≡ words_from bits later (many - n)
drop_words bits first many zero later is = let e : first ≡ later = omega arith in let f : many ≡ many - 0 = omega arith in (λ i. words_from bits (e i) (f i))
drop_words bits first zero (suc n) later is = let e : 0 ≡ 0 - suc n = omega arith in ap (words_from bits later) e
drop_words bits first (suc many) (suc n) later is = let e : many - n ≡ suc many - suc n = omega arith in drop_words bits (first + 1) many n later (omega arith) ∙ ap (words_from bits later) e

-- ---- words put among zeros fill the page
pub put_first : (words : List ℕ) → length words ≤ 256 → put_at 0 words (replicate 256 0) ≡ filled 256 words
put_first words within = let e : 0 + length words ≡ length words = omega arith in ap (λ n. words ++ drop n (replicate {A = ℕ} 256 0)) e ∙ ap (λ r. words ++ r) (drop-replicate (length words) 256 0)

module _ (shape : Shape) (last mark : ℕ) (bits : List Bool) where
  -- the 16 words before the map
  abbrev pub heading_words : List ℕ
  heading_words = (disks_of shape ∷ cylinders_of shape ∷ 2 ∷ 12 ∷ []) ++ halves last ++ (mark ∷ how_many not bits ∷ table_words shape ∷ replicate 7 0)

  text_is : descriptor_text shape last mark bits ≡ heading_words ++ words_from bits 0 (table_words shape)
  text_is = ap (λ words. heading_words ++ words) (sym (table_gives_the_words_of_its_bits (table_words shape) bits))

  pub first_page_is : (many : ℕ) → many ≡ min (table_words shape) 240 → put_at 16 (words_from bits 0 many) (put_at 0 heading_words (replicate 256 0)) ≡ descriptor_value shape last mark bits 0
  first_page_is many is =
      let size = many_words bits 0 many in
      let cut : min 240 (table_words shape) ≡ many = omega arith in
      put_twice 0 16 heading_words (words_from bits 0 many) (replicate 256 0) refl (omega arith)
      ∙ put_first (heading_words ++ words_from bits 0 many) (omega (arith, size))
      ∙ ap (λ words. filled 256 (heading_words ++ words)) (sym (take_words bits 0 (table_words shape) 240 ∙ ap (words_from bits 0) cut))
      ∙ ap (λ text. filled 256 (take 256 text)) (sym text_is)

  pub later_page_is : (n first many : ℕ) → 1 ≤ n → first ≡ 256 * n - 16 → many ≡ min (table_words shape - first) 256 → put_at 0 (words_from bits first many) (replicate 256 0) ≡ descriptor_value shape last mark bits n
  later_page_is n first many later start is =
      let size = many_words bits first many in
      let cut : min 256 (table_words shape - first) ≡ many = omega arith in
      let after : 256 * n ≡ 16 + first = omega arith in
      let from : first ≡ 0 + first = omega arith in
      put_first (words_from bits first many) (omega (arith, size))
      ∙ ap (filled 256) (sym (take_words bits first (table_words shape - first) 256 ∙ ap (words_from bits first) cut))
      ∙ ap (λ words. filled 256 (take 256 words)) (sym (drop_words bits 0 (table_words shape) first first from))
      ∙ ap (λ words. filled 256 (take 256 words)) (sym (ap (λ k. drop k (heading_words ++ words_from bits 0 (table_words shape))) after ∙ drop-append-add heading_words (words_from bits 0 (table_words shape)) first))
      ∙ ap (λ text. filled 256 (take 256 (drop (256 * n) text))) (sym text_is)

-- ---- the number of free sectors
pub one_more_free : (bits : List Bool) (b : Bool) → how_many not (bits ++ b ∷ []) ≡ how_many not bits + one_if (not b)
one_more_free [] b = omega arith
one_more_free (x ∷ bits) b = let e = one_more_free bits b in omega arith

pub one_at_most : (b : Bool) → one_if b ≤ 1
one_at_most true = omega arith
one_at_most false = omega arith
