-- DiskDescriptor's words on a formatted pack: busy are the first sectors alone, so only the first word of the map isn't 0.
use Rattle.std.proofs.Common.{◌≡◌, ℕ, zero, suc, ◌-◌, ◌*◌, ◌^◌, ◌/◌, ◌≤◌, true, false, not, List, [], ◌∷◌, ◌++◌, length, take, drop, replicate, set, refl, sym, ap, ◌∙◌, arith}
use Rattle.std.proofs.lemmas.List.{drop-replicate}
use Rattle.disk_records.specs.declared.shape.Shape.{Shape}
use Rattle.disk_records.specs.Addresses.{cylinders_of, disks_of, table_words}
use Rattle.pack_model.specs.hints.Tables.{bits_value, words_of_bits}
use Rattle.pack_model.specs.operations.PageWords.{filled, halves}
use Rattle.pack_model.specs.reading.Bytes.{put_at}
use Rattle.pack_model.specs.sessions.Descriptor.{descriptor_text, descriptor_value}
use Rattle.pack_model.specs.sessions.Format.{format_table, free_after_format, sectors_used}
use Rattle.pack_model.specs.states.InUse.{how_many}
use Rattle.disk_descriptor.proofs.Puts.{front_filled, zeros_filled, zeros_follow}

-- ---- bits
none_busy : (n m : ℕ) → bits_value n (replicate m false) ≡ 0
none_busy zero m = refl
none_busy (suc n) zero = refl
none_busy (suc n) (suc m) = let e = none_busy n m in omega arith

no_words : (t m : ℕ) → words_of_bits t (replicate m false) ≡ replicate t 0
no_words zero m = refl
no_words (suc t) m = (λ i. none_busy 16 m i ∷ words_of_bits t (drop-replicate 16 m false i)) ∙ ap (λ r. 0 ∷ r) (no_words t (m - 16))

frees_many : (n : ℕ) → how_many not (replicate n false) ≡ n
frees_many zero = refl
frees_many (suc n) = let e = frees_many n in omega arith

-- the number of bits that aren't busy
free_count : (used frees : ℕ) → how_many not (replicate used true ++ replicate frees false) ≡ frees
free_count zero frees = frees_many frees
free_count (suc used) frees = let e = free_count used frees in omega arith

-- the first word of the map, of five to nine busy sectors
first_word : (used m : ℕ) → 5 ≤ used → used ≤ 9 → bits_value 16 (replicate used true ++ replicate m false) ≡ 65536 - 2 ^ (16 - used)
first_word zero m low high = absurd (omega arith)
first_word (suc zero) m low high = absurd (omega arith)
first_word (suc (suc zero)) m low high = absurd (omega arith)
first_word (suc (suc (suc zero))) m low high = absurd (omega arith)
first_word (suc (suc (suc (suc zero)))) m low high = absurd (omega arith)
first_word (suc (suc (suc (suc (suc zero))))) m low high = let e = none_busy 11 m in omega arith
first_word (suc (suc (suc (suc (suc (suc zero)))))) m low high = let e = none_busy 10 m in omega arith
first_word (suc (suc (suc (suc (suc (suc (suc zero))))))) m low high = let e = none_busy 9 m in omega arith
first_word (suc (suc (suc (suc (suc (suc (suc (suc zero)))))))) m low high = let e = none_busy 8 m in omega arith
first_word (suc (suc (suc (suc (suc (suc (suc (suc (suc zero))))))))) m low high = let e = none_busy 7 m in omega arith
first_word (suc (suc (suc (suc (suc (suc (suc (suc (suc (suc used)))))))))) m low high = absurd (omega arith)

-- it is made by a shift
pub shifted : (used : ℕ) → used ≤ 9 → 65535 - 65535 / 2 ^ used ≡ 65536 - 2 ^ (16 - used)
shifted zero high = refl
shifted (suc zero) high = refl
shifted (suc (suc zero)) high = refl
shifted (suc (suc (suc zero))) high = refl
shifted (suc (suc (suc (suc zero)))) high = refl
shifted (suc (suc (suc (suc (suc zero))))) high = refl
shifted (suc (suc (suc (suc (suc (suc zero)))))) high = refl
shifted (suc (suc (suc (suc (suc (suc (suc zero))))))) high = refl
shifted (suc (suc (suc (suc (suc (suc (suc (suc zero)))))))) high = refl
shifted (suc (suc (suc (suc (suc (suc (suc (suc (suc zero))))))))) high = refl
shifted (suc (suc (suc (suc (suc (suc (suc (suc (suc (suc used)))))))))) high = absurd (omega arith)

-- the bits after those of the first word
busy_dropped : (n used m : ℕ) → used ≤ n → drop n (replicate used true ++ replicate m false) ≡ replicate (m - (n - used)) false
busy_dropped n zero m within = let e : m - n ≡ m - (n - 0) = omega arith in drop-replicate n m false ∙ ap (λ k. replicate k false) e
busy_dropped zero (suc used) m within = absurd (omega arith)
busy_dropped (suc n) (suc used) m within = let e : m - (n - used) ≡ m - (suc n - suc used) = omega arith in busy_dropped n used m (omega arith) ∙ ap (λ k. replicate k false) e

module _ (shape : Shape) where
  abbrev used : ℕ
  used = sectors_used shape

  abbrev free : ℕ
  free = free_after_format shape

  abbrev first : ℕ
  first = 65536 - 2 ^ (16 - used)

  -- the words before the map, and its first one
  abbrev front : List ℕ
  front = (disks_of shape ∷ cylinders_of shape ∷ 2 ∷ 12 ∷ []) ++ halves 2 ++ (1 ∷ free ∷ table_words shape ∷ replicate 7 0) ++ (first ∷ [])

  map_words : (t : ℕ) → 5 ≤ used → used ≤ 9 → words_of_bits (suc t) (format_table shape) ≡ first ∷ replicate t 0
  map_words t low high =
      (λ i. first_word used free low high i ∷ words_of_bits t (busy_dropped 16 used free (omega arith) i))
      ∙ ap (λ r. first ∷ r) (no_words t (free - (16 - used)))

  text_is : (t : ℕ) → table_words shape ≡ suc t → 5 ≤ used → used ≤ 9 → descriptor_text shape 2 1 (format_table shape) ≡ front ++ replicate t 0
  text_is t many low high =
      (λ i. ((disks_of shape ∷ cylinders_of shape ∷ 2 ∷ 12 ∷ []) ++ halves 2 ++ (1 ∷ free_count used free i ∷ table_words shape ∷ replicate 7 0)) ++ words_of_bits (many i) (format_table shape))
      ∙ ap (λ r. ((disks_of shape ∷ cylinders_of shape ∷ 2 ∷ 12 ∷ []) ++ halves 2 ++ (1 ∷ free ∷ table_words shape ∷ replicate 7 0)) ++ r) (map_words t low high)

  first_page : (t : ℕ) → table_words shape ≡ suc t → 5 ≤ used → used ≤ 9 → descriptor_value shape 2 1 (format_table shape) 0 ≡ front ++ replicate 239 0
  first_page t many low high =
      ap (λ text. filled 256 (take 256 text)) (text_is t many low high) ∙ front_filled 256 239 front t refl

  -- the words before the map and its first word, put among zeros
  pub first_written : (t : ℕ) → table_words shape ≡ suc t → 5 ≤ used → used ≤ 9 → (heading value : List ℕ) (word : ℕ)
      → heading ≡ (disks_of shape ∷ cylinders_of shape ∷ 2 ∷ 12 ∷ []) ++ halves 2 ++ (1 ∷ free ∷ table_words shape ∷ replicate 7 0) → value ≡ put_at 0 heading (replicate 256 0) → word ≡ first
      → set value 16 word ≡ descriptor_value shape 2 1 (format_table shape) 0
  first_written t many low high heading value word before put is =
      (λ i. set (put i) 16 (is i)) ∙ ap (λ words. set (put_at 0 words (replicate 256 0)) 16 first) before ∙ sym (first_page t many low high)

  pub later_page : (t n : ℕ) → table_words shape ≡ suc t → 5 ≤ used → used ≤ 9 → 1 ≤ n → descriptor_value shape 2 1 (format_table shape) n ≡ replicate 256 0
  later_page t n many low high later =
      ap (λ text. filled 256 (take 256 (drop (256 * n) text))) (text_is t many low high)
      ∙ ap (λ r. filled 256 (take 256 r)) (zeros_follow (256 * n) front t (omega arith))
      ∙ zeros_filled 256 (t - (256 * n - length front))
