-- Slots to the end of fewer words, and bytes of a file that ends earlier.
use Rattle.std.proofs.Common.{◌%◌, ◌*◌, ◌++◌, ◌+◌, ◌-◌, ◌<◌, ◌∙◌, ◌∷◌, ◌≡◌, ◌≢◌, ◌≤◌, Bool, List, None, Option, Some, [], ap, arith, cond, drop, false, length, length-take, lt-ltb, nat_lt, refl, suc, sym, take, take-take, true, zero, ℕ}
use Rattle.std.proofs.Math.Seq.{take-add}
use Rattle.std.proofs.lemmas.List.{drop-take, drop_at, get_or-take, length-take-le, take-append-le, take_at}
use Rattle.pack_laws.specs.alto_words.specs.declared.fid.Fid.{Fid}
use Rattle.pack_laws.specs.pack_model.specs.reading.Bytes.{words_of}
use Rattle.pack_laws.specs.pack_model.specs.reading.Files.{file_bytes, joined, most_pages, page}
use Rattle.pack_laws.specs.pack_model.specs.reading.Sights.{Sight}
use Rattle.pack_laws.specs.pack_model.specs.reading.Slots.{Item, all_words, item_words, slot_at, slot_of, slots}
use Rattle.laws_record.proofs.Heads.{head_of, head_reads, slots_cons, slots_nil, slots_none, slots_some}
use Rattle.pack_laws.proofs.Joining.{AreShort, Reaches, continue, front, joined_at, joined_change, length-front, skip}

-- ---- fewer words
-- a slot at the head of fewer words is one of all
head_more : (words : List ℕ) (m : ℕ) (i : Item) → slot_at (take m words) ≡ Some i → slot_at words ≡ Some i
head_more words m i e =
    let h = head_of (take m words) i e in
    let w = h.within in
    let some = h.some in
    let size = length-take m words in
    head_reads words i (record {
      some = some;
      within = omega arith;
      most = h.most;
      first = ap (λ k. k % 1024) (sym (get_or-take m words 0 0 (omega arith))) ∙ h.first;
      reads = ap slot_of (sym (take-take (item_words i) m words (omega arith))) ∙ h.reads;
    })

-- the slots of fewer words are the same, where these slots are within them
pub slots_take : (is : List Item) (words : List ℕ) (m : ℕ) → slots words ≡ is → all_words is ≤ m → slots (take m words) ≡ is
slots_take [] words m e l = slots_none (take m words) (by (slot_at (take m words)) refl)
  where
    by : (r : Option Item) → slot_at (take m words) ≡ r → slot_at (take m words) ≡ None
    by None none = none
    by (Some i) some = absurd (let clash : None ≡ Some i = sym (slots_nil words e) ∙ head_more words m i some in cc)
slots_take (i ∷ is) words m e l =
    let s = slots_cons words i is e in
    let h = head_of words i s.0 in
    let some = h.some in
    let w = h.within in
    let size = length-take m words in
    let n : ℕ = item_words i in
    let z : n + (m - n) ≡ m = omega arith in
    let here : slot_at (take m words) ≡ Some i = head_reads (take m words) i (record {
      some = some;
      within = omega arith;
      most = h.most;
      first = ap (λ k. k % 1024) (get_or-take m words 0 0 (omega arith)) ∙ h.first;
      reads = ap slot_of (take-take n m words (omega arith)) ∙ h.reads;
    }) in
    slots_some (take m words) i here
    ∙ ap (λ r. i ∷ r) (ap (λ k. slots (drop n (take k words))) (sym z) ∙ ap slots (drop-take n (m - n) words) ∙ slots_take is (drop n words) (m - n) s.1 (omega arith))

-- the words of fewer bytes
pub words_take : (n : ℕ) (bytes : List ℕ) → words_of (take (2 * n) bytes) ≡ take n (words_of bytes)
words_take zero bytes = refl
words_take (suc n) [] = let z : 2 * suc n ≡ suc (suc (2 * n)) = omega arith in ap (λ k. words_of (take k [])) z
words_take (suc n) (a ∷ []) = let z : 2 * suc n ≡ suc (suc (2 * n)) = omega arith in ap (λ k. words_of (take k (a ∷ []))) z
words_take (suc n) (a ∷ b ∷ bytes) = let z : 2 * suc n ≡ suc (suc (2 * n)) = omega arith in ap (λ k. words_of (take k (a ∷ b ∷ bytes))) z ∙ ap (λ r. (a * 256 + b) ∷ r) (words_take n bytes)

-- ---- fewer bytes
-- a page, and the pages before it
take_front : (a b : List ℕ) (n k : ℕ) → length a ≡ n → take (n + k) (a ++ b) ≡ a ++ take k b
take_front a b n k size = take-add n k (a ++ b) ∙ (λ i. take_at a b n size i ++ take k (drop_at a b n size i))

-- a page that goes ends the bytes before it
pub bytes_gone : (ss tt : List Sight) (f : Fid) (n : ℕ) → AreShort (page ss f) → n < most_pages → Reaches (page ss f) n → ((k : ℕ) → k ≢ n → page tt f k ≡ page ss f k) → page tt f n ≡ None → file_bytes tt f ≡ take (512 * n) (file_bytes ss f)
unfolding file_bytes
bytes_gone ss tt f n short l r others gone =
    let rest : List ℕ = joined (most_pages - suc n) (skip (suc n) (page ss f)) in
    let size = length-front n (page ss f) short r in
    let z : 512 * n + 0 ≡ 512 * n = omega arith in
    joined_change n most_pages (page ss f) (page tt f) l r others
    ∙ ap (λ x. front n (page ss f) ++ continue x rest) gone
    ∙ sym (ap (take (512 * n)) (joined_at n most_pages (page ss f) l r)
    ∙ ap (λ k. take k (front n (page ss f) ++ continue (page ss f n) rest)) (sym z)
    ∙ take_front (front n (page ss f)) (continue (page ss f n) rest) (512 * n) 0 size)

-- a page that is cut ends the bytes within it
pub bytes_cut : (ss tt : List Sight) (f : Fid) (n b : ℕ) (bytes : List ℕ) → AreShort (page ss f) → n < most_pages → Reaches (page ss f) n → ((k : ℕ) → k ≢ n → page tt f k ≡ page ss f k) → page ss f n ≡ Some bytes → b ≤ length bytes → b < 512 → page tt f n ≡ Some (take b bytes)
    → file_bytes tt f ≡ take (512 * n + b) (file_bytes ss f)
unfolding file_bytes
bytes_cut ss tt f n b bytes short l r others was fits low now =
    let rest : List ℕ = joined (most_pages - suc n) (skip (suc n) (page ss f)) in
    let size = length-front n (page ss f) short r in
    joined_change n most_pages (page ss f) (page tt f) l r others
    ∙ ap (λ x. front n (page ss f) ++ continue x rest) now
    ∙ ap (λ t. front n (page ss f) ++ cond t (take b bytes) (take b bytes ++ rest)) (lt-ltb (length (take b bytes)) 512 (let s = length-take-le b bytes fits in omega arith))
    ∙ ap (λ x. front n (page ss f) ++ x) (sym (either (nat_lt (length bytes) 512)))
    ∙ sym (ap (take (512 * n + b)) (joined_at n most_pages (page ss f) l r ∙ ap (λ x. front n (page ss f) ++ continue x rest) was)
    ∙ take_front (front n (page ss f)) (continue (Some bytes) rest) (512 * n) b size)
  where
    either : (t : Bool) → take b (cond t bytes (bytes ++ joined (most_pages - suc n) (skip (suc n) (page ss f)))) ≡ take b bytes
    either true = refl
    either false = take-append-le b bytes (joined (most_pages - suc n) (skip (suc n) (page ss f))) fits
