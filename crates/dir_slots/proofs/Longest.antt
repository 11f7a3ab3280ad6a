-- The slots of words are those of the longest prefix that slots fill to its end.
use Rattle.std.proofs.Common.{◌≡◌, ℕ, zero, suc, ◌+◌, ◌%◌, ◌≤◌, List, [], ◌∷◌, ◌++◌, length, take, drop, Some, None, refl, sym, ap, ◌∙◌, subst, arith, append_assoc, append-nil}
use Rattle.std.proofs.lemmas.List.{length-append, length-drop, take-append-drop, take-take, drop-take, take_at, drop_at, get_or_append_left, nil_from_length}
use Rattle.pack_model.specs.reading.Slots.{Item, item_words, all_words, first_length, slot_of, slot_at, slots, IsSlot, Reads, ReadsLongest}
use Rattle.pack_model.specs.reading.Slots.Reads.{none, next}
use Rattle.dir_slots.specs.Laws.{LongestIsRead}
use Rattle.dir_slots.proofs.Heads.{slot_at-nil, slot_at-is, slot_at-within}
use Rattle.dir_slots.proofs.Slots.{slots-none, slots-some, all_words-append}

-- a slot and what follows it
pub slot_at-ahead : (w rest : List ℕ) (i : Item) → IsSlot w i → slot_at (w ++ rest) ≡ Some i
slot_at-ahead w rest i slot =
    let some = slot.some in
    let long = length-append w rest in
    let same : first_length (w ++ rest) ≡ length w = ap (λ x. x % 1024) (get_or_append_left w rest 0 0 some) ∙ slot.first in
    slot_at-within (w ++ rest) (omega arith) (omega arith)
    ∙ ap (λ n. slot_of (take n (w ++ rest))) same ∙ ap slot_of (take_at w rest (length w) refl) ∙ slot.reads

-- slots that words are to their end, and what follows them
pub reads-ahead : (words rest : List ℕ) (is : List Item) → Reads words is → (slots (words ++ rest) ≡ is ++ slots rest) × (length words ≡ all_words is)
reads-ahead words rest is none = (refl, refl)
reads-ahead words rest is (next {w = w} {rest = more} {i = i} {is = js} split slot reads) =
    let later = reads-ahead more rest js reads in
    let whole : words ++ rest ≡ w ++ (more ++ rest) = ap (λ x. x ++ rest) split ∙ append_assoc w more rest in
    let size = slot.size in
    let long = ap length split ∙ length-append w more in (
      ap slots whole ∙ slots-some (w ++ (more ++ rest)) i (slot_at-ahead w (more ++ rest) i slot)
          ∙ ap (λ x. i ∷ slots x) (drop_at w (more ++ rest) (item_words i) (sym size)) ∙ ap (λ x. i ∷ x) later.0,
      let e = later.1 in omega arith,
    )

-- ---- the prefix that slots fill
take_sum : (a b : ℕ) (words : List ℕ) → take (a + b) words ≡ take a words ++ take b (drop a words)
take_sum a b words =
    sym (take-append-drop a (take (a + b) words))
    ∙ ap (λ l. l ++ drop a (take (a + b) words)) (take-take a (a + b) words (omega arith))
    ∙ ap (λ l. take a words ++ l) (drop-take a b words)

-- the words that slots have are these slots to their end
reads_none : (words : List ℕ) → slot_at words ≡ None → Reads (take (all_words (slots words)) words) (slots words)
reads_none words is = subst (λ l. Reads (take (all_words l) words) l) (sym (slots-none words is)) none

pub reads_front : (n : ℕ) (words : List ℕ) → length words ≤ n → Reads (take (all_words (slots words)) words) (slots words)
reads_front zero words short = reads_none words (ap slot_at (nil_from_length words (omega arith)) ∙ slot_at-nil)
reads_front (suc n) words short = elim (slot_at words) as (λ o. slot_at words ≡ o → Reads (take (all_words (slots words)) words) (slots words)) [
  | None ↦ λ is. reads_none words is
  | Some i ↦ λ is.
      let slot = slot_at-is words i is in
      let some = slot.0.some in
      let size = slot.0.size in
      let rest : List ℕ = drop (item_words i) words in
      let fewer = length-drop (item_words i) words in
      let later = reads_front n rest (omega arith) in
      subst (λ l. Reads (take (all_words l) words) l) (sym (slots-some words i is))
      (next (take_sum (item_words i) (all_words (slots rest)) words) slot.0 later)
] refl

-- they are as many
pub length_front : (words : List ℕ) → length (take (all_words (slots words)) words) ≡ all_words (slots words)
length_front words = (reads-ahead _ [] (slots words) (reads_front (length words) words (omega arith))).1

pub longest : (words : List ℕ) → ReadsLongest words (slots words)
longest words = record {
  front = take (all_words (slots words)) words;
  rest = drop (all_words (slots words)) words;
  split = sym (take-append-drop (all_words (slots words)) words);
  reads = reads_front (length words) words (omega arith);
  longest = λ other behind js e reads.
      let ahead = reads-ahead other behind js reads in
      let all = ap all_words (ap slots e ∙ ahead.0) ∙ all_words-append js (slots behind) in
      let long = length_front words in
      let shorter = ahead.1 in
      omega arith;
}

-- words that begin with no slot
no_slots : (words : List ℕ) → all_words (slots words) ≡ 0 → slots words ≡ []
no_slots words empty = elim (slot_at words) as (λ o. slot_at words ≡ o → slots words ≡ []) [
  | None ↦ λ is. slots-none words is
  | Some i ↦ λ is.
      let slot = slot_at-is words i is in
      let some = slot.0.some in
      let size = slot.0.size in
      let all = ap all_words (slots-some words i is) in
      absurd (omega arith)
] refl

pub only : (words : List ℕ) (is : List Item) → ReadsLongest words is → is ≡ slots words
only words is r =
    let ahead = reads-ahead r.front r.rest is r.reads in
    let whole : slots words ≡ is ++ slots r.rest = ap slots r.split ∙ ahead.0 in
    let all = ap all_words whole ∙ all_words-append is (slots r.rest) in
    let long = length_front words in
    let most = r.longest _ _ (slots words) (sym (take-append-drop (all_words (slots words)) words)) (reads_front (length words) words (omega arith)) in
    let size = ahead.1 in
    let behind : slots r.rest ≡ [] = no_slots r.rest (omega arith) in
    sym (whole ∙ ap (λ l. is ++ l) behind ∙ append-nil is)

pub longest_is_read : LongestIsRead
longest_is_read = λ words is. (only words is, λ e. subst (ReadsLongest words) (sym e) (longest words))
