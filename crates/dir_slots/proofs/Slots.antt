-- The slots of words, from the first on.
use Rattle.std.proofs.Common.{◌≡◌, ℕ, zero, suc, ◌+◌, ◌-◌, ◌≤◌, List, [], ◌∷◌, ◌++◌, length, take, drop, Some, None, refl, sym, ap, ◌∙◌, arith, min, map, zero-add}
use Rattle.std.proofs.lemmas.Option.{none-some}
use Rattle.std.proofs.lemmas.List.{append_assoc, append-nil, map_push, take_min, drop-drop, get_or-drop}
use Rattle.pack_model.specs.reading.Slots.{Item, item_words, all_words, and_then, slot_at, slots_after, slots}
use Rattle.pack_model.specs.reading.Slots.Item.{space, entry}
use Rattle.pack_model.specs.reading.SlotWords.{address_at, slots_at}
use Rattle.dir_slots.specs.declared.slot.Slot.{Slot}
use Rattle.dir_slots.specs.Items.{item_of, items_of, address_of, addresses_in}
use Rattle.dir_slots.proofs.Heads.{slot_at-nil, slot_at-is}

-- words that are passed over
pub slots_after-drop : (k : ℕ) (words : List ℕ) → slots_after k words ≡ slots (drop k words)
unfolding slots_after
slots_after-drop zero words = refl
slots_after-drop (suc k) [] = refl
slots_after-drop (suc k) (w ∷ words) = slots_after-drop k words

-- no slot can be read
pub slots-none : (words : List ℕ) → slot_at words ≡ None → slots words ≡ []
unfolding slots_after
slots-none [] none = refl
slots-none (w ∷ words) none = ap (λ o. and_then o (λ n. slots_after (n - 1) words)) none

-- one can, and the rest follows
slots_step : (words : List ℕ) (i : Item) → slot_at words ≡ Some i → 1 ≤ item_words i → slots words ≡ i ∷ slots (drop (item_words i) words)
unfolding slots_after
slots_step [] i some least = absurd (none-some i (sym slot_at-nil ∙ some))
slots_step (w ∷ words) i some least =
    let n : ℕ = item_words i in
    let behind : suc (n - 1) ≡ n = omega arith in
    ap (λ o. and_then o (λ m. slots_after (m - 1) words)) some
    ∙ ap (λ rest. i ∷ rest) (slots_after-drop (n - 1) words ∙ ap (λ m. slots (drop m (w ∷ words))) behind)

pub slots-some : (words : List ℕ) (i : Item) → slot_at words ≡ Some i → slots words ≡ i ∷ slots (drop (item_words i) words)
slots-some words i some = let is = slot_at-is words i some in slots_step words i some (let a = is.0.some in let b = is.0.size in omega arith)

-- ---- slot by slot
-- the first words of all
pub front_of : (words : List ℕ) (n : ℕ) → n ≡ min (length words) 26 → take n words ≡ take 26 words
front_of words n e = ap (λ m. take m words) (let swapped : n ≡ min 26 (length words) = omega arith in swapped) ∙ take_min 26 words

-- one slot more
pub items_more : (words : List ℕ) (at : ℕ) (read : List Slot) (s : Slot) → slot_at (drop at words) ≡ Some (item_of s) → items_of read ++ slots (drop at words) ≡ slots words
    → items_of (read ++ s ∷ []) ++ slots (drop (at + item_words (item_of s)) words) ≡ slots words
items_more words at read s some so_far =
    let rest : List Item = slots (drop (at + item_words (item_of s)) words) in
    ap (λ l. l ++ rest) (map_push item_of read s) ∙ append_assoc (items_of read) (item_of s ∷ []) rest
    ∙ ap (λ l. items_of read ++ (item_of s ∷ slots l)) (sym (drop-drop (item_words (item_of s)) at words))
    ∙ ap (λ l. items_of read ++ l) (sym (slots-some (drop at words) (item_of s) some)) ∙ so_far

-- the addresses of slots from a word on
abbrev pub addresses_from : List ℕ → ℕ → List Item → List ℕ
addresses_from words at is = map (λ s. s.address) (slots_at words at is)

pub addresses_step : (words : List ℕ) (at : ℕ) (i : Item) (is : List Item) → addresses_from words at (i ∷ is) ≡ address_at words at i ∷ addresses_from words (at + item_words i) is
unfolding slots_at
addresses_step words at i is = refl

pub addresses_none : (words : List ℕ) (at : ℕ) → addresses_from words at [] ≡ []
unfolding slots_at
addresses_none words at = refl

pub address_at-drop : (words : List ℕ) (at : ℕ) (i : Item) → address_at (drop at words) 0 i ≡ address_at words at i
address_at-drop words at (space n) = refl
address_at-drop words at (entry f name) = get_or-drop at words 5 0

pub addresses_more : (words : List ℕ) (at : ℕ) (read : List Slot) (s : Slot) → slot_at (drop at words) ≡ Some (item_of s) → address_of s ≡ address_at (drop at words) 0 (item_of s)
    → map address_of read ++ addresses_from words at (slots (drop at words)) ≡ addresses_in words
    → map address_of (read ++ s ∷ []) ++ addresses_from words (at + item_words (item_of s)) (slots (drop (at + item_words (item_of s)) words)) ≡ addresses_in words
addresses_more words at read s some address so_far =
    let behind : ℕ = at + item_words (item_of s) in
    let rest : List ℕ = addresses_from words behind (slots (drop behind words)) in
    let next : slots (drop at words) ≡ item_of s ∷ slots (drop behind words) = slots-some (drop at words) (item_of s) some ∙ ap (λ l. item_of s ∷ slots l) (drop-drop (item_words (item_of s)) at words) in
    ap (λ l. l ++ rest) (map_push address_of read s) ∙ append_assoc (map address_of read) (address_of s ∷ []) rest
    ∙ ap (λ a. map address_of read ++ (a ∷ rest)) (address ∙ address_at-drop words at (item_of s))
    ∙ ap (λ l. map address_of read ++ l) (sym (addresses_step words at (item_of s) (slots (drop behind words))))
    ∙ ap (λ l. map address_of read ++ addresses_from words at l) (sym next) ∙ so_far

pub all_words-append : (is js : List Item) → all_words (is ++ js) ≡ all_words is + all_words js
all_words-append [] js = sym (zero-add (all_words js))
all_words-append (i ∷ is) js = let e = all_words-append is js in omega arith

pub all_words_more : (read : List Slot) (s : Slot) → all_words (items_of (read ++ s ∷ [])) ≡ all_words (items_of read) + item_words (item_of s)
all_words_more read s = let e = all_words-append (items_of read) (item_of s ∷ []) in ap all_words (map_push item_of read s) ∙ omega arith

-- no slot more
pub items_end : (words : List ℕ) (at : ℕ) (read : List Slot) → slot_at (drop at words) ≡ None → items_of read ++ slots (drop at words) ≡ slots words → items_of read ≡ slots words
items_end words at read none so_far = sym (append-nil (items_of read)) ∙ ap (λ l. items_of read ++ l) (sym (slots-none (drop at words) none)) ∙ so_far

pub addresses_end : (words : List ℕ) (at : ℕ) (read : List Slot) → slot_at (drop at words) ≡ None → map address_of read ++ addresses_from words at (slots (drop at words)) ≡ addresses_in words → map address_of read ≡ addresses_in words
addresses_end words at read none so_far =
    sym (append-nil (map address_of read)) ∙ ap (λ l. map address_of read ++ l) (sym (ap (addresses_from words at) (slots-none (drop at words) none) ∙ addresses_none words at)) ∙ so_far
