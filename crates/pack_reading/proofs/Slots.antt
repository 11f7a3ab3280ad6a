-- The slots of words: the first one, and those of the words after it.
use Rattle.std.proofs.Common.{◌≡◌, ◌≤◌, ◌-◌, ℕ, zero, suc, List, [], ◌∷◌, length, drop, None, Some, refl, ap, ◌∙◌, arith}
use Rattle.pack_model.specs.reading.Slots.{Item, item_words, and_then, slot_at, slots_after, slots}

-- words that are passed over
slots_after-drop : (k : ℕ) (words : List ℕ) → slots_after k words ≡ slots (drop k words)
unfolding slots_after
slots_after-drop zero words = refl
slots_after-drop (suc k) [] = refl
slots_after-drop (suc k) (w ∷ words) = slots_after-drop k words

-- no slot can be read
pub slots-none : (words : List ℕ) → slot_at words ≡ None → slots words ≡ []
unfolding slots_after
slots-none [] none = refl
slots-none (w ∷ words) none = ap (λ o. and_then o (λ n. slots_after (n - 1) words)) none

-- one can, of some words, and no more than there are
pub slots-some : (words : List ℕ) (i : Item) → slot_at words ≡ Some i → 1 ≤ item_words i → item_words i ≤ length words → slots words ≡ i ∷ slots (drop (item_words i) words)
unfolding slots_after
slots-some [] i some least most = absurd (omega arith)
slots-some (w ∷ words) i some least most =
    let n : ℕ = item_words i in
    let behind : suc (n - 1) ≡ n = omega arith in
    ap (λ o. and_then o (λ m. slots_after (m - 1) words)) some
    ∙ ap (λ rest. i ∷ rest) (slots_after-drop (n - 1) words ∙ ap (λ m. slots (drop m (w ∷ words))) behind)
