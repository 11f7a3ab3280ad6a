-- Words in hand: what follows the last slot of the words that were given.
use Rattle.std.proofs.Common.{◌≡◌, ℕ, zero, suc, ◌%◌, ◌<◌, ◌≤◌, ◌⊎◌, inl, inr, List, [], ◌∷◌, ◌++◌, length, take, drop, Some, None, refl, sym, ap, ◌∙◌, arith, append_assoc, append-nil}
use Rattle.std.proofs.lemmas.List.{length-append, length-take, take-append-drop, take-append-le, drop-append-le, drop_all, get_or_append_left, get_or-take}
use Rattle.pack_model.specs.reading.Slots.{Item, item_words, all_words, first_length, slot_of, slot_at, slots}
use Rattle.dir_slots.specs.Walks.{IsOpen}
use Rattle.dir_slots.proofs.Heads.{slot_at-nil, slot_at-none, slot_at-within, slot_at-is}
use Rattle.dir_slots.proofs.Slots.{slots-none, slots-some}
use Rattle.dir_slots.proofs.Longest.{reads-ahead, reads_front, length_front}

-- what follows the slots of some words
abbrev pub hand_of : List ℕ → List ℕ
hand_of given = drop (all_words (slots given)) given

pub slots_within : (given : List ℕ) → all_words (slots given) ≤ length given
slots_within given = omega (arith, length_front given, length-take (all_words (slots given)) given)

-- the slots of more words are those, and the slots of what is in hand with what follows
pub slots_on : (given more : List ℕ) → slots (given ++ more) ≡ slots given ++ slots (hand_of given ++ more)
slots_on given more =
    let n : ℕ = all_words (slots given) in
    ap (λ l. slots (l ++ more)) (sym (take-append-drop n given)) ∙ ap slots (append_assoc (take n given) (drop n given) more)
    ∙ (reads-ahead (take n given) (drop n given ++ more) (slots given) (reads_front (length given) given (omega arith))).0

pub hand_more : (given more : List ℕ) → drop (all_words (slots given)) (given ++ more) ≡ hand_of given ++ more
hand_more given more = drop-append-le (all_words (slots given)) given more (slots_within given)

-- ---- by the first word in hand
pub first_stays : (hand more : List ℕ) → 0 < length hand → first_length (hand ++ more) ≡ first_length hand
first_stays hand more some = ap (λ w. w % 1024) (get_or_append_left hand more 0 0 some)

pub open_none : (hand : List ℕ) → IsOpen hand → slot_at hand ≡ None
open_none [] unended = slot_at-nil
open_none (w ∷ words) unended = slot_at-none (w ∷ words) (inr (unended (omega arith)))

-- a slot that has come to its end is the same, whatever follows
pub whole_stays : (hand more : List ℕ) → 0 < length hand → first_length hand ≤ length hand → slot_at (hand ++ more) ≡ slot_at hand
whole_stays hand more some whole = elim (zero_or_some (first_length hand)) [
  | inl none ↦ slot_at-none (hand ++ more) (inl (first_stays hand more some ∙ none)) ∙ sym (slot_at-none hand (inl none))
  | inr least ↦
      let first = first_stays hand more some in
      let long = length-append hand more in
      slot_at-within (hand ++ more) (omega (arith, first, least)) (omega (arith, first, long, whole))
      ∙ ap (λ n. slot_of (take n (hand ++ more))) first ∙ ap slot_of (take-append-le (first_length hand) hand more whole)
      ∙ sym (slot_at-within hand least whole)
]
  where
    zero_or_some : (n : ℕ) → (n ≡ 0) ⊎ (1 ≤ n)
    zero_or_some zero = inl refl
    zero_or_some (suc n) = inr (omega arith)

-- one word more may end a slot, and then it is as long as what is in hand
pub ends_here : (hand : List ℕ) (w : ℕ) (i : Item) → IsOpen hand → slot_at (hand ++ w ∷ []) ≡ Some i → item_words i ≡ length (hand ++ w ∷ [])
ends_here [] w i unended is =
    let one = slot_at-is (w ∷ []) i is in
    let some = one.0.some in
    let size = one.0.size in
    omega (arith, one.1, some, size)
ends_here (v ∷ words) w i unended is =
    let hand : List ℕ = v ∷ words in
    let one = slot_at-is (hand ++ w ∷ []) i is in
    let n : ℕ = item_words i in
    let size = one.0.size in
    let first = one.0.first in
    let some = one.0.some in
    let least : 0 < n = omega (arith, size, some) in
    let long = length-append hand (w ∷ []) in
    let head : first_length (take n (hand ++ w ∷ [])) ≡ first_length hand = ap (λ x. x % 1024) (get_or-take n (hand ++ w ∷ []) 0 0 least) ∙ first_stays hand (w ∷ []) (omega arith) in
    omega (arith, one.1, first, size, head, unended (omega arith), long)

-- words that are as many as their first says are the whole of the slot that is read from them
pub whole_is : (words : List ℕ) (i : Item) → first_length words ≡ length words → slot_at words ≡ Some i → item_words i ≡ length words
whole_is words i all some =
    let one = slot_at-is words i some in
    let n : ℕ = item_words i in
    let size = one.0.size in
    let first = one.0.first in
    let least = one.0.some in
    let head : first_length (take n words) ≡ first_length words = ap (λ x. x % 1024) (get_or-take n words 0 0 (omega (arith, size, least))) in
    omega (arith, size, first, head, all)

-- ---- the slots of one word more
pub slots_open : (given more : List ℕ) → IsOpen (hand_of given ++ more) → slots (given ++ more) ≡ slots given
slots_open given more unended = slots_on given more ∙ ap (λ l. slots given ++ l) (slots-none (hand_of given ++ more) (open_none (hand_of given ++ more) unended)) ∙ append-nil (slots given)

pub slots_ended : (given more : List ℕ) → slot_at (hand_of given ++ more) ≡ None → slots (given ++ more) ≡ slots given
slots_ended given more none = slots_on given more ∙ ap (λ l. slots given ++ l) (slots-none (hand_of given ++ more) none) ∙ append-nil (slots given)

pub slots_met : (given more : List ℕ) (i : Item) → slot_at (hand_of given ++ more) ≡ Some i → item_words i ≡ length (hand_of given ++ more) → slots (given ++ more) ≡ slots given ++ i ∷ []
slots_met given more i some size =
    let hand : List ℕ = hand_of given ++ more in
    slots_on given more
    ∙ ap (λ l. slots given ++ l) (slots-some hand i some ∙ ap (λ l. i ∷ l) (ap slots (drop_all (item_words i) hand (omega (arith, size))) ∙ slots-none [] slot_at-nil))
