-- Free slots by the places of their first words.
use Rattle.std.proofs.Common.{◌≡◌, ℕ, suc, ◌+◌, ◌<◌, ◌≤◌, List, [], ◌∷◌, ◌++◌, Option, Some, None, refl, ap, ◌∙◌, arith}
use Rattle.std.specs.Prelude.{All}
use Rattle.std.specs.BTreeMap.{is_at}
use Rattle.std.specs.Map.{lookup}
use Rattle.std.specs.Ordering.{nat_cmp}
use Rattle.std.proofs.lemmas.List.Elements.{All-cons, All-head, All-tail, All-nil}
use Rattle.pack_model.specs.reading.Slots.{Item, all_words, item_words}
use Rattle.pack_model.specs.reading.Slots.Item.{space, entry}
use Rattle.scav_names.specs.Rooms.{IsSize, free_slots}
use Rattle.scav_names.proofs.Keys.{AreAbove, AreBelow, all_left, all_right, lookup_above, lookup_here, lookup_past}

pub free_append : (place : ℕ) (is js : List Item) → free_slots place (is ++ js) ≡ free_slots place is ++ free_slots (place + all_words is) js
free_append place [] js = let e : place ≡ place + 0 = omega arith in ap (λ p. free_slots p js) e
free_append place (space n ∷ is) js =
    let e : place + n + all_words is ≡ place + (n + all_words is) = omega arith in
    ap (λ l. (place, n) ∷ l) (free_append (place + n) is js ∙ ap (λ p. free_slots (place + n) is ++ free_slots p js) e)
free_append place (entry f name ∷ is) js =
    let n = item_words (entry f name) in
    let e : place + n + all_words is ≡ place + (n + all_words is) = omega arith in
    free_append (place + n) is js ∙ ap (λ p. free_slots (place + n) is ++ free_slots p js) e

pub one_first : (place : ℕ) (i : Item) (is : List Item) → free_slots place (i ∷ is) ≡ free_slots place (i ∷ []) ++ free_slots (place + item_words i) is
one_first place (space n) is = refl
one_first place (entry f name) is = refl

-- ---- their places
pub free_from : (low place : ℕ) (is : List Item) → low ≤ place → All (λ e. low ≤ e.0) (free_slots place is)
free_from low place [] h = All-nil (λ (e : ℕ × ℕ). low ≤ e.0)
free_from low place (space n ∷ is) h = All-cons (λ (e : ℕ × ℕ). low ≤ e.0) (place, n) (free_slots (place + n) is) h (free_from low (place + n) is (omega arith))
free_from low place (entry f name ∷ is) h = free_from low (place + item_words (entry f name)) is (omega arith)

pub free_above : (low place : ℕ) (is : List Item) → low < place → AreAbove low (free_slots place is)
free_above low place is h = free_from (suc low) place is (omega arith)

pub free_below : (place high : ℕ) (is : List Item) → All IsSize is → place + all_words is ≤ high → AreBelow high (free_slots place is)
free_below place high [] sizes h = All-nil (λ (e : ℕ × ℕ). e.0 < high)
free_below place high (space n ∷ is) sizes h =
    let some = (All-head IsSize (space n) is sizes).0 in
    All-cons (λ (e : ℕ × ℕ). e.0 < high) (place, n) (free_slots (place + n) is) (omega arith) (free_below (place + n) high is (All-tail IsSize (space n) is sizes) (omega arith))
free_below place high (entry f name ∷ is) sizes h = free_below (place + item_words (entry f name)) high is (All-tail IsSize (entry f name) is sizes) (omega arith)

-- ---- the slot at a place
-- the words of the first slot, if it is a free one
abbrev pub first_free : List Item → Option ℕ
first_free [] = None
first_free (space n ∷ is) = Some n
first_free (entry f name ∷ is) = None

at_first : (place : ℕ) (is : List Item) → All IsSize is → lookup (is_at (nat_cmp place)) (free_slots place is) ≡ first_free is
at_first place [] sizes = refl
at_first place (space n ∷ is) sizes = lookup_here place n (free_slots (place + n) is)
at_first place (entry f name ∷ is) sizes = lookup_above (free_slots (place + item_words (entry f name)) is) place (free_above place (place + item_words (entry f name)) is (omega arith))

pub free_at : (before rest : List Item) → All IsSize (before ++ rest) → lookup (is_at (nat_cmp (all_words before))) (free_slots 0 (before ++ rest)) ≡ first_free rest
free_at before rest sizes =
    let here : 0 + all_words before ≡ all_words before = omega arith in
    let split : free_slots 0 (before ++ rest) ≡ free_slots 0 before ++ free_slots (all_words before) rest = free_append 0 before rest ∙ ap (λ p. free_slots 0 before ++ free_slots p rest) here in
    ap (lookup (is_at (nat_cmp (all_words before)))) split
    ∙ lookup_past (free_slots 0 before) (free_slots (all_words before) rest) (all_words before) (free_below 0 (all_words before) before (all_left IsSize before rest sizes) (omega arith))
    ∙ at_first (all_words before) rest (all_right IsSize before rest sizes)
