-- Room among slots, and whether there is any.
use Rattle.std.proofs.Common.{◌≡◌, ℕ, suc, ◌+◌, ◌-◌, ◌<◌, ◌≤◌, List, [], ◌∷◌, ◌++◌, length, Option, Some, None, refl, sym, ap, ◌∙◌, arith, inl, inr}
use Rattle.std.specs.Prelude.{All}
use Rattle.std.specs.Option.{option_map, option_or}
use Rattle.std.proofs.lemmas.Bool.{cases_lt, cond-true, cond-false, le-leb, lt-leb}
use Rattle.std.proofs.lemmas.Option.{none-some}
use Rattle.std.proofs.lemmas.List.Elements.{All-head, All-tail}
use Rattle.pack_model.specs.reading.Slots.{Item, item_words, all_words}
use Rattle.pack_model.specs.reading.Slots.Item.{space, entry}
use Rattle.pack_model.specs.operations.Rooms.{run, Room, room_here, room_from, words_free, largest_run, most_free}
use Rattle.dir_slots.specs.declared.slot.Slot.{Slot}
use Rattle.dir_slots.specs.declared.slot.Slot.TheVariants.{Free, Entry}
use Rattle.dir_slots.specs.Items.{items_of, HasFreeLength}
use Rattle.dir_slots.specs.Inside.{AreFree}

-- free slots of an in-range list have at most 1,023 words
abbrev pub AreShort : List Item → Type 0
AreShort [] = Unit {0}
AreShort (space n ∷ is) = (n ≤ most_free) × AreShort is
AreShort (entry f name ∷ is) = AreShort is

pub short_items : (slots : List Slot) → All HasFreeLength slots → AreShort (items_of slots)
short_items [] h = tt
short_items (Free n ∷ slots) h = ((All-head HasFreeLength (Free n) slots h).1, short_items slots (All-tail HasFreeLength (Free n) slots h))
short_items (Entry f a name ∷ slots) h = short_items slots (All-tail HasFreeLength (Entry f a name) slots h)

-- each slot has a word
pub few_slots : (slots : List Slot) → All HasFreeLength slots → length slots ≤ all_words (items_of slots)
few_slots [] h = omega arith
few_slots (Free n ∷ slots) h =
    let some = (All-head HasFreeLength (Free n) slots h).0 in
    let rest = few_slots slots (All-tail HasFreeLength (Free n) slots h) in omega arith
few_slots (Entry f a name ∷ slots) h = let rest = few_slots slots (All-tail HasFreeLength (Entry f a name) slots h) in omega arith

-- ---- the first free slots that reach so many words
-- so many words more, before the same rest
abbrev longer : ℕ → ℕ × List Item → ℕ × List Item
longer k r = (k + r.0, r.1)

pub run-short : (n : ℕ) (row rest : List Item) → AreFree row → all_words row < n → run n (row ++ rest) ≡ option_map (longer (all_words row)) (run (n - all_words row) rest)
run-short n [] rest free few = let e : n - 0 ≡ n = omega arith in rw e (none_added (run n rest))
  where
    none_added : (r : Option (ℕ × List Item)) → r ≡ option_map (longer 0) r
    none_added None = refl
    none_added (Some x) = let e : x.0 ≡ 0 + x.0 = omega arith in λ i. Some (e i, x.1)
run-short n (space k ∷ row) rest free few =
    let fewer : all_words row < n - k = omega arith in
    let left : n - k - all_words row ≡ n - (k + all_words row) = omega arith in
    cond-false _ (Some (k, row ++ rest)) _ (lt-leb n k (omega arith))
    ∙ ap (option_map (longer k)) (run-short (n - k) row rest free fewer)
    ∙ added (run (n - k - all_words row) rest) ∙ ap (λ m. option_map (longer (k + all_words row)) (run m rest)) left
  where
    added : (r : Option (ℕ × List Item)) → option_map (longer k) (option_map (longer (all_words row)) r) ≡ option_map (longer (k + all_words row)) r
    added None = refl
    added (Some x) = let e : k + (all_words row + x.0) ≡ k + all_words row + x.0 = omega arith in λ i. Some (e i, x.1)
run-short n (entry f name ∷ row) rest free few = absurd free

-- with the last of them, they have that many and its own
pub run-row : (n last : ℕ) (row rest : List Item) → AreFree row → all_words row < n → n ≤ all_words row + last → run n (row ++ space last ∷ rest) ≡ Some (all_words row + last, rest)
run-row n last row rest free few many =
    run-short n row (space last ∷ rest) free few
    ∙ ap (option_map (longer (all_words row))) (cond-true _ (Some (last, rest)) _ (le-leb (n - all_words row) last (omega arith)))

-- free slots that are too few, and no others after them
pub room_from-none : (n first place : ℕ) (row tail : List Item) → AreFree row → all_words row < n → ((m : ℕ) → run m tail ≡ None)
    → room_from n first place (row ++ tail) ≡ room_from n (first + length row) (place + all_words row) tail
room_from-none n first place [] tail free few none =
    let f : first ≡ first + 0 = omega arith in
    let p : place ≡ place + 0 = omega arith in
    λ i. room_from n (f i) (p i) tail
room_from-none n first place (space k ∷ row) tail free few none =
    let here : run n (space k ∷ (row ++ tail)) ≡ None = run-short n (space k ∷ row) tail free few ∙ ap (option_map (longer (all_words (space k ∷ row)))) (none (n - all_words (space k ∷ row))) in
    let f : suc first + length row ≡ first + suc (length row) = omega arith in
    let p : place + k + all_words row ≡ place + (k + all_words row) = omega arith in
    ap (λ r. option_or (room_here first place r) (room_from n (suc first) (place + k) (row ++ tail))) here
    ∙ room_from-none n (suc first) (place + k) row tail free (omega arith) none ∙ (λ i. room_from n (f i) (p i) tail)
room_from-none n first place (entry f name ∷ row) tail free few none = absurd free

-- ---- the first slots are left out
-- the room is here
pub room_from-here : (n first place total : ℕ) (is rest : List Item) → run n is ≡ Some (total, rest) → total ≤ 1023 → room_from n first place is ≡ Some (record { first = first; place = place; total = total })
room_from-here n first place total [] rest found short = absurd (none-some _ found)
room_from-here n first place total (i ∷ is) rest found short =
    ap (λ r. option_or (room_here first place r) (room_from n (suc first) (place + item_words i) is)) found
    ∙ ap (λ r. option_or r (room_from n (suc first) (place + item_words i) is)) (cond-true _ (Some (record { first = first; place = place; total = total })) None (le-leb total 1023 short))

-- it isn't, since the slots have too many words
pub room_from-later : (n first place total : ℕ) (i : Item) (is rest : List Item) → run n (i ∷ is) ≡ Some (total, rest) → 1023 < total → room_from n first place (i ∷ is) ≡ room_from n (suc first) (place + item_words i) is
room_from-later n first place total i is rest found long =
    ap (λ r. option_or (room_here first place r) (room_from n (suc first) (place + item_words i) is)) found
    ∙ ap (λ r. option_or r (room_from n (suc first) (place + item_words i) is)) (cond-false _ (Some (record { first = first; place = place; total = total })) None (lt-leb total 1023 long))

-- ---- the longest row
pub words_free-within : (is : List Item) → words_free is ≤ largest_run is
words_free-within [] = omega arith
words_free-within (i ∷ is) = omega arith

-- a run has no more words than stand free
run-least : (n : ℕ) (is : List Item) (r : ℕ × List Item) → run n is ≡ Some r → n ≤ words_free is
run-least n [] r found = absurd (none-some r found)
run-least n (entry f name ∷ is) r found = absurd (none-some r found)
run-least n (space k ∷ is) r found = elim (cases_lt k n) [
  | inr all ↦ omega arith
  | inl more ↦
      let later : option_map (longer k) (run (n - k) is) ≡ Some r = sym (cond-false _ (Some (k, is)) _ (lt-leb n k more)) ∙ found in
      elim (run (n - k) is) as (λ o. run (n - k) is ≡ o → n ≤ words_free (space k ∷ is)) [
        | None ↦ λ e. absurd (none-some r (sym (ap (option_map (longer k)) e) ∙ later))
        | Some x ↦ λ e. let least = run-least (n - k) is x e in omega arith
      ] refl
]

-- where so many words stand free a run has them, and no more than stand free
run-most : (n : ℕ) (is : List Item) → 1 ≤ n → n ≤ words_free is → (r : ℕ × List Item) × (run n is ≡ Some r) × (r.0 ≤ words_free is)
run-most n [] some many = absurd (omega arith)
run-most n (entry f name ∷ is) some many = absurd (omega arith)
run-most n (space k ∷ is) some many = elim (cases_lt k n) [
  | inr all ↦ ((k, is), cond-true _ (Some (k, is)) _ (le-leb n k all), omega arith)
  | inl more ↦
      let later = run-most (n - k) is (omega arith) (omega arith) in
      let reached = ap (option_map (longer k)) later.1 in
      ((k + later.0.0, later.0.1), ◌∙◌ {c = Some (k + later.0.0, later.0.1)} (cond-false _ (Some (k, is)) _ (lt-leb n k more)) reached, let most = later.2 in omega arith)
]

option_or-none : {X : Type 0} (a b : Option X) → option_or a b ≡ None → (a ≡ None) × (b ≡ None)
option_or-none None b e = (refl, e)
option_or-none (Some x) b e = absurd (none-some x (sym e))

short_rest : (i : Item) (is : List Item) → AreShort (i ∷ is) → AreShort is
short_rest (space k) is h = h.1
short_rest (entry f name) is h = h

-- a first slot from which a row has so many words begins a room, where no later row has them
no_row : (n first place : ℕ) (i : Item) (is : List Item) → 1 ≤ n → n ≤ 26 → AreShort (i ∷ is) → largest_run is < n → room_here first place (run n (i ∷ is)) ≡ None → words_free (i ∷ is) < n
no_row n first place (entry f name) is some most h later none = omega arith
no_row n first place (space k) is some most h later none = elim (cases_lt n (suc k)) [
  | inl all ↦
      let short = h.0 in
      let found : run n (space k ∷ is) ≡ Some (k, is) = cond-true _ (Some (k, is)) _ (le-leb n k (omega arith)) in
      absurd (none-some _ (sym none ∙ ap (room_here first place) found ∙ cond-true _ (Some (record { first = first; place = place; total = k })) None (le-leb k 1023 short)))
  | inr more ↦ elim (cases_lt (words_free (space k ∷ is)) n) [
    | inl less ↦ less
    | inr many ↦
        let within = words_free-within is in
        let r = run-most n (space k ∷ is) some many in
        let upper = r.2 in
        absurd (none-some _ (sym none ∙ ap (room_here first place) r.1 ∙ cond-true _ (Some (record { first = first; place = place; total = r.0.0 })) None (le-leb r.0.0 1023 (omega arith))))
  ]
]

-- where no room is found no row has so many words
pub none_found : (n first place : ℕ) (is : List Item) → 1 ≤ n → n ≤ 26 → AreShort is → room_from n first place is ≡ None → largest_run is < n
none_found n first place [] some most short none = omega arith
none_found n first place (i ∷ is) some most short none =
    let parts = option_or-none (room_here first place (run n (i ∷ is))) (room_from n (suc first) (place + item_words i) is) none in
    let later = none_found n (suc first) (place + item_words i) is some most (short_rest i is short) parts.1 in
    let here = no_row n first place i is some most short later parts.0 in
    omega arith

-- where one is found a row has
pub some_found : (n first place : ℕ) (is : List Item) (r : Room) → room_from n first place is ≡ Some r → n ≤ largest_run is
some_found n first place [] r found = absurd (none-some r found)
some_found n first place (i ∷ is) r found = elim (run n (i ∷ is)) as (λ o. run n (i ∷ is) ≡ o → n ≤ largest_run (i ∷ is)) [
  | Some x ↦ λ e. let least = run-least n (i ∷ is) x e in omega arith
  | None ↦ λ e.
      let later = some_found n (suc first) (place + item_words i) is r (ap (λ o. option_or (room_here first place o) (room_from n (suc first) (place + item_words i) is)) (sym e) ∙ found) in
      omega arith
] refl
