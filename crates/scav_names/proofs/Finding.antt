-- The first room for so many words, by the free slots from a place on.
use Rattle.std.proofs.Common.{◌≡◌, ℕ, zero, suc, ◌+◌, ◌-◌, ◌<◌, ◌≤◌, ◌&&◌, Bool, true, false, cond, nat_le, List, [], ◌∷◌, ◌++◌, length, get_or, Option, Some, None, inl, inr, refl, sym, ap, ◌∙◌, subst, append_assoc, arith}
use Rattle.std.specs.Prelude.{All}
use Rattle.std.specs.List.{filter}
use Rattle.std.specs.Option.{option_map, option_or}
use Rattle.std.specs.Ordering.{is_le, nat_cmp}
use Rattle.std.proofs.lemmas.Bool.{cond-false, lt-leb}
use Rattle.std.proofs.lemmas.List.{length-append}
use Rattle.std.proofs.lemmas.List.Elements.{All-head, All-tail}
use Rattle.pack_model.specs.operations.Rooms.{find_room, largest_run, most_free, room_from, room_here, run, words_free}
use Rattle.pack_model.specs.reading.Slots.{Item, all_words, item_words}
use Rattle.pack_model.specs.reading.Slots.Item.{space, entry}
use Rattle.dir_slots.proofs.Slots.{all_words-append}
use Rattle.scav_names.specs.declared.rooms.Rooms.{Rooms}
use Rattle.scav_names.specs.Rooms.{AreAt, BeginsNamed, HasRooms, IsFirstRoom, IsPassedOver, IsSize, free_slots, run_total}
use Rattle.scav_names.proofs.FreeSlots.{free_append, free_below, free_from}
use Rattle.scav_names.proofs.Keys.{all_left, keys_from}

-- ---- slots without so many free words in a row are passed over
run_before : (n : ℕ) (row rest : List Item) → words_free row < n → BeginsNamed rest → run n (row ++ rest) ≡ None
run_before n [] [] few named = refl
run_before n [] (space k ∷ rest) few named = absurd named
run_before n [] (entry f name ∷ rest) few named = refl
run_before n (space k ∷ row) rest few named =
    let later : run (n - k) (row ++ rest) ≡ None = run_before (n - k) row rest (omega arith) named in
    cond-false _ (Some (k, row ++ rest)) _ (lt-leb n k (omega arith)) ∙ ap (option_map (λ r. (k + r.0, r.1))) later
run_before n (entry f name ∷ row) rest few named = refl

room_after : (n first place : ℕ) (before rest : List Item) → largest_run before < n → BeginsNamed rest
    → room_from n first place (before ++ rest) ≡ room_from n (first + length before) (place + all_words before) rest
room_after n first place [] rest few named =
    let f : first ≡ first + 0 = omega arith in
    let p : place ≡ place + 0 = omega arith in
    λ i. room_from n (f i) (p i) rest
room_after n first place (i ∷ before) rest few named =
    let none : run n (i ∷ (before ++ rest)) ≡ None = run_before n (i ∷ before) rest (omega arith) named in
    let f : suc first + length before ≡ first + suc (length before) = omega arith in
    let p : place + item_words i + all_words before ≡ place + (item_words i + all_words before) = omega arith in
    ap (λ r. option_or (room_here first place r) (room_from n (suc first) (place + item_words i) (before ++ rest))) none
    ∙ room_after n (suc first) (place + item_words i) before rest (omega arith) named
    ∙ (λ j. room_from n (f j) (p j) rest)

-- ---- the search
-- It goes on at the first of these free slots.
pub record IsAhead (n : ℕ) (left : List (ℕ × ℕ)) (is : List Item) : Type 0 where
  pub before : List Item
  pub rest : List Item
  pub split : is ≡ before ++ rest
  pub left_are : left ≡ free_slots (all_words before) rest
  pub same : find_room n is ≡ room_from n (length before) (all_words before) rest

from_place : (es : List (ℕ × ℕ)) (n from : ℕ) (before rest is : List Item) → es ≡ free_slots 0 is → All IsSize is → is ≡ before ++ rest → all_words before ≡ from
    → filter (λ e. is_le (nat_cmp from e.0) && true) es ≡ free_slots (all_words before) rest
from_place es n from before rest is are sizes split here =
    let start : 0 + all_words before ≡ all_words before = omega arith in
    let parts : es ≡ free_slots 0 before ++ free_slots (all_words before) rest = are ∙ ap (free_slots 0) split ∙ free_append 0 before rest ∙ ap (λ p. free_slots 0 before ++ free_slots p rest) start in
    ap (filter (λ e. is_le (nat_cmp from e.0) && true)) parts
    ∙ keys_from (free_slots 0 before) (free_slots (all_words before) rest) from
    (free_below 0 from before (all_left IsSize before rest (subst (All IsSize) split sizes)) (omega arith)) (free_from from (all_words before) rest (omega arith))

pub search_begins : (rooms : Rooms) (is : List Item) (n : ℕ) → HasRooms rooms is → 1 ≤ n → n ≤ 26 → IsAhead n (filter (λ e. is_le (nat_cmp (get_or rooms.from n 0) e.0) && true) rooms.free.entries) is
search_begins rooms is n has some most =
    let over = has.passed n most in
    elim over.apart [
      | inl none ↦
          record {
            before = over.before;
            rest = over.rest;
            split = over.split;
            left_are = from_place rooms.free.entries n (get_or rooms.from n 0) over.before over.rest is has.free has.sizes over.split over.place;
            same = ap (find_room n) over.split ∙ ap (λ b. room_from n 0 0 (b ++ over.rest)) none ∙ sym (ap (λ b. room_from n (length b) (all_words b) over.rest) none);
          }
      | inr named ↦
          let f : 0 + length over.before ≡ length over.before = omega arith in
          let p : 0 + all_words over.before ≡ all_words over.before = omega arith in
          record {
            before = over.before;
            rest = over.rest;
            split = over.split;
            left_are = from_place rooms.free.entries n (get_or rooms.from n 0) over.before over.rest is has.free has.sizes over.split over.place;
            same = ap (find_room n) over.split ∙ room_after n 0 0 over.before over.rest (over.few some) named ∙ (λ i. room_from n (f i) (p i) over.rest);
          }
    ]

-- It has come to this free slot.
pub record IsAheadAt (n : ℕ) (e : ℕ × ℕ) (left : List (ℕ × ℕ)) (is : List Item) : Type 0 where
  pub before : List Item
  pub rest : List Item
  pub split : is ≡ before ++ space e.1 ∷ rest
  pub here : e.0 ≡ all_words before
  pub left_are : left ≡ free_slots (all_words before + e.1) rest
  pub same : find_room n is ≡ room_from n (length before) (all_words before) (space e.1 ∷ rest)

next_from : (n : ℕ) (e : ℕ × ℕ) (left : List (ℕ × ℕ)) (is before rest : List Item) → is ≡ before ++ rest → e ∷ left ≡ free_slots (all_words before) rest
    → find_room n is ≡ room_from n (length before) (all_words before) rest → IsAheadAt n e left is
next_from n e left is before [] split are same = absurd cc
next_from n e left is before (space k ∷ rest) split are same =
    let first : ◌≡◌ {A = ℕ × ℕ} e (all_words before, k) = cc in
    let words : e.1 ≡ k = ap (λ x. x.1) first in
    let rest_are : left ≡ free_slots (all_words before + k) rest = cc in
    record {
      before = before;
      rest = rest;
      split = split ∙ ap (λ w. before ++ space w ∷ rest) (sym words);
      here = ap (λ x. x.0) first;
      left_are = rest_are ∙ ap (λ w. free_slots (all_words before + w) rest) (sym words);
      same = same ∙ ap (λ w. room_from n (length before) (all_words before) (space w ∷ rest)) (sym words);
    }
next_from n e left is before (entry f name ∷ rest) split are same =
    let w = item_words (entry f name) in
    let words : all_words before + w ≡ all_words (before ++ entry f name ∷ []) = let h = all_words-append before (entry f name ∷ []) in omega arith in
    let count : suc (length before) ≡ length (before ++ entry f name ∷ []) = let h = length-append before (entry f name ∷ []) in omega arith in
    next_from n e left is (before ++ entry f name ∷ []) rest (split ∙ sym (append_assoc before (entry f name ∷ []) rest)) (are ∙ (λ i. free_slots (words i) rest))
    (same ∙ (λ i. room_from n (count i) (words i) rest))

pub search_next : (n : ℕ) (e : ℕ × ℕ) (left : List (ℕ × ℕ)) (is : List Item) → IsAhead n (e ∷ left) is → IsAheadAt n e left is
search_next n e left is a = next_from n e left is a.before a.rest a.split a.left_are a.same

pub search_at : (rooms : Rooms) (is : List Item) (n : ℕ) (e : ℕ × ℕ) (left : List (ℕ × ℕ)) → HasRooms rooms is → (a : IsAheadAt n e left is) → AreAt rooms.free.entries e.0 a.before (space e.1 ∷ a.rest)
search_at rooms is n e left has a = record { entries = has.free ∙ ap (free_slots 0) a.split; sizes = subst (All IsSize) a.split has.sizes; few = subst (λ l. all_words l < 4294967296) a.split has.few; here = a.here }

-- ---- what is found
at_end : {X : Type 0} (xs ys : List X) (x d : X) → get_or (xs ++ x ∷ ys) (length xs) d ≡ x
at_end [] ys x d = refl
at_end (z ∷ xs) ys x d = at_end xs ys x d

by_total : (n first place total : ℕ) (i : Item) (rest : List Item) → run_total (run n (i ∷ rest)) ≡ Some total → room_from n first place (i ∷ rest) ≡ Some (record { first = first; place = place; total = total })
by_total n first place total i rest e = by (run n (i ∷ rest)) refl e
  where
    fits : (t : Bool) (r : ℕ × List Item) → cond t (Some r.0) None ≡ Some total → option_or (cond t (Some (record { first = first; place = place; total = r.0 })) None) (room_from n (suc first) (place + item_words i) rest) ≡ Some (record { first = first; place = place; total = total })
    fits true r e = let same : r.0 ≡ total = cc in ap (λ t. Some (record { first = first; place = place; total = t })) same
    fits false r e = absurd cc

    by : (o : Option (ℕ × List Item)) → run n (i ∷ rest) ≡ o → run_total o ≡ Some total → option_or (room_here first place o) (room_from n (suc first) (place + item_words i) rest) ≡ Some (record { first = first; place = place; total = total })
    by None is e = absurd cc
    by (Some r) is e = fits (nat_le r.0 most_free) r e

by_none : (n first place : ℕ) (i : Item) (rest : List Item) → run_total (run n (i ∷ rest)) ≡ None → room_from n first place (i ∷ rest) ≡ room_from n (suc first) (place + item_words i) rest
by_none n first place i rest e = by (run n (i ∷ rest)) e
  where
    fits : (t : Bool) (r : ℕ × List Item) → cond t (Some r.0) None ≡ None → option_or (cond t (Some (record { first = first; place = place; total = r.0 })) None) (room_from n (suc first) (place + item_words i) rest) ≡ room_from n (suc first) (place + item_words i) rest
    fits true r e = absurd cc
    fits false r e = refl

    by : (o : Option (ℕ × List Item)) → run_total o ≡ None → option_or (room_here first place o) (room_from n (suc first) (place + item_words i) rest) ≡ room_from n (suc first) (place + item_words i) rest
    by None e = refl
    by (Some r) e = fits (nat_le r.0 most_free) r e

pub search_found : (n total : ℕ) (e : ℕ × ℕ) (left : List (ℕ × ℕ)) (is : List Item) → (a : IsAheadAt n e left is) → run_total (run n (space e.1 ∷ a.rest)) ≡ Some total → IsFirstRoom n is (record { place = e.0; first_words = e.1; total = total })
search_found n total e left is a found = record {
  found = record { first = length a.before; place = all_words a.before; total = total };
  first = a.same ∙ by_total n (length a.before) (all_words a.before) total (space e.1) a.rest found;
  place = a.here;
  first_words = sym (ap (λ l. item_words (get_or l (length a.before) (space 0))) a.split ∙ ap item_words (at_end a.before a.rest (space e.1) (space 0)));
  total = refl;
}

pub search_goes_on : (n : ℕ) (e : ℕ × ℕ) (left : List (ℕ × ℕ)) (is : List Item) → (a : IsAheadAt n e left is) → run_total (run n (space e.1 ∷ a.rest)) ≡ None → IsAhead n left is
search_goes_on n e left is a none =
    let words : all_words a.before + e.1 ≡ all_words (a.before ++ space e.1 ∷ []) = let h = all_words-append a.before (space e.1 ∷ []) in omega arith in
    let count : suc (length a.before) ≡ length (a.before ++ space e.1 ∷ []) = let h = length-append a.before (space e.1 ∷ []) in omega arith in
    record {
      before = a.before ++ space e.1 ∷ [];
      rest = a.rest;
      split = a.split ∙ sym (append_assoc a.before (space e.1 ∷ []) a.rest);
      left_are = a.left_are ∙ (λ i. free_slots (words i) a.rest);
      same = a.same ∙ by_none n (length a.before) (all_words a.before) (space e.1) a.rest none ∙ (λ i. room_from n (count i) (words i) a.rest);
    }

none_left : (n first place : ℕ) (is : List Item) → [] ≡ free_slots place is → room_from n first place is ≡ None
none_left n first place [] e = refl
none_left n first place (space k ∷ is) e = absurd cc
none_left n first place (entry f name ∷ is) e = none_left n (suc first) (place + item_words (entry f name)) is e

pub search_ends : (n : ℕ) (is : List Item) → IsAhead n [] is → find_room n is ≡ None
search_ends n is a = a.same ∙ none_left n (length a.before) (all_words a.before) a.rest a.left_are

-- ---- no room is passed over yet
pub all_zero : (from : List ℕ) (n : ℕ) → All (λ x. x ≡ 0) from → get_or from n 0 ≡ 0
all_zero [] n zeros = refl
all_zero (x ∷ from) zero zeros = All-head (λ x. x ≡ 0) x from zeros
all_zero (x ∷ from) (suc n) zeros = all_zero from n (All-tail (λ x. x ≡ 0) x from zeros)

-- where no room is passed over, nothing before the first place is
pub from_first : (n from : ℕ) (is : List Item) → from ≡ 0 → IsPassedOver n from is
from_first n from is zeros = record { before = []; rest = is; split = refl; place = sym zeros; few = λ some. some; apart = inl refl }
