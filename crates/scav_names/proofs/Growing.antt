-- Rooms when a slot comes after all others, and when an entry becomes a free slot.
use Rattle.std.proofs.Common.{◌≡◌, ℕ, min, ◌+◌, ◌<◌, ◌≤◌, ◌==◌, Bool, true, false, cond, List, [], ◌∷◌, ◌++◌, length, get_or, Some, inl, inr, refl, sym, ap, ◌∙◌, subst, append_assoc, append-nil, arith}
use Rattle.std.specs.Prelude.{All}
use Rattle.std.specs.BTreeMap.{insert_entry}
use Rattle.std.specs.Ordering.{nat_cmp}
use Rattle.std.proofs.lemmas.Bool.{eq-eqb, eqb-true, ne_eqb}
use Rattle.std.proofs.lemmas.List.Elements.{All-append, All-cons, All-head, All-nil, All-tail, All-weaker}
use Rattle.pack_model.specs.reading.Slots.{Item, all_words, item_words}
use Rattle.pack_model.specs.reading.Slots.Item.{space, entry}
use Rattle.dir_slots.specs.declared.slot.Slot.{Slot}
use Rattle.dir_slots.specs.declared.slot.Slot.TheVariants.{Free, Entry}
use Rattle.dir_slots.specs.Items.{HasFreeLength, item_of}
use Rattle.dir_slots.proofs.Slots.{all_words-append}
use Rattle.scav_names.specs.declared.rooms.Rooms.{Rooms}
use Rattle.scav_names.specs.Rooms.{BeginsNamed, HasRooms, HasSlots, IsPassedOver, IsSize, free_slots, freed_at, freed_from, words_from}
use Rattle.scav_names.proofs.Finding.{all_zero, from_first}
use Rattle.scav_names.proofs.FreeSlots.{free_above, free_append, free_below, one_first}
use Rattle.scav_names.proofs.Keys.{AreAbove, AreBelow, all_left, all_right, insert_between, insert_same}

-- ---- a slot more
begins_on : (xs ys : List Item) → BeginsNamed xs → BeginsNamed (xs ++ ys)
begins_on [] ys h = absurd h
begins_on (space n ∷ xs) ys h = h
begins_on (entry f name ∷ xs) ys h = h

passed_on : (n from : ℕ) (is js : List Item) → IsPassedOver n from is → IsPassedOver n from (is ++ js)
passed_on n from is js h = record {
  before = h.before;
  rest = h.rest ++ js;
  split = ap (λ l. l ++ js) h.split ∙ append_assoc h.before h.rest js;
  place = h.place;
  few = h.few;
  apart = elim h.apart [ inl none ↦ inl none | inr named ↦ inr (begins_on h.rest js named) ];
}

rooms_pushed : (rooms new : Rooms) (i : Item) (is : List Item) → HasRooms rooms is → IsSize i → all_words is + item_words i < 4294967296
    → new.free.entries ≡ free_slots 0 (is ++ i ∷ []) → new.end ≡ all_words is + item_words i → new.from ≡ rooms.from → HasRooms new (is ++ i ∷ [])
rooms_pushed rooms new i is h size few free end from =
    let all : all_words (is ++ i ∷ []) ≡ all_words is + (item_words i + 0) = all_words-append is (i ∷ []) in
    record {
      free = free;
      end_is = omega arith;
      few = omega arith;
      sizes = All-append IsSize is (i ∷ []) h.sizes (All-cons IsSize i [] size (All-nil IsSize));
      lengths = ap length from ∙ h.lengths;
      passed = λ n most. subst (λ x. IsPassedOver n (get_or x n 0) (is ++ i ∷ [])) (sym from) (passed_on n (get_or rooms.from n 0) is (i ∷ []) (h.passed n most));
    }

-- the map with a free slot more
free_pushed : (rooms : Rooms) (k : ℕ) (is : List Item) → HasRooms rooms is → insert_entry nat_cmp rooms.free.entries rooms.end k ≡ free_slots 0 (is ++ space k ∷ [])
free_pushed rooms k is h =
    let end = h.end_is in
    let start : 0 + all_words is ≡ all_words is = omega arith in
    let below = free_below 0 (all_words is) is h.sizes (omega arith) in
    ap (λ e. insert_entry nat_cmp rooms.free.entries e k) end
    ∙ ap (λ es. insert_entry nat_cmp es (all_words is) k) (h.free ∙ sym (append-nil (free_slots 0 is)))
    ∙ insert_between (free_slots 0 is) [] (all_words is) k below (All-nil (λ (e : ℕ × ℕ). all_words is < e.0))
    ∙ sym (free_append 0 is (space k ∷ []) ∙ ap (λ p. free_slots 0 is ++ (p, k) ∷ []) start)

named_pushed : (rooms : Rooms) (i : Item) (is : List Item) → HasRooms rooms is → ((place : ℕ) → free_slots place (i ∷ []) ≡ []) → rooms.free.entries ≡ free_slots 0 (is ++ i ∷ [])
named_pushed rooms i is h none = h.free ∙ sym (free_append 0 is (i ∷ []) ∙ ap (λ l. free_slots 0 is ++ l) (none (0 + all_words is)) ∙ append-nil (free_slots 0 is))

has_size : (s : Slot) → HasFreeLength s → IsSize (item_of s)
has_size (Free n) h = h
has_size (Entry f a name) h = tt

-- what is the same of the rooms before the words of the new slot are counted
pub record IsBetween (rooms mid : Rooms) (slot : Slot) (end : ℕ) : Type 0 where
  pub end_is : mid.end ≡ rooms.end
  pub from : mid.from ≡ rooms.from
  pub then : end ≡ min (mid.end + item_words (item_of slot)) 4294967295

pub slot_pushed : (rooms mid : Rooms) (slot : Slot) (end : ℕ) (is : List Item) → HasRooms rooms is → HasFreeLength slot → all_words is + item_words (item_of slot) < 4294967296
    → mid.free.entries ≡ free_slots 0 (is ++ item_of slot ∷ []) → IsBetween rooms mid slot end → HasRooms (record { free = mid.free; end = end; from = mid.from }) (is ++ item_of slot ∷ [])
slot_pushed rooms mid slot end is h size few free b =
    let same = b.end_is in
    let was = h.end_is in
    let then = b.then in
    rooms_pushed rooms (record { free = mid.free; end = end; from = mid.from }) (item_of slot) is h (has_size slot size) few free (omega arith) b.from

pub free_slot_pushed : (rooms mid : Rooms) (slot : Slot) (k : ℕ) (is : List Item) → HasRooms rooms is → slot ≡ Free k → mid.free.entries ≡ insert_entry nat_cmp rooms.free.entries rooms.end k → mid.free.entries ≡ free_slots 0 (is ++ item_of slot ∷ [])
free_slot_pushed rooms mid slot k is h e entries = entries ∙ free_pushed rooms k is h ∙ ap (λ s. free_slots 0 (is ++ item_of s ∷ [])) (sym e)

pub entry_pushed : (rooms mid : Rooms) (slot : Slot) (is : List Item) → HasRooms rooms is → ((k : ℕ) → slot ≡ Free k → ⊥) → mid.free.entries ≡ rooms.free.entries → mid.free.entries ≡ free_slots 0 (is ++ item_of slot ∷ [])
entry_pushed rooms mid (Free k) is h apart entries = absurd (apart k refl)
entry_pushed rooms mid (Entry f a name) is h apart entries = entries ∙ named_pushed rooms (entry f name) is h (λ place. refl)

pub slots_pushed : (rooms new : Rooms) (is js : List Item) → HasSlots rooms is → new.from ≡ rooms.from → HasRooms new js → HasSlots new js
slots_pushed rooms new is js h from r = record { rooms_are = r; none_placed = subst (All (λ x. x ≡ 0)) (sym from) h.none_placed }

-- ---- an entry becomes a free slot
-- a slot has a word
abbrev pub HasWords : Item → Type 0
HasWords i = 1 ≤ item_words i

some_words : (i : Item) → IsSize i → 1 ≤ item_words i
some_words (space n) h = h.0
some_words (entry f name) h = omega arith

pub have_words : (is : List Item) → All IsSize is → All HasWords is
have_words is h = All-weaker IsSize HasWords some_words is h

freed_after : (at place n : ℕ) (is : List Item) → All HasWords is → place < at → freed_from at place n is ≡ is
freed_after at place n [] sizes past = refl
freed_after at place n (i ∷ is) sizes past =
    ap (λ b. cond b (space n) i ∷ freed_from (at + item_words i) place n is) (ne_eqb at place (λ e. omega arith))
    ∙ ap (λ l. i ∷ l) (freed_after (at + item_words i) place n is (All-tail HasWords i is sizes) (omega arith))

-- the slots around it
record IsAround (at place n : ℕ) (is : List Item) : Type 0 where
  before : List Item
  i : Item
  after : List Item
  split : is ≡ before ++ i ∷ after
  here : place ≡ at + all_words before
  words : item_words i ≡ n

around_at : (at place n : ℕ) (is : List Item) → words_from at place is ≡ Some n → IsAround at place n is
around_at at place n [] e = absurd cc
around_at at place n (i ∷ is) e = by (at == place) refl e (around_at (at + item_words i) place n is)
  where
    by : (b : Bool) → (at == place) ≡ b → cond b (Some (item_words i)) (words_from (at + item_words i) place is) ≡ Some n → (words_from (at + item_words i) place is ≡ Some n → IsAround (at + item_words i) place n is) → IsAround at place n (i ∷ is)
    by true is_here e again =
        let same = eqb-true at place is_here in
        let w : item_words i ≡ n = cc in
        record { before = []; i = i; after = is; split = refl; here = omega arith; words = w }
    by false apart e again =
        let a = again e in
        let here = a.here in
        record { before = i ∷ a.before; i = a.i; after = a.after; split = ap (λ l. i ∷ l) a.split; here = omega arith; words = a.words }

pub freed_is : (at place n : ℕ) (before after : List Item) (j : Item) → All HasWords (before ++ j ∷ after) → place ≡ at + all_words before → freed_from at place n (before ++ j ∷ after) ≡ before ++ space n ∷ after
freed_is at place n [] after j sizes here =
    let some = All-head HasWords j after sizes in
    ap (λ b. cond b (space n) j ∷ freed_from (at + item_words j) place n after) (eq-eqb at place (omega arith))
    ∙ ap (λ l. space n ∷ l) (freed_after (at + item_words j) place n after (All-tail HasWords j after sizes) (omega arith))
freed_is at place n (i ∷ before) after j sizes here =
    let some = All-head HasWords i (before ++ j ∷ after) sizes in
    ap (λ b. cond b (space n) i ∷ freed_from (at + item_words i) place n (before ++ j ∷ after)) (ne_eqb at place (λ e. omega arith))
    ∙ ap (λ l. i ∷ l) (freed_is (at + item_words i) place n before after j (All-tail HasWords i (before ++ j ∷ after) sizes) (omega arith))

-- in the map a free slot comes, or stays as it is
free_put : (place n : ℕ) (i : Item) (xs ys : List (ℕ × ℕ)) → AreBelow place xs → AreAbove place ys → item_words i ≡ n → insert_entry nat_cmp (xs ++ (free_slots place (i ∷ []) ++ ys)) place n ≡ xs ++ (place, n) ∷ ys
free_put place n (space k) xs ys below above e = insert_same xs ys place k n below
free_put place n (entry f name) xs ys below above e = insert_between xs ys place n below above

pub slots_freed : (rooms new : Rooms) (place n : ℕ) (is : List Item) → HasSlots rooms is → words_from 0 place is ≡ Some n → n ≤ 1023
    → new.free.entries ≡ insert_entry nat_cmp rooms.free.entries place n → new.end ≡ rooms.end → new.from ≡ rooms.from → HasSlots new (freed_at place n is)
slots_freed rooms new place n is h found most entries end from =
    let has = h.rooms_are in
    let e = around_at 0 place n is found in
    let i : Item = e.i in
    let now : List Item = e.before ++ space n ∷ e.after in
    let was : List Item = e.before ++ i ∷ e.after in
    let sizes : All IsSize was = subst (All IsSize) e.split has.sizes in
    let before = all_left IsSize e.before (i ∷ e.after) sizes in
    let after = All-tail IsSize i e.after (all_right IsSize e.before (i ∷ e.after) sizes) in
    let here = e.here in
    let size = e.words in
    let all_was : all_words was ≡ all_words e.before + (item_words i + all_words e.after) = all_words-append e.before (i ∷ e.after) in
    let all_now : all_words now ≡ all_words e.before + (n + all_words e.after) = all_words-append e.before (space n ∷ e.after) in
    let same : all_words is ≡ all_words was = ap all_words e.split in
    let start : 0 + all_words e.before ≡ place = omega arith in
    let words : place + item_words i ≡ place + n = omega arith in
    let slots_was : free_slots 0 was ≡ free_slots 0 e.before ++ (free_slots place (i ∷ []) ++ free_slots (place + n) e.after) =
    free_append 0 e.before (i ∷ e.after) ∙ ap (λ p. free_slots 0 e.before ++ free_slots p (i ∷ e.after)) start ∙ ap (λ l. free_slots 0 e.before ++ l) (one_first place i e.after) ∙ ap (λ p. free_slots 0 e.before ++ (free_slots place (i ∷ []) ++ free_slots p e.after)) words in
    let slots_now : free_slots 0 now ≡ free_slots 0 e.before ++ (place, n) ∷ free_slots (place + n) e.after = free_append 0 e.before (space n ∷ e.after) ∙ ap (λ p. free_slots 0 e.before ++ (p, n) ∷ free_slots (p + n) e.after) start in
    let freed : freed_at place n is ≡ now = ap (freed_from 0 place n) e.split ∙ freed_is 0 place n e.before e.after i (have_words was sizes) (omega arith) in
    let some = some_words i (All-head IsSize i e.after (all_right IsSize e.before (i ∷ e.after) sizes)) in
    let least : 1 ≤ n = omega arith in
    let end_was = has.end_is in
    let few = has.few in
    let zeros : All (λ x. x ≡ 0) new.from = subst (All (λ x. x ≡ 0)) (sym from) h.none_placed in
    subst (HasSlots new) (sym freed) (record {
      rooms_are = record {
        free = entries ∙ ap (λ es. insert_entry nat_cmp es place n) (has.free ∙ ap (free_slots 0) e.split ∙ slots_was)
            ∙ free_put place n i (free_slots 0 e.before) (free_slots (place + n) e.after) (free_below 0 place e.before before (omega arith)) (free_above place (place + n) e.after (omega arith)) size
            ∙ sym slots_now;
        end_is = omega arith;
        few = omega arith;
        sizes = All-append IsSize e.before (space n ∷ e.after) before (All-cons IsSize (space n) e.after (least, most) after);
        lengths = ap length from ∙ has.lengths;
        passed = λ m _. from_first m (get_or new.from m 0) now (all_zero new.from m zeros);
      };
      none_placed = zeros;
    })

-- ---- the words of other slots stay
pub freed_words : (at place n : ℕ) (q : ℕ) (is : List Item) → words_from at place is ≡ Some n → All HasWords is → words_from at q (freed_from at place n is) ≡ words_from at q is
freed_words at place n q [] e sizes = absurd cc
freed_words at place n q (i ∷ is) e sizes = by (at == place) refl e (λ f. freed_words (at + item_words i) place n q is f (All-tail HasWords i is sizes))
  where
    some : 1 ≤ item_words i
    some = All-head HasWords i is sizes

    by : (b : Bool) → (at == place) ≡ b → cond b (Some (item_words i)) (words_from (at + item_words i) place is) ≡ Some n
        → (words_from (at + item_words i) place is ≡ Some n → words_from (at + item_words i) q (freed_from (at + item_words i) place n is) ≡ words_from (at + item_words i) q is)
        → words_from at q (cond b (space n) i ∷ freed_from (at + item_words i) place n is) ≡ words_from at q (i ∷ is)
    by true is_here e again =
        let same = eqb-true at place is_here in
        let w : item_words i ≡ n = cc in
        let least = some in
        let rest : freed_from (at + item_words i) place n is ≡ is = freed_after (at + item_words i) place n is (All-tail HasWords i is sizes) (omega arith) in
        ap (λ m. cond (at == q) (Some m) (words_from (at + m) q (freed_from (at + item_words i) place n is))) (sym w) ∙ ap (λ l. cond (at == q) (Some (item_words i)) (words_from (at + item_words i) q l)) rest
    by false apart e again = ap (cond (at == q) (Some (item_words i))) (again e)
