-- Rooms when an entry is placed in the first room for it.
use Rattle.std.proofs.Common.{◌≡◌, ◌⊎◌, ℕ, zero, suc, ◌+◌, ◌-◌, ◌<◌, ◌≤◌, Bool, true, false, cond, nat_le, List, [], ◌∷◌, ◌++◌, length, Option, Some, None, inl, inr, refl, sym, ap, ◌∙◌, subst, append_assoc, append-nil, arith}
use Rattle.std.specs.Prelude.{All}
use Rattle.std.specs.Option.{option_map, option_or}
use Rattle.std.proofs.lemmas.Bool.{cond-true, leb-true}
use Rattle.std.proofs.lemmas.List.Elements.{All-head, All-tail}
use Rattle.pack_model.specs.operations.Rooms.{Room, find_room, largest_run, left_over, most_free, room_from, room_here, run, words_free}
use Rattle.pack_model.specs.reading.Slots.{Item, all_words, item_words}
use Rattle.pack_model.specs.reading.Slots.Item.{space, entry}
use Rattle.dir_slots.proofs.Rooms.{AreShort, none_found}
use Rattle.dir_slots.proofs.Slots.{all_words-append}
use Rattle.scav_pages.specs.laws_record.specs.SlotLaws.{IsSpace}
use Rattle.alto_words.specs.declared.fid.Fid.{Fid}
use Rattle.scav_names.specs.Rooms.{BeginsNamed, IsPassedOver, IsSize}
use Rattle.scav_names.proofs.Keys.{all_right}

-- ---- the first room is the first free slots that have so many words
run_prefix : (n : ℕ) (is js : List Item) (q : ℕ × List Item) → run n is ≡ Some q → run n (is ++ js) ≡ Some (q.0, q.1 ++ js)
run_prefix n [] js q e = absurd cc
run_prefix n (entry f name ∷ is) js q e = absurd cc
run_prefix n (space k ∷ is) js q e = by (nat_le n k) (run (n - k) is) refl (run_prefix (n - k) is js) e
  where
    by : (t : Bool) (s : Option (ℕ × List Item)) → run (n - k) is ≡ s → ((q : ℕ × List Item) → run (n - k) is ≡ Some q → run (n - k) (is ++ js) ≡ Some (q.0, q.1 ++ js)) → cond {A = Option (ℕ × List Item)} t (Some (k, is)) (option_map (λ r. (k + r.0, r.1)) s) ≡ Some q
        → cond {A = Option (ℕ × List Item)} t (Some (k, is ++ js)) (option_map (λ r. (k + r.0, r.1)) (run (n - k) (is ++ js))) ≡ Some (q.0, q.1 ++ js)
    by true s is_s again e = let same : ◌≡◌ {A = ℕ × List Item} (k, is) q = cc in ap (λ x. Some (x.0, x.1 ++ js)) same
    by false None is_s again e = absurd cc
    by false (Some s) is_s again e =
        let same : ◌≡◌ {A = ℕ × List Item} (k + s.0, s.1) q = cc in
        ap (option_map (λ r. (k + r.0, r.1))) (again s is_s) ∙ ap (λ x. Some (x.0, x.1 ++ js)) same

-- a room among the first slots is one among all
record IsFoundBefore (n first place : ℕ) (is : List Item) (most : ℕ) : Type 0 where
  room : Room
  found : room_from n first place is ≡ Some room
  before : room.first < most

here_room : (n first place : ℕ) (i : Item) (is : List Item) (q : ℕ × List Item) → run n (i ∷ is) ≡ Some q → (nat_le q.0 most_free ≡ true) → room_from n first place (i ∷ is) ≡ Some (record { first = first; place = place; total = q.0 })
here_room n first place i is q e short =
    ap (λ r. option_or (room_here first place r) (room_from n (suc first) (place + item_words i) is)) e
    ∙ ap (λ o. option_or o (room_from n (suc first) (place + item_words i) is)) (cond-true _ (Some (record { first = first; place = place; total = q.0 })) None short)

or_later : (a b : Option Room) (most : ℕ) (low : ℕ) → ((r : Room) → a ≡ Some r → r.first ≡ low) → low < most → (r : Room) × (b ≡ Some r) × (r.first < most) → (r : Room) × (option_or a b ≡ Some r) × (r.first < most)
or_later None b most low is h later = later
or_later (Some r) b most low is h later = let same = is r refl in (r, refl, omega arith)

first_here : (n first place : ℕ) (o : Option (ℕ × List Item)) (r : Room) → room_here first place o ≡ Some r → r.first ≡ first
first_here n first place None r e = absurd cc
first_here n first place (Some q) r e = by (nat_le q.0 most_free) e
  where
    by : (t : Bool) → cond t (Some (record { first = first; place = place; total = q.0 })) None ≡ Some r → r.first ≡ first
    by true e = let same : ◌≡◌ {A = Room} (record { first = first; place = place; total = q.0 }) r = cc in sym (ap (λ x. x.first) same)
    by false e = absurd cc

room_prefix : (n first place : ℕ) (is js : List Item) (r : Room) → room_from n first place is ≡ Some r → (r : Room) × (room_from n first place (is ++ js) ≡ Some r) × (r.first < first + length is)
room_prefix n first place [] js r e = absurd cc
room_prefix n first place (i ∷ is) js r e = by (run n (i ∷ is)) refl (room_prefix n (suc first) (place + item_words i) is js r) e
  where
    Later : Type 0
    Later = room_from n (suc first) (place + item_words i) is ≡ Some r → (r : Room) × (room_from n (suc first) (place + item_words i) (is ++ js) ≡ Some r) × (r.first < suc first + length is)

    Now : Type 0
    Now = (r : Room) × (room_from n first place (i ∷ (is ++ js)) ≡ Some r) × (r.first < first + suc (length is))

    later : Later → room_from n (suc first) (place + item_words i) is ≡ Some r → Now
    later again e =
        let rest = again e in
        let less = rest.2 in
        or_later (room_here first place (run n (i ∷ (is ++ js)))) (room_from n (suc first) (place + item_words i) (is ++ js)) (first + suc (length is)) first
        (first_here n first place (run n (i ∷ (is ++ js)))) (omega arith) (rest.0, rest.1, omega arith)

    fits : (t : Bool) (q : ℕ × List Item) → run n (i ∷ is) ≡ Some q → nat_le q.0 most_free ≡ t → Later → option_or (cond t (Some (record { first = first; place = place; total = q.0 })) None) (room_from n (suc first) (place + item_words i) is) ≡ Some r → Now
    fits true q found short again e = (record { first = first; place = place; total = q.0 }, here_room n first place i (is ++ js) (q.0, q.1 ++ js) (run_prefix n (i ∷ is) js q found) short, omega arith)
    fits false q found short again e = later again e

    by : (o : Option (ℕ × List Item)) → run n (i ∷ is) ≡ o → Later → option_or (room_here first place o) (room_from n (suc first) (place + item_words i) is) ≡ Some r → Now
    by None found again e = later again e
    by (Some q) found again e = fits (nat_le q.0 most_free) q found refl again e

pub are_short : (is : List Item) → All IsSize is → AreShort is
are_short [] h = tt
are_short (space n ∷ is) h = ((All-head IsSize (space n) is h).1, are_short is (All-tail IsSize (space n) is h))
are_short (entry f name ∷ is) h = are_short is (All-tail IsSize (entry f name) is h)

pub few_before : (n : ℕ) (before rest : List Item) (r : Room) → 1 ≤ n → n ≤ 26 → All IsSize before → find_room n (before ++ rest) ≡ Some r → r.first ≡ length before → largest_run before < n
few_before n before rest r some most sizes found first = none_found n 0 0 before some most (are_short before sizes) (by (find_room n before) refl)
  where
    by : (o : Option Room) → find_room n before ≡ o → o ≡ None
    by None e = refl
    by (Some x) e =
        let w = room_prefix n 0 0 before rest x e in
        let less = w.2 in
        let same : ◌≡◌ {A = Room} w.0 r = let h : Some w.0 ≡ Some r = sym w.1 ∙ found in cc in
        let index : w.0.first ≡ r.first = ap (λ x. x.first) same in
        absurd (omega arith)

-- it has no more words than one free slot may have
found_short : (n first place : ℕ) (is : List Item) (r : Room) → room_from n first place is ≡ Some r → r.total ≤ 1023
found_short n first place [] r e = absurd cc
found_short n first place (i ∷ is) r e = by (run n (i ∷ is)) (found_short n (suc first) (place + item_words i) is r) e
  where
    fits : (t : Bool) (q : ℕ × List Item) → nat_le q.0 most_free ≡ t → (room_from n (suc first) (place + item_words i) is ≡ Some r → r.total ≤ 1023)
        → option_or (cond t (Some (record { first = first; place = place; total = q.0 })) None) (room_from n (suc first) (place + item_words i) is) ≡ Some r → r.total ≤ 1023
    fits true q short again e =
        let same : ◌≡◌ {A = Room} (record { first = first; place = place; total = q.0 }) r = cc in
        let total : q.0 ≡ r.total = ap (λ x. x.total) same in
        let most = leb-true q.0 most_free short in
        omega arith
    fits false q short again e = again e

    by : (o : Option (ℕ × List Item)) → (room_from n (suc first) (place + item_words i) is ≡ Some r → r.total ≤ 1023) → option_or (room_here first place o) (room_from n (suc first) (place + item_words i) is) ≡ Some r → r.total ≤ 1023
    by None again e = again e
    by (Some q) again e = fits (nat_le q.0 most_free) q refl again e

pub room_short : (n : ℕ) (is : List Item) (r : Room) → find_room n is ≡ Some r → r.total ≤ 1023
room_short n is r e = found_short n 0 0 is r e

-- ---- the free words in a row are no more then
free_of : (row rest : List Item) → All IsSpace row → words_free (row ++ rest) ≡ all_words row + words_free rest
free_of [] rest h = omega arith
free_of (space n ∷ row) rest h = let e = free_of row rest (All-tail IsSpace (space n) row h) in omega arith
free_of (entry f name ∷ row) rest h = absurd (All-head IsSpace (entry f name) row h)

free_first : (is js : List Item) (f : Fid) (name : List ℕ) (ks : List Item) → words_free (is ++ entry f name ∷ ks) ≤ words_free (is ++ js)
free_first [] js f name ks = omega arith
free_first (space n ∷ is) js f name ks = let e = free_first is js f name ks in omega arith
free_first (entry g other ∷ is) js f name ks = omega arith

pub largest_after : (row rest : List Item) → largest_run rest ≤ largest_run (row ++ rest)
largest_after [] rest = omega arith
largest_after (i ∷ row) rest = let e = largest_after row rest in omega arith

free_within : (is : List Item) → words_free is ≤ largest_run is
free_within [] = omega arith
free_within (i ∷ is) = omega arith

largest_left : (left : ℕ) (row is : List Item) → All IsSpace row → left ≤ all_words row → largest_run (left_over left is) ≤ largest_run (row ++ is)
largest_left zero row is h few = largest_after row is
largest_left (suc left) row is h few =
    let a = largest_after row is in
    let b = free_within (row ++ is) in
    let e = free_of row is h in
    omega arith

largest_filled : (before row is : List Item) (f : Fid) (name : List ℕ) (left : ℕ) → All IsSpace row → left ≤ all_words row → largest_run (before ++ entry f name ∷ left_over left is) ≤ largest_run (before ++ (row ++ is))
largest_filled [] row is f name left h few = let e = largest_left left row is h few in omega arith
largest_filled (i ∷ before) row is f name left h few =
    let e = largest_filled before row is f name left h few in
    let d = free_first (i ∷ before) (row ++ is) f name (left_over left is) in
    omega arith

-- ---- what is passed over stays so
-- of two ways to part a list one ends first
record IsLonger (xs ys fs bs : List Item) : Type 0 where
  more : List Item
  first : xs ≡ fs ++ more
  second : bs ≡ more ++ ys

either_longer : (xs ys fs bs : List Item) → xs ++ ys ≡ fs ++ bs → IsLonger xs ys fs bs ⊎ IsLonger fs bs xs ys
either_longer xs ys [] bs e = inl (record { more = xs; first = refl; second = sym e })
either_longer [] ys (a ∷ fs) bs e = inr (record { more = a ∷ fs; first = refl; second = e })
either_longer (x ∷ xs) ys (a ∷ fs) bs e =
    let head : x ≡ a = cc in
    let tail : xs ++ ys ≡ fs ++ bs = cc in
    elim (either_longer xs ys fs bs tail) [
      | inl l ↦ inl (record { more = l.more; first = (λ i. head i ∷ xs) ∙ ap (λ t. a ∷ t) l.first; second = l.second })
      | inr l ↦ inr (record { more = l.more; first = (λ i. sym head i ∷ fs) ∙ ap (λ t. x ∷ t) l.first; second = l.second })
    ]

not_named : (row rest : List Item) → All IsSpace row → 1 ≤ all_words row → BeginsNamed (row ++ rest) → ⊥
not_named [] rest h some named = absurd (omega arith)
not_named (space n ∷ row) rest h some named = named
not_named (entry f name ∷ row) rest h some named = All-head IsSpace (entry f name) row h

named_first : (xs ys zs : List Item) → BeginsNamed (xs ++ ys) → (xs ≡ [] → ⊥) → BeginsNamed (xs ++ zs)
named_first [] ys zs h some = absurd (some refl)
named_first (space n ∷ xs) ys zs h some = h
named_first (entry f name ∷ xs) ys zs h some = h

left_append : (left : ℕ) (is js : List Item) → left_over left (is ++ js) ≡ left_over left is ++ js
left_append zero is js = refl
left_append (suc left) is js = refl

pub left_words : (left : ℕ) (is : List Item) → all_words (left_over left is) ≡ left + all_words is
left_words zero is = omega arith
left_words (suc left) is = refl

-- a room that is filled
pub record IsFilled (a row z : List Item) (f : Fid) (name : List ℕ) (left : ℕ) : Type 0 where
  pub free : All IsSpace row
  pub some : 1 ≤ all_words row
  pub words : item_words (entry f name) + left ≡ all_words row

filled_after : (m from : ℕ) (a row vs rest : List Item) (f : Fid) (name : List ℕ) (left : ℕ) → IsFilled a row (vs ++ rest) f name left → (1 ≤ m → largest_run (a ++ (row ++ vs)) < m)
    → all_words (a ++ (row ++ vs)) ≡ from → BeginsNamed rest → IsPassedOver m from (a ++ entry f name ∷ left_over left (vs ++ rest))
filled_after m from a row vs rest f name left h few here named =
    let less = largest_filled a row vs f name left h.free (let w = h.words in omega arith) in
    let all_was : all_words (a ++ (row ++ vs)) ≡ all_words a + all_words (row ++ vs) = all_words-append a (row ++ vs) in
    let row_was : all_words (row ++ vs) ≡ all_words row + all_words vs = all_words-append row vs in
    let all_now : all_words (a ++ entry f name ∷ left_over left vs) ≡ all_words a + (item_words (entry f name) + all_words (left_over left vs)) = all_words-append a (entry f name ∷ left_over left vs) in
    let left_now = left_words left vs in
    let words = h.words in
    record {
      before = a ++ entry f name ∷ left_over left vs;
      rest = rest;
      split = ap (λ l. a ++ entry f name ∷ l) (left_append left vs rest) ∙ sym (append_assoc a (entry f name ∷ left_over left vs) rest);
      place = omega arith;
      few = λ some. let was = few some in omega arith;
      apart = inr named;
    }

-- what is passed over ends in the room: with its last slot
within : (m from : ℕ) (a row z : List Item) (f : Fid) (name : List ℕ) (left : ℕ) → IsFilled a row z f name left → (p : IsPassedOver m from (a ++ (row ++ z))) → BeginsNamed p.rest
    → (first more : List Item) → p.before ≡ a ++ first → row ≡ first ++ more → p.rest ≡ more ++ z → IsPassedOver m from (a ++ entry f name ∷ left_over left z)
within m from a row z f name left h p named first [] before split rest =
    let whole : p.before ≡ a ++ (row ++ []) = before ∙ ap (λ x. a ++ x) (sym (append-nil first) ∙ sym split ∙ sym (append-nil row)) in
    filled_after m from a row [] z f name left (record { free = h.free; some = h.some; words = h.words }) (λ some. subst (λ x. largest_run x < m) whole (p.few some)) (sym (ap all_words whole) ∙ p.place) (subst BeginsNamed rest named)
within m from a row z f name left h p named first (space n ∷ more) before split rest = absurd (subst BeginsNamed rest named)
within m from a row z f name left h p named first (entry g other ∷ more) before split rest = absurd (All-head IsSpace (entry g other) more (all_right IsSpace first (entry g other ∷ more) (subst (All IsSpace) split h.free)))

named_rest : (m from : ℕ) (a row z : List Item) (f : Fid) (name : List ℕ) (left : ℕ) → IsFilled a row z f name left → (p : IsPassedOver m from (a ++ (row ++ z))) → BeginsNamed p.rest → IsPassedOver m from (a ++ entry f name ∷ left_over left z)
named_rest m from a row z f name left h p named = elim (either_longer p.before p.rest a (row ++ z) (sym p.split)) [
  | inr l ↦
      let some : l.more ≡ [] → ⊥ = λ none. not_named row z h.free h.some (subst BeginsNamed (l.second ∙ ap (λ x. x ++ (row ++ z)) none) named) in
      let first : BeginsNamed (l.more ++ entry f name ∷ left_over left z) = named_first l.more (row ++ z) (entry f name ∷ left_over left z) (subst BeginsNamed l.second named) some in
      record {
        before = p.before;
        rest = l.more ++ entry f name ∷ left_over left z;
        split = ap (λ x. x ++ entry f name ∷ left_over left z) l.first ∙ append_assoc p.before l.more (entry f name ∷ left_over left z);
        place = p.place;
        few = p.few;
        apart = inr first;
      }
  | inl l ↦ elim (either_longer l.more p.rest row z (sym l.second)) [
    | inl v ↦
        let whole : p.before ≡ a ++ (row ++ v.more) = l.first ∙ ap (λ x. a ++ x) v.first in
        subst (λ x. IsPassedOver m from (a ++ entry f name ∷ left_over left x)) (sym v.second)
        (filled_after m from a row v.more p.rest f name left (record { free = h.free; some = h.some; words = h.words })
        (λ some. subst (λ x. largest_run x < m) whole (p.few some)) (sym (ap all_words whole) ∙ p.place) named)
    | inr v ↦ within m from a row z f name left h p named l.more v.more l.first v.first v.second
  ]
]

pub passed_filled : (m from : ℕ) (a row z : List Item) (f : Fid) (name : List ℕ) (left : ℕ) → IsFilled a row z f name left → IsPassedOver m from (a ++ (row ++ z)) → IsPassedOver m from (a ++ entry f name ∷ left_over left z)
passed_filled m from a row z f name left h p = elim p.apart [
  | inr named ↦ named_rest m from a row z f name left h p named
  | inl none ↦ record {
    before = [];
    rest = a ++ entry f name ∷ left_over left z;
    split = refl;
    place = sym (ap all_words none) ∙ p.place;
    few = λ some. some;
    apart = inl refl;
  }
]
