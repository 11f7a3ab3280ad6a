-- Entries are placed in turn, each after a page more where there is no room for it.
use Rattle.std.proofs.Common.{◌≡◌, ℕ, suc, ◌+◌, ◌-◌, ◌*◌, ◌<◌, ◌≤◌, Bool, true, false, cond, nat_le, List, [], ◌∷◌, ◌++◌, length, map, drop, get_or, Option, Some, None, refl, sym, ap, ◌∙◌, drop-cons, zero-add, arith}
use Rattle.std.specs.Prelude.{All}
use Rattle.std.specs.Option.{is_none, option_map, option_or, unwrap_or}
use Rattle.std.proofs.lemmas.Bool.{leb-true}
use Rattle.std.proofs.lemmas.List.{drop_all}
use Rattle.std.proofs.lemmas.List.Elements.{All-append, All-cons, All-nil}
use Rattle.alto_words.specs.declared.fid.Fid.{Fid}
use Rattle.pack_model.specs.operations.Rooms.{Room, find_room, items_entered, left_over, most_free, placed, room_from, room_here, run}
use Rattle.pack_model.specs.reading.Slots.{Item, all_words, item_words}
use Rattle.pack_model.specs.reading.Slots.Item.{space, entry}
use Rattle.pack_model.specs.scavenger.Mended.{on_room, widens, with_page}
use Rattle.dir_slots.proofs.Rooms.{none_found}
use Rattle.dir_slots.proofs.Slots.{all_words-append}
use Rattle.scav_pages.specs.laws_record.specs.SlotLaws.{IsPlacedIn}
use Rattle.scav_pages.specs.laws_record.proofs.slots.Laws.{found_is_placed}
use Rattle.scav_names.specs.declared.living.Living.{Living}
use Rattle.scav_names.specs.Lacking.{entry_for}
use Rattle.scav_names.specs.declared.rooms.Rooms.{Rooms}
use Rattle.scav_names.specs.Rooms.{HasRooms, IsSize, PlacesEntry}
use Rattle.scav_names.proofs.Filling.{are_short, largest_after, left_words}

-- ---- a room has the words that are looked for
run_reaches : (n : ℕ) (is : List Item) (q : ℕ × List Item) → run n is ≡ Some q → n ≤ q.0
run_reaches n [] q e = absurd cc
run_reaches n (entry f name ∷ is) q e = absurd cc
run_reaches n (space k ∷ is) q e = by (nat_le n k) (run (n - k) is) refl refl (run_reaches (n - k) is) e
  where
    by : (t : Bool) (s : Option (ℕ × List Item)) → nat_le n k ≡ t → run (n - k) is ≡ s → ((q : ℕ × List Item) → run (n - k) is ≡ Some q → n - k ≤ q.0)
        → cond {A = Option (ℕ × List Item)} t (Some (k, is)) (option_map (λ r. (k + r.0, r.1)) s) ≡ Some q → n ≤ q.0
    by true s is_t is_s again e =
        let same : ◌≡◌ {A = ℕ × List Item} (k, is) q = cc in
        let words : k ≡ q.0 = ap (λ x. x.0) same in
        let h = leb-true n k is_t in
        omega arith
    by false None is_t is_s again e = absurd cc
    by false (Some s) is_t is_s again e =
        let same : ◌≡◌ {A = ℕ × List Item} (k + s.0, s.1) q = cc in
        let words : k + s.0 ≡ q.0 = ap (λ x. x.0) same in
        let h = again s is_s in
        omega arith

found_reaches : (n first place : ℕ) (is : List Item) (r : Room) → room_from n first place is ≡ Some r → n ≤ r.total
found_reaches n first place [] r e = absurd cc
found_reaches n first place (i ∷ is) r e = by (run n (i ∷ is)) refl (found_reaches n (suc first) (place + item_words i) is r) e
  where
    fits : (t : Bool) (q : ℕ × List Item) → run n (i ∷ is) ≡ Some q → (room_from n (suc first) (place + item_words i) is ≡ Some r → n ≤ r.total)
        → option_or (cond t (Some (record { first = first; place = place; total = q.0 })) None) (room_from n (suc first) (place + item_words i) is) ≡ Some r → n ≤ r.total
    fits true q found again e =
        let same : ◌≡◌ {A = Room} (record { first = first; place = place; total = q.0 }) r = cc in
        let total : q.0 ≡ r.total = ap (λ x. x.total) same in
        let most = run_reaches n (i ∷ is) q found in
        omega arith
    fits false q found again e = again e

    by : (o : Option (ℕ × List Item)) → run n (i ∷ is) ≡ o → (room_from n (suc first) (place + item_words i) is ≡ Some r → n ≤ r.total) → option_or (room_here first place o) (room_from n (suc first) (place + item_words i) is) ≡ Some r → n ≤ r.total
    by None found again e = again e
    by (Some q) found again e = fits (nat_le q.0 most_free) q found again e

-- ---- an entry that is placed leaves the words of all slots as many
placed_words : (i : Item) (is js : List Item) (r : Room) → item_words i ≤ r.total → IsPlacedIn r i is js → all_words js ≡ all_words is
placed_words i is js r fits p =
    let left : ℕ = r.total - item_words i in
    let old : all_words is ≡ all_words p.before + all_words (p.free ++ p.behind) = ap all_words p.old_are ∙ all_words-append p.before (p.free ++ p.behind) in
    let rest : all_words (p.free ++ p.behind) ≡ all_words p.free + all_words p.behind = all_words-append p.free p.behind in
    let new : all_words js ≡ all_words p.before + (item_words i + all_words (left_over left p.behind)) = ap all_words p.new_are ∙ all_words-append p.before (i ∷ left_over left p.behind) in
    let over = left_words left p.behind in
    let total = p.total in
    omega arith

pub entered_words : (i : Item) (is : List Item) → all_words (items_entered i is) ≡ all_words is
entered_words i is = by (placed i is) refl (find_room (item_words i) is) refl
  where
    by : (o : Option (List Item)) → placed i is ≡ o → (r : Option Room) → find_room (item_words i) is ≡ r → all_words (unwrap_or o is) ≡ all_words is
    by None e r found = refl
    by (Some js) e None found = absurd (let h : Some js ≡ None = sym e ∙ (found_is_placed i is).neither.0 found in cc)
    by (Some js) e (Some r) found = placed_words i is js r (found_reaches (item_words i) 0 0 is r found) ((found_is_placed i is).both r js found e)

-- ---- whether there is room
pub is_placed : (i : Item) (is : List Item) (n : ℕ) (r : Room) → item_words i ≡ n → find_room n is ≡ Some r → is_none (placed i is) ≡ false
is_placed i is n r size found = by (placed i is) refl
  where
    by : (o : Option (List Item)) → placed i is ≡ o → is_none o ≡ false
    by None e = absurd (let h : Some r ≡ None = sym (ap (λ w. find_room w is) size ∙ found) ∙ (found_is_placed i is).neither.1 e in cc)
    by (Some js) e = refl

pub not_placed : (i : Item) (is : List Item) (n : ℕ) → item_words i ≡ n → find_room n is ≡ None → is_none (placed i is) ≡ true
not_placed i is n size none = ap is_none ((found_is_placed i is).neither.0 (ap (λ w. find_room w is) size ∙ none))

-- a page more has room for each entry
pub page_has_room : (n : ℕ) (is : List Item) → 1 ≤ n → n ≤ 26 → All IsSize is → find_room n (with_page is) ≡ None → ⊥
page_has_room n is some most sizes none =
    let size : IsSize (space 256) = (omega arith, omega arith) in
    let all : All IsSize (with_page is) = All-append IsSize is (space 256 ∷ []) sizes (All-cons IsSize (space 256) [] size (All-nil IsSize)) in
    let few = none_found n 0 0 (with_page is) some most (are_short (with_page is) all) none in
    let page = largest_after is (space 256 ∷ []) in
    omega arith

-- ---- all of them in turn
pub widens_at : (is : List Item) (f : Fid) (name : List ℕ) (es : List (Fid × List ℕ)) → is_none (placed (entry f name) is) ≡ false → widens is ((f, name) ∷ es) ≡ widens (items_entered (entry f name) is) es
unfolding widens
widens_at is f name es some = by (placed (entry f name) is) some
  where
    by : (o : Option (List Item)) → is_none o ≡ false → on_room o (λ js. widens js es) (suc (on_room (placed (entry f name) (with_page is)) (λ js. widens js es) 0)) ≡ widens (unwrap_or o is) es
    by None e = absurd cc
    by (Some js) e = refl

pub widens_more : (is : List Item) (f : Fid) (name : List ℕ) (es : List (Fid × List ℕ)) → is_none (placed (entry f name) is) ≡ true → is_none (placed (entry f name) (with_page is)) ≡ false
    → widens is ((f, name) ∷ es) ≡ suc (widens (items_entered (entry f name) (with_page is)) es)
unfolding widens
widens_more is f name es none some = by (placed (entry f name) is) (placed (entry f name) (with_page is)) none some
  where
    by : (o q : Option (List Item)) → is_none o ≡ true → is_none q ≡ false → on_room o (λ js. widens js es) (suc (on_room q (λ js. widens js es) 0)) ≡ suc (widens (unwrap_or q (with_page is)) es)
    by (Some js) q none some = absurd cc
    by None None none some = absurd cc
    by None (Some js) none some = refl

-- So many were placed: these are the slots now, and so many pages came to be more.
pub record IsPlacing (rooms : Rooms) (files : List Living) (i more : ℕ) (is : List Item) : Type 0 where
  pub slots : List Item
  pub rooms_are : HasRooms rooms slots
  pub few : all_words slots + 256 * (length files - i) < 4294967296
  pub sum : more + widens slots (map entry_for (drop i files)) ≡ widens is (map entry_for files)
  pub most : more ≤ i

pub none_placed_yet : (rooms : Rooms) (files : List Living) (is : List Item) → HasRooms rooms is → all_words is + 256 * length files < 4294967296 → IsPlacing rooms files 0 0 is
none_placed_yet rooms files is has few = record { slots = is; rooms_are = has; few = omega arith; sum = zero-add (widens is (map entry_for files)); most = omega arith }

with_words : (b : Bool) (is : List Item) → all_words (cond b (with_page is) is) ≤ all_words is + 256
with_words false is = omega arith
with_words true is = let e = all_words-append is (space 256 ∷ []) in omega arith

counted : (b : Bool) (more : ℕ) (is : List Item) (f : Fid) (name : List ℕ) (es : List (Fid × List ℕ)) → b ≡ is_none (placed (entry f name) is) → is_none (placed (entry f name) (cond b (with_page is) is)) ≡ false
    → cond b (more + 1) more + widens (items_entered (entry f name) (cond b (with_page is) is)) es ≡ more + widens is ((f, name) ∷ es)
counted false more is f name es e some = ap (λ n. more + n) (sym (widens_at is f name es some))
counted true more is f name es e some = let h = widens_more is f name es (sym e) some in omega arith

pub placed_more : (rooms new : Rooms) (files : List Living) (i more : ℕ) (b : Bool) (x : Living) (is : List Item) (p : IsPlacing rooms files i more is) → i < length files → x ≡ get_or files i x
    → PlacesEntry x.fid x.name p.slots new b → IsPlacing new files (i + 1) (cond b (more + 1) more) is
placed_more rooms new files i more b x is p within here h =
    let next : suc i ≡ i + 1 = omega arith in
    let head : drop i files ≡ x ∷ drop (i + 1) files = drop-cons files i x within ∙ ap (λ y. y ∷ drop (suc i) files) (sym here) ∙ ap (λ k. x ∷ drop k files) next in
    let same = entered_words (entry x.fid x.name) (cond b (with_page p.slots) p.slots) in
    let wide = with_words b p.slots in
    let few = p.few in
    let most = p.most in
    record {
      slots = items_entered (entry x.fid x.name) (cond b (with_page p.slots) p.slots);
      rooms_are = h.rooms_are;
      few = omega arith;
      sum = counted b more p.slots x.fid x.name (map entry_for (drop (i + 1) files)) h.widens h.finds ∙ ap (λ l. more + widens p.slots (map entry_for l)) (sym head) ∙ p.sum;
      most = by b most;
    }
  where
    by : (b : Bool) → more ≤ i → cond b (more + 1) more ≤ i + 1
    by true h = omega arith
    by false h = omega arith

pub all_placed : (rooms : Rooms) (files : List Living) (i more : ℕ) (is : List Item) → length files ≤ i → IsPlacing rooms files i more is → more ≡ widens is (map entry_for files)
unfolding widens
all_placed rooms files i more is done p =
    let none : drop i files ≡ [] = drop_all i files done in
    let zero : more + 0 ≡ more = omega arith in
    sym zero ∙ sym (ap (λ l. more + widens p.slots (map entry_for l)) none) ∙ p.sum
