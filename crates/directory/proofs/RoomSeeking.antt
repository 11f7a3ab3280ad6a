-- The room for a new entry, once all slots of a directory are met.
use Rattle.std.proofs.Common.{◌≡◌, ℕ, ◌+◌, ◌<◌, List, [], ◌∷◌, ◌++◌, length, None, Option, Some, IfNone, IfSome, refl, sym, ◌∙◌, ap, subst, arith, append_assoc}
use Rattle.std.specs.List.{FoldsTo}
use Rattle.std.specs.Option.{option_map}
use Rattle.std.specs.Prelude.{get_or}
use Rattle.std.proofs.lemmas.List.{append-nil, get_or-append-add, get_or_append_left}
use Rattle.alto_words.specs.declared.fid.Fid.{Fid}
use Rattle.dir_slots.proofs.Rooms.{room_from-none}
use Rattle.dir_slots.proofs.Slots.{all_words-append}
use Rattle.dir_slots.specs.Inside.{AreFree}
use Rattle.file_pages.specs.laws_midway.proofs.rooms.Laws.{found_room_stays, room_goes_on}
use Rattle.file_pages.specs.laws_midway.specs.RoomLaws.{EndsWithEntry, RowBegins}
use Rattle.pack_model.specs.operations.Rooms.{find_room, room_from}
use Rattle.pack_model.specs.reading.SlotWords.{SlotAt, address_at, slots_at}
use Rattle.pack_model.specs.reading.Slots.Item.{entry, space}
use Rattle.pack_model.specs.reading.Slots.{Item, all_words, item_words}
use Rattle.directory.specs.declared.place.RoomFound.{RoomFound}
use Rattle.directory.specs.declared.placing.Seeking.{Seeking}
use Rattle.directory.specs.FoundRooms.{EndsHere, SeeksBy, SeeksIn}
use Rattle.directory.specs.FreeRows.{RowOf}
use Rattle.directory.specs.Places.{IsRoomAmong}
use Rattle.directory.specs.Seeking.{MeetsRoom}
use Rattle.directory.proofs.FreeRows.{further, room_further, words_push}
use Rattle.directory.proofs.RoomSizes.{room_sized}

-- ---- a part of a visitor
pub fold_part : {U V X : Type 0} (R : U → X → U → Type 0) (S : V → X → V → Type 0) (f : U → V) → ((u : U) (x : X) (v : U) → R u x v → S (f u) x (f v)) → (xs : List X) (u v : U) → FoldsTo R u xs v → FoldsTo S (f u) xs (f v)
fold_part R S f each [] u v h = ap f h
fold_part R S f each (x ∷ xs) u v h = (f h.0, each u x h.0 h.1, fold_part R S f each xs h.0 v h.2)

-- ---- the slots met so far
-- no room is among them, and these free ones are at their end
pub record IsSought (n : ℕ) (is row : List Item) : Type 0 where
  pub before : List Item
  pub split : is ≡ before ++ row
  pub begins : RowBegins before
  pub none : find_room n is ≡ None

pub record HasRoom (n : ℕ) (is : List Item) (u : Seeking) : Type 0 where
  pub needed : u.row.needed ≡ n
  pub found : IfSome u.room (IsRoomAmong n is)
  pub sought : IfNone u.room (IsSought n is u.row.items)

-- ---- a room that was found
among_more : (n : ℕ) (is more : List Item) (r : RoomFound) → IsRoomAmong n is r → IsRoomAmong n (is ++ more) r
among_more n is more r h =
    let within = (room_sized n 0 0 is h.room h.is).first in
    record {
      room = h.room;
      is = found_room_stays n is more h.room h.is;
      place = h.place;
      total = h.total;
      first = h.first ∙ ap item_words (sym (get_or_append_left is more (space 0) h.room.first (omega (arith, within))));
    }

-- ---- an entry more
ends_with : (i : Item) (is : List Item) (f : Fid) (name : List ℕ) → EndsWithEntry i (is ++ entry f name ∷ [])
ends_with (space n) [] f name = tt
ends_with (entry g own) [] f name = tt
ends_with (space n) (j ∷ is) f name = ends_with j is f name
ends_with (entry g own) (j ∷ is) f name = ends_with j is f name

row_begins : (is : List Item) (f : Fid) (name : List ℕ) → RowBegins (is ++ entry f name ∷ [])
row_begins [] f name = tt
row_begins (i ∷ is) f name = ends_with i is f name

-- ---- one slot more, where no room was found
module _ (n : ℕ) (is row : List Item) (so_far : IsSought n is row) (free : AreFree row) (few : all_words row < n) where
  split_more : (more : List Item) → is ++ more ≡ so_far.before ++ (row ++ more)
  split_more more = ap (λ l. l ++ more) so_far.split ∙ append_assoc so_far.before row more

  goes_on : (more : List Item) → find_room n (is ++ more) ≡ room_from n (length so_far.before) (all_words so_far.before) (row ++ more)
  goes_on more = ap (find_room n) (split_more more) ∙ room_goes_on n so_far.before row more so_far.begins (ap (find_room n) (sym so_far.split) ∙ so_far.none)

  after_entry : (f : Fid) (name : List ℕ) → IsSought n (is ++ entry f name ∷ []) []
  after_entry f name = record {
    before = is ++ entry f name ∷ [];
    split = sym (append-nil (is ++ entry f name ∷ []));
    begins = row_begins is f name;
    none = goes_on (entry f name ∷ []) ∙ room_from-none n (length so_far.before) (all_words so_far.before) row (entry f name ∷ []) free few (λ m. refl);
  }

  after_free : (k : ℕ) → find_room n (row ++ space k ∷ []) ≡ None → IsSought n (is ++ space k ∷ []) (row ++ space k ∷ [])
  after_free k none = record {
    before = so_far.before;
    split = split_more (space k ∷ []);
    begins = so_far.begins;
    none = goes_on (space k ∷ []) ∙ room_further n (length so_far.before) (all_words so_far.before) (row ++ space k ∷ []) ∙ ap (option_map (further (length so_far.before) (all_words so_far.before))) none;
  }

  found_there : (place k : ℕ) (r : RoomFound) → place ≡ all_words is → EndsHere n (row ++ space k ∷ []) (place + k) r → IsRoomAmong n (is ++ space k ∷ []) r
  found_there place k r at h =
      let there = h.room in
      let words : all_words is ≡ all_words so_far.before + all_words row = ap all_words so_far.split ∙ all_words-append so_far.before row in
      let push = words_push row k in
      let ends = there.ends in
      let total = there.total in
      let is_at = h.place in
      record {
        room = further (length so_far.before) (all_words so_far.before) there.room;
        is = goes_on (space k ∷ []) ∙ room_further n (length so_far.before) (all_words so_far.before) (row ++ space k ∷ []) ∙ ap (option_map (further (length so_far.before) (all_words so_far.before))) there.found;
        place = omega (arith, is_at, total, ends, push, words, at);
        total = total;
        first = there.first ∙ ap item_words (sym (get_or-append-add so_far.before (row ++ space k ∷ []) there.room.first (space 0)) ∙ ap (λ l. get_or l (length so_far.before + there.room.first) (space 0)) (sym (split_more (space k ∷ []))));
      }

-- ---- a step
if_some : {A : Type 0} (P : A → Type 0) (o : Option A) (x : A) → o ≡ Some x → P x → IfSome o P
if_some P o x is p = rw is p

if_none : {A : Type 0} (P : Type 0) (o : Option A) → o ≡ None → P → IfNone o P
if_none P o is p = rw is p

unless_none : {A : Type 0} (P : A → Type 0) (o : Option A) → o ≡ None → IfSome o P
unless_none P o is = rw is tt

unless_some : {A : Type 0} (P : Type 0) (o : Option A) (x : A) → o ≡ Some x → IfNone o P
unless_some P o x is = rw is tt

sought_more : (n : ℕ) (is : List Item) (s : SlotAt) (old new : RowOf) (room : Option RoomFound) → s.place ≡ all_words is → old.needed ≡ n → IsSought n is old.items → SeeksIn old s new room
    → IfSome room (IsRoomAmong n (is ++ s.item ∷ [])) × IfNone room (IsSought n (is ++ s.item ∷ []) new.items)
sought_more n is s old new room at needed so_far seeks = by s.item room seeks.met
  where
    few : all_words old.items < n
    few = let l = seeks.few in omega (arith, l, needed)

    by : (i : Item) (room : Option RoomFound) → SeeksBy old s.place i new room → IfSome room (IsRoomAmong n (is ++ i ∷ [])) × IfNone room (IsSought n (is ++ i ∷ []) new.items)
    by (entry f name) room met = (
      unless_none (IsRoomAmong n (is ++ entry f name ∷ [])) room met.0,
      if_none (IsSought n (is ++ entry f name ∷ []) new.items) room met.0 (subst (IsSought n (is ++ entry f name ∷ [])) (sym met.1) (after_entry n is old.items so_far seeks.free few f name)),
    )
    by (space k) None met =
        let none = ap (λ m. find_room m (old.items ++ space k ∷ [])) (sym needed) ∙ met.none in
        (tt, subst (IsSought n (is ++ space k ∷ [])) (sym met.row) (after_free n is old.items so_far seeks.free few k none))
    by (space k) (Some r) met = (found_there n is old.items so_far seeks.free few s.place k r at (subst (λ m. EndsHere m (old.items ++ space k ∷ []) (s.place + k) r) needed met), tt)

room_more : (n : ℕ) (is : List Item) (s : SlotAt) (u v : Seeking) → s.place ≡ all_words is → HasRoom n is u → MeetsRoom u s v → HasRoom n (is ++ s.item ∷ []) v
room_more n is s u v at h step = by u.room h.found h.sought step.found step.sought
  where
    by : (room : Option RoomFound) → IfSome room (IsRoomAmong n is) → IfNone room (IsSought n is u.row.items) → IfSome room (λ r. v.room ≡ Some r) → IfNone room (SeeksIn u.row s v.row v.room) → HasRoom n (is ++ s.item ∷ []) v
    by (Some r) found sought stays seeks = record {
      needed = step.needed ∙ h.needed;
      found = if_some (IsRoomAmong n (is ++ s.item ∷ [])) v.room r stays (among_more n is (s.item ∷ []) r found);
      sought = unless_some (IsSought n (is ++ s.item ∷ []) v.row.items) v.room r stays;
    }
    by None found sought stays seeks =
        let both = sought_more n is s u.row v.row v.room at h.needed sought seeks in
        record { needed = step.needed ∙ h.needed; found = both.0; sought = both.1 }

-- ---- all slots
rooms_from : (n : ℕ) (words : List ℕ) (place : ℕ) (done rest : List Item) (u v : Seeking) → place ≡ all_words done → HasRoom n done u → FoldsTo MeetsRoom u (slots_at words place rest) v → HasRoom n (done ++ rest) v
unfolding slots_at
rooms_from n words place done [] u v at h folds = subst (λ l. HasRoom n l v) (sym (append-nil done)) (subst (HasRoom n done) folds h)
rooms_from n words place done (i ∷ rest) u v at h folds =
    let sum = all_words-append done (i ∷ []) in
    let step = room_more n done (record { place = place; item = i; address = address_at words place i }) u folds.0 at h folds.1 in
    subst (λ l. HasRoom n l v) (append_assoc done (i ∷ []) rest) (rooms_from n words (place + item_words i) (done ++ i ∷ []) rest folds.0 v (omega (arith, sum, at)) step folds.2)

pub all_rooms : (n : ℕ) (words : List ℕ) (is : List Item) (u v : Seeking) → u.row.needed ≡ n → u.row.items ≡ [] → u.room ≡ None → FoldsTo MeetsRoom u (slots_at words 0 is) v → HasRoom n is v
all_rooms n words is u v needed empty none folds =
    rooms_from n words 0 [] is u v refl
    (record {
      needed = needed;
      found = unless_none (IsRoomAmong n []) u.room none;
      sought = if_none (IsSought n [] u.row.items) u.room none (record { before = []; split = sym empty; begins = tt; none = refl });
    })
    folds
