-- The values of an entering, as the record writes of the operation.
use Rattle.std.proofs.Common.{◌≡◌, ◌≢◌, ℕ, ◌+◌, ◌-◌, ◌<◌, ◌≤◌, Bool, true, false, cond, nat_lt, List, [], ◌∷◌, ◌++◌, length, Some, Option, refl, sym, ◌∙◌, ap, arith}
use Rattle.std.specs.Prelude.{IsTrue, ◌==◌, not}
use Rattle.std.proofs.lemmas.Bool.Decides.{nat_tests}
use Rattle.disk_records.specs.Commands.{value_writes}
use Rattle.disk_records.specs.Packs.{Pack, after, carried, sector_at}
use Rattle.disk_records.specs.declared.records.Event.{Event}
use Rattle.disk_records.specs.declared.records.Page.{Page}
use Rattle.disk_records.specs.declared.records.Sector.{Sector}
use Rattle.laws_call.specs.Writing.{entering_writes}
use Rattle.file_pages.specs.pack_laws.proofs.guards.Laws.{value_writes_keep_the_page}
use Rattle.pack_model.specs.operations.Commands.{values_writes}
use Rattle.pack_model.specs.operations.Committing.{page_of_word}
use Rattle.pack_model.specs.operations.Entering.{EntryRoom}
use Rattle.pack_model.specs.operations.Operations.{enter_writes}
use Rattle.pack_model.specs.operations.PageWords.{freed_value, in_page, later, near}
use Rattle.pack_model.specs.reading.Bytes.{put_at}
use Rattle.page_seeking.specs.Seeking.{page_after}
use Rattle.directory.specs.declared.place.RoomFound.{RoomFound}
use Rattle.directory.specs.Entering.{has_later, joining_writes, next_writes, room_value}

-- ---- one value after another
module _ (at next_at : ℕ) (page : Page) where
  -- a sector has the value that is written in it
  here : (p : Pack) (v : List ℕ) → carried p at ≡ Some page → (sector_at (after p (value_writes at v)) at).value ≡ v
  here p v carries = ap (λ (s : Sector). s.value) (value_writes_keep_the_page p at page v 1 carries (omega arith)).here

  module _ (p : Pack) (carries : carried p at ≡ Some page) (next : carried p next_at ≡ Some (page_after page)) where
    one : (a b : Page) → ◌≡◌ {A = Option Page} (Some a) (Some b) → a ≡ b
    one a b e = cc

    apart : next_at ≢ at
    apart same =
        let pages = one page (page_after page) (sym carries ∙ ap (carried p) (sym same) ∙ next) in
        let numbers : page.number ≡ page.number + 1 = ap (λ (x : Page). x.number) pages in
        absurd (omega (arith, numbers))

    apart_too : at ≢ next_at
    apart_too same = apart (sym same)

    -- and each other one has its own
    next_still : (v : List ℕ) → sector_at (after p (value_writes at v)) next_at ≡ sector_at p next_at
    next_still v = (value_writes_keep_the_page p at page v 1 carries (omega arith)).others next_at apart

    next_carries : (v : List ℕ) → carried (after p (value_writes at v)) next_at ≡ Some (page_after page)
    next_carries v = (value_writes_keep_the_page p at page v 1 carries (omega arith)).pages next_at apart ∙ next

    here_still : (q : Pack) (w : List ℕ) → carried q next_at ≡ Some (page_after page) → sector_at (after q (value_writes next_at w)) at ≡ sector_at q at
    here_still q w c = (value_writes_keep_the_page q next_at (page_after page) w 1 c (omega arith)).others at apart_too

    here_twice : (v w : List ℕ) → (sector_at (after p (value_writes at v ++ value_writes next_at w)) at).value ≡ v
    here_twice v w = ap (λ (s : Sector). s.value) (here_still (after p (value_writes at v)) w (next_carries v)) ∙ here p v carries

-- ---- the values by two tests: whether the room is one slot, and whether all words lie in one page
module _ (p : Pack) (at next_at from : ℕ) (front back freed : List ℕ) where
  abbrev joins : Bool → List (ℕ × List ℕ)
  joins t = cond t [] ((at, freed) ∷ [])

  abbrev overlaps : Bool → Bool → List (ℕ × List ℕ)
  overlaps t u = cond u [] ((next_at, put_at 0 back (sector_at (after p (values_writes (joins t))) next_at).value) ∷ [])

  abbrev all_values : Bool → Bool → List Event
  all_values t u = enter_writes (joins t ++ overlaps t u) at (put_at from front (sector_at (after p (values_writes (joins t ++ overlaps t u))) at).value)

  abbrev all_writes : Bool → Bool → List Event
  all_writes t u = (cond t [] (value_writes at freed) ++ cond u (value_writes next_at (put_at 0 back (sector_at p next_at).value)) []) ++ value_writes at (put_at from front (cond t (sector_at p at).value freed))

  abbrev last : List ℕ → List Event
  last v = value_writes at (put_at from front v)

  values_are : (page : Page) (t u : Bool) → carried p at ≡ Some page → (u ≡ true → carried p next_at ≡ Some (page_after page)) → all_values t (not u) ≡ all_writes t u
  values_are page true false carries next = refl
  values_are page false false carries next = ap (λ v. value_writes at freed ++ last v) (here at next_at page p freed carries)
  values_are page true true carries next =
      let w : List ℕ = put_at 0 back (sector_at p next_at).value in
      ap (λ (s : Sector). value_writes next_at w ++ last s.value) (here_still at next_at page p carries (next refl) p w (next refl))
  values_are page false true carries next =
      let still = next_still at next_at page p carries (next refl) freed in
      let w : List ℕ = put_at 0 back (sector_at p next_at).value in
      ap (λ (s : Sector). value_writes at freed ++ (value_writes next_at (put_at 0 back s.value) ++ last (sector_at (after p (value_writes at freed ++ value_writes next_at (put_at 0 back s.value))) at).value)) still
      ∙ ap (λ v. value_writes at freed ++ (value_writes next_at w ++ last v)) (here_twice at next_at page p carries (next refl) freed w)

-- ---- words over a page's end
same_page : (place n : ℕ) → 1 ≤ n → n ≤ 256 → (page_of_word (place + n - 1) == page_of_word place) ≡ not (nat_lt (256 - in_page place) n)
same_page place n some few = by (nat_lt (256 - in_page place) n) refl
  where
    equal : (a b : ℕ) → a ≡ b → (a == b) ≡ true
    equal a b e = grind (arith, nat_tests)

    differ : (a b : ℕ) → a < b → (b == a) ≡ false
    differ a b l = grind (arith, nat_tests)

    over : (m : ℕ) → nat_lt m n ≡ true → m < n
    over m e = grind (arith, nat_tests)

    within : (m : ℕ) → nat_lt m n ≡ false → n ≤ m
    within m e = grind (arith, nat_tests)

    by : (t : Bool) → nat_lt (256 - in_page place) n ≡ t → (page_of_word (place + n - 1) == page_of_word place) ≡ not t
    by true e = let more = over (256 - in_page place) e in differ (page_of_word place) (page_of_word (place + n - 1)) (omega (arith, more, some, few))
    by false e = let fits = within (256 - in_page place) e in equal (page_of_word (place + n - 1)) (page_of_word place) (omega (arith, fits, some, few))

-- ---- the entering
-- the room, as its values have it
abbrev pub room_at : RoomFound → ℕ → ℕ → EntryRoom
room_at room at next_at = record { place = room.place; first_words = room.words.first; total = room.words.total; at = at; next_at = next_at }

pub entering_is : (p : Pack) (page : Page) (room : RoomFound) (words : List ℕ) (at next_at : ℕ) (value next_value : List ℕ) → 1 ≤ length words → length words ≤ 256 → carried p at ≡ Some page → value ≡ (sector_at p at).value
    → (IsTrue (has_later room words) → (carried p next_at ≡ Some (page_after page)) × (next_value ≡ (sector_at p next_at).value))
    → entering_writes p (room_at room at next_at) words ≡ (joining_writes room at value ++ next_writes room words next_at next_value) ++ value_writes at (room_value room words value)
entering_is p page room words at next_at value next_value some few carries holds next =
    ap whole (same_page room.place (length words) some few)
    ∙ values_are p at next_at (in_page room.place) (near room.place words) (later room.place words) freed page (room.words.first == room.words.total) (has_later room words) carries (λ is. (next (told is)).0)
    ∙ by (has_later room words) (λ is. (next is).1)
  where
    freed : List ℕ
    freed = freed_value room.place room.words.total (sector_at p at).value

    whole : Bool → List Event
    whole u = all_values p at next_at (in_page room.place) (near room.place words) (later room.place words) freed (room.words.first == room.words.total) u

    told : has_later room words ≡ true → IsTrue (has_later room words)
    told is = is

    by : (u : Bool) → (IsTrue u → next_value ≡ (sector_at p next_at).value)
        → all_writes p at next_at (in_page room.place) (near room.place words) (later room.place words) freed (room.words.first == room.words.total) u
        ≡ (joining_writes room at value ++ cond u (value_writes next_at (put_at 0 (later room.place words) next_value)) []) ++ value_writes at (room_value room words value)
    by true same = rw (holds, same refl) refl
    by false same = rw holds refl
