-- A call that enters a name: its words are within the room that was found, its record writes are the operation, and it takes few sector
-- commands.
use Rattle.std.proofs.Common.{◌≡◌, ℕ, suc, ◌+◌, ◌*◌, ◌-◌, ◌<◌, ◌≤◌, Bool, true, false, cond, nat_lt, inl, inr, List, [], ◌∷◌, ◌++◌, length, OnOk, Some, Result, refl, sym, ◌∙◌, ap, subst, arith, length-append, length-drop}
use Rattle.std.specs.Prelude.{IsTrue, ◌==◌}
use Rattle.std.proofs.lemmas.Bool.Decides.{nat_tests}
use Rattle.alto_words.specs.Names.{is_stored_name}
use Rattle.alto_words.specs.declared.fid.Fid.{Fid}
use Rattle.dir_slots.proofs.Hands.{slots_within}
use Rattle.dir_slots.proofs.Writing.{length-entry}
use Rattle.disk_records.proofs.Bytes.{length-words_of}
use Rattle.disk_records.proofs.Growing.{added-twice}
use Rattle.disk_records.specs.Commands.{value_writes}
use Rattle.disk_records.specs.Events.{IsFirstOf}
use Rattle.disk_records.specs.Packs.{Pack}
use Rattle.disk_records.specs.Tapes.{DiskAlone, Taped, added, pack}
use Rattle.disk_records.specs.declared.records.Event.{Event}
use Rattle.disk_records.specs.declared.records.Sector.{Sector}
use Rattle.disk_records.specs.declared.records.Tally.{Tally}
use Rattle.hint_cache.specs.Caches.{Cached}
use Rattle.laws_call.specs.Acting.{Operates}
use Rattle.laws_call.specs.Writing.{Written, entering_writes}
use Rattle.file_pages.specs.laws_contents.proofs.pages.Laws.{carried_once_is_in_place}
use Rattle.pack_model.specs.hints.Links.{dir_words}
use Rattle.pack_model.specs.operations.Committing.{page_of_byte, page_of_word}
use Rattle.pack_model.specs.operations.Entering.{found_room}
use Rattle.pack_model.specs.operations.PageWords.{entered_words, in_page, later}
use Rattle.pack_model.specs.operations.Step.Operation.{enter}
use Rattle.pack_model.specs.operations.Step.{Operation}
use Rattle.pack_model.specs.reading.Files.{file_bytes, place}
use Rattle.pack_model.specs.reading.Sights.{sights}
use Rattle.pack_model.specs.reading.SlotWords.{entry_words}
use Rattle.pack_model.specs.reading.Slots.{entry_length, slots}
use Rattle.pack_model.specs.states.Whole.{Tidy, Whole}
use Rattle.page_seeking.specs.Seeking.{IsLengthBelow, Stands, file_length, page_number}
use Rattle.page_seeking.specs.declared.refs.FileRef.{FileRef}
use Rattle.directory.specs.declared.errors.DirError.{DirError}
use Rattle.directory.specs.declared.place.RoomFound.{RoomFound}
use Rattle.directory.specs.Asked.{DirIsFound, DirStands}
use Rattle.directory.specs.Entering.{EntersWords, IsQuickThrice, IsRoomNamed, MayBeEntered, WroteEntry, enters_at, has_later, joining_writes, next_writes, room_value, to_enter, words_for, words_in}
use Rattle.directory.specs.Errors.{disk_fault, out_of_memory}
use Rattle.directory.specs.Found.{IsQuick}
use Rattle.directory.specs.Leaving.{Wrote}
use Rattle.directory.specs.Places.{IsPlaceFor}
use Rattle.directory.proofs.EntryActs.{entry_is_written, entry_operates}
use Rattle.directory.proofs.EntryValues.{entering_is, room_at}
use Rattle.directory.proofs.Quickly.{refused_sooner}
use Rattle.directory.proofs.RoomSizes.{room_sized}
use Rattle.directory.proofs.Standing.{once_of_whole, placed_at}

-- ---- the pages of a room
over : (m n : ℕ) → nat_lt m n ≡ true → m < n
over m n e = grind (arith, nat_tests)

over_is : (m n : ℕ) → m < n → nat_lt m n ≡ true
over_is m n l = grind (arith, nat_tests)

-- it begins in a page of the directory
pub begins_in_it : (b place n : ℕ) → 1 ≤ n → 2 * (place + n) ≤ b → page_of_word place ≤ page_of_byte b
begins_in_it b place n some fits = omega (arith, some, fits)

-- so that no length is below that page, nor below the page after it, where words lie there too
pub no_length_before : (p : Pack) (d : Fid) (number place n m : ℕ) → number ≡ page_of_word place → 1 ≤ n → 2 * (place + n) ≤ file_length p d → IsLengthBelow p d number m → ⊥
no_length_before p d number place n m is some fits h = let within = begins_in_it (file_length p d) place n some fits in let below = h.below in let same = h.is in omega (arith, within, below, same, is)

pub no_length_between : (p : Pack) (d : Fid) (number place n m : ℕ) → number ≤ page_of_word place + 1 → nat_lt (256 - in_page place) n ≡ true → 2 * (place + n) ≤ file_length p d → IsLengthBelow p d number m → ⊥
no_length_between p d number place n m most more fits h = let l = over (256 - in_page place) n more in let below = h.below in let same = h.is in omega (arith, l, most, fits, below, same)

-- a page is only looked for where it is wanted
pub if_wanted : (t : Bool) (n m : ℕ) → n ≤ m → cond t n 0 ≤ m
if_wanted true n m l = l
if_wanted false n m l = omega arith

-- ---- the words of an entry
few_more : (left : ℕ) (t : Bool) → (left == 0) ≡ t → length (cond {A = List ℕ} t [] (left ∷ [])) ≤ left
few_more left true e = omega arith
few_more left false e = let some : 1 ≤ left = grind (arith, nat_tests) in omega (arith, some)

module _ (p : Pack) (d : Fid) (name : List ℕ) (f : Fid) (leader_at : ℕ) (room : RoomFound) (words : List ℕ) (found : IsPlaceFor p d name room) (is : words ≡ words_for f leader_at name room) where
  abbrev needed : ℕ
  needed = entry_length (length name)

  abbrev left : ℕ
  left = room.words.total - needed

  many : length words ≡ needed + length (cond {A = List ℕ} (left == 0) [] (left ∷ []))
  many = let own = length-entry f leader_at name in let sum = length-append (entry_words f leader_at name) (cond {A = List ℕ} (left == 0) [] (left ∷ [])) in ap length is ∙ omega (arith, own, sum)

  pub words_some : 1 ≤ length words
  words_some = let sum = many in omega (arith, sum)

  -- they are within the room, which is within the directory
  pub words_few : length words ≤ room.words.total
  words_few =
      let total = (room_sized needed 0 0 (slots (dir_words p d)) found.room.room found.room.is).total in
      let total_is = found.room.total in
      let few = few_more left (left == 0) refl in
      let sum = many in
      omega (arith, total, total_is, few, sum)

  pub words_within : 2 * (room.place + length words) ≤ file_length p d
  words_within =
      let ends = (room_sized needed 0 0 (slots (dir_words p d)) found.room.room found.room.is).words in
      let place_is = found.room.place in
      let total_is = found.room.total in
      let most = slots_within (dir_words p d) in
      let half = length-words_of (file_bytes (sights p) d) in
      let few = words_few in
      omega (arith, ends, place_is, total_is, most, half, few)

-- ---- the operation
-- the words of the room that lie in the page after
some_later : (place : ℕ) (words : List ℕ) → 0 < length (later place words) → nat_lt (256 - in_page place) (length words) ≡ true
some_later place words some = let long = length-drop (256 - in_page place) words in over_is (256 - in_page place) (length words) (omega (arith, some, long))

pub entered : {b c : Taped} (p : Pack) (dir : FileRef) (name : List ℕ) (f : Fid) (leader_at : ℕ) (room : RoomFound) (words : List ℕ) (at next_at : ℕ) (buffer next : Sector) (bits : List Bool) (t u : Tally) (result : Result (Unit {0}) DirError)
    → DirStands p dir → MayBeEntered p dir.fid f leader_at → IsPlaceFor p dir.fid name room → is_stored_name name ≡ true → words ≡ words_for f leader_at name room → length words ≤ 27
    → Stands p (page_number dir.fid (page_of_word room.place)) at buffer → (IsTrue (has_later room words) → Stands p (page_number dir.fid (page_of_word room.place + 1)) next_at next) → pack b ≡ p
    → WroteEntry (joining_writes room at buffer.value ++ next_writes room words next_at next.value) (value_writes at (room_value room words buffer.value)) (enter dir.fid name f) (record { tape = b; bits = bits; tally = t }) (record { tape = c; bits = bits; tally = u }) result
    → Operates disk_fault out_of_memory (to_enter dir.fid name f) [] (record { tape = b; bits = bits; tally = t }) (record { tape = c; bits = bits; tally = u }) result
entered {b} {c} p dir name f leader_at room words at next_at buffer next bits t u result stands may found stored is few here there same wrote =
    entry_operates (subst Whole (sym same) stands.stands.whole) (subst Tidy (sym same) stands.stands.tidy) refl (subst (λ q. Written q (enter d name f) [] [] (first ++ last)) (sym same) exact) wrote
  where
    d : Fid
    d = dir.fid

    first : List Event
    first = joining_writes room at buffer.value ++ next_writes room words next_at next.value

    last : List Event
    last = value_writes at (room_value room words buffer.value)

    next_placed : 0 < length (later room.place (words_for f leader_at name room)) → place (sights p) dir.fid (suc (page_of_word room.place)) ≡ Some next_at
    next_placed some = placed_at p dir.fid (page_of_word room.place) next_at (once_of_whole p stands.stands.whole) (there (some_later room.place words (subst (λ l. 0 < length (later room.place l)) (sym is) some))).carries

    exact : Written p (enter dir.fid name f) [] [] (first ++ last)
    exact =
        subst (Written p (enter dir.fid name f) [] [])
        (ap (entering_writes p (room_at room at next_at)) (sym is)
        ∙ entering_is p (page_number dir.fid (page_of_word room.place)) room words at next_at buffer.value next.value (words_some p dir.fid name f leader_at room words found is) (omega (arith, few)) here.carries (ap (λ (s : Sector). s.value) here.holds)
        (λ more. let s = there more in (s.carries, ap (λ (x : Sector). x.value) s.holds)))
        (entry_is_written p dir name f leader_at room stands may found stored at next_at (carried_once_is_in_place p (page_number dir.fid (page_of_word room.place)) at (once_of_whole p stands.stands.whole) here.carries) next_placed)

-- ---- the exact record writes
-- as they are by the room that the call found
module _ (p : Pack) (d : Fid) (name : List ℕ) (f : Fid) (leader_at : ℕ) (room : RoomFound) (found : IsPlaceFor p d name room) (at next_at : ℕ) where
  words_same : words_in f leader_at name found.room.room ≡ words_for f leader_at name room
  words_same = ap (λ n. entered_words f leader_at name (n - entry_length (length name))) (sym found.room.total)

  room_same : found_room found.room.room (slots (dir_words p d)) at next_at ≡ room_at room at next_at
  room_same =
      let place_is = found.room.place in
      let total = found.room.total in
      let first = found.room.first in
      sym (λ i. record { place = place_is i; first_words = first i; total = total i; at = at; next_at = next_at })

  exact_same : entering_writes p (room_at room at next_at) (words_for f leader_at name room) ≡ entering_writes p (found_room found.room.room (slots (dir_words p d)) at next_at) (words_in f leader_at name found.room.room)
  exact_same = sym (λ i. entering_writes p (room_same i) (words_same i))

  room_named : place (sights p) d (page_of_word room.place) ≡ Some at → (0 < length (later room.place (words_for f leader_at name room)) → place (sights p) d (suc (page_of_word room.place)) ≡ Some next_at)
      → IsRoomNamed p d name found.room.room (words_in f leader_at name found.room.room) at next_at
  room_named sector next = record {
    absent = found.absent;
    room = found.room.is;
    sector = ap (λ n. place (sights p) d (page_of_word n)) (sym found.room.place) ∙ sector;
    next_sector = λ some. ap (λ n. place (sights p) d (suc (page_of_word n))) (sym found.room.place) ∙ next (subst (λ n. 0 < n) (ap length (ap (later found.room.room.place) words_same ∙ ap (λ n. later n (words_for f leader_at name room)) (sym found.room.place))) some);
  }

-- after a call that wrote nothing
wrote_after_look : {T : Type 0} {a b c : Taped} {first last : List Event} {o : Operation} {bits : List Bool} {t u : Tally} {result : Result T DirError} → DiskAlone a b → DiskAlone b c → added a b ≡ []
    → WroteEntry first last o (record { tape = b; bits = bits; tally = t }) (record { tape = c; bits = bits; tally = u }) result → Wrote (first ++ last) a c result
wrote_after_look {T} {a} {b} {c} {first} {last} {o} {bits} {t} {u} {result} one two silent x =
    let same : added a c ≡ added b c = added-twice one.grown two.grown ∙ ap (λ l. l ++ added b c) silent in
    let spare = one.grown.spare in
    let none : length (added a b) ≡ 0 = ap length silent in
    record {
      some = subst (IsFirstOf (first ++ last)) (sym same) x.some;
      all = subst (λ l. OnOk result (l ≡ first ++ last)) (sym same) x.all;
      out_of_memory = λ is. let less = x.out_of_memory is in omega (arith, less, spare, none);
    }

pub words_entered : {a b c : Taped} (p : Pack) (dir : FileRef) (name : List ℕ) (f : Fid) (leader_at : ℕ) (room : RoomFound) (words : List ℕ) (at next_at : ℕ) (buffer next : Sector) (bits : List Bool) (t u : Tally) (result : Result (Unit {0}) DirError)
    → DirIsFound p dir → IsPlaceFor p dir.fid name room → words ≡ words_for f leader_at name room → length words ≤ 27
    → Stands p (page_number dir.fid (page_of_word room.place)) at buffer → (IsTrue (has_later room words) → Stands p (page_number dir.fid (page_of_word room.place + 1)) next_at next)
    → DiskAlone a b → DiskAlone b c → added a b ≡ []
    → WroteEntry (joining_writes room at buffer.value ++ next_writes room words next_at next.value) (value_writes at (room_value room words buffer.value)) (enter dir.fid name f) (record { tape = b; bits = bits; tally = t }) (record { tape = c; bits = bits; tally = u }) result
    → EntersWords p dir.fid name f leader_at a c result
words_entered {a} {b} {c} p dir name f leader_at room words at next_at buffer next bits t u result dir_found found is few here there one two silent wrote =
    enters_at (room_named p dir.fid name f leader_at room found at next_at sector next_placed) (subst (λ l. Wrote l a c result) exact (wrote_after_look one two silent wrote))
  where
    sector : place (sights p) dir.fid (page_of_word room.place) ≡ Some at
    sector = carried_once_is_in_place p (page_number dir.fid (page_of_word room.place)) at dir_found.once here.carries

    next_placed : 0 < length (later room.place (words_for f leader_at name room)) → place (sights p) dir.fid (suc (page_of_word room.place)) ≡ Some next_at
    next_placed some = placed_at p dir.fid (page_of_word room.place) next_at dir_found.once (there (some_later room.place words (subst (λ l. 0 < length (later room.place l)) (sym is) some))).carries

    exact : (joining_writes room at buffer.value ++ next_writes room words next_at next.value) ++ value_writes at (room_value room words buffer.value)
        ≡ entering_writes p (found_room found.room.room (slots (dir_words p dir.fid)) at next_at) (words_in f leader_at name found.room.room)
    exact =
        sym (ap (entering_writes p (room_at room at next_at)) (sym is)
        ∙ entering_is p (page_number dir.fid (page_of_word room.place)) room words at next_at buffer.value next.value (words_some p dir.fid name f leader_at room words found is) (omega (arith, few)) here.carries (ap (λ (s : Sector). s.value) here.holds)
        (λ more. let s = there more in (s.carries, ap (λ (x : Sector). x.value) s.holds)))
        ∙ exact_same p dir.fid name f leader_at room found at next_at

-- ---- few sector commands
-- the room is found, its pages are located, and the values are written
pub quick_thrice : (p : Pack) (d : Fid) (place n : ℕ) (before mid now : Cached) (a b c e : Taped) → 1 ≤ n → 2 * (place + n) ≤ file_length p d → mid.refused ≤ now.refused → IsQuick p d before mid a b → c.runs ≤ b.runs + (2 * page_of_word place + 3) → e.runs ≤ c.runs + 6
    → IsQuickThrice p d 10 before now a e
quick_thrice p d place n before mid now a b c e some fits grows found located written =
    let within = begins_in_it (file_length p d) place n some fits in
    elim found [ inl few ↦ inl (omega (arith, few, located, written, within)) | inr rose ↦ inr (refused_sooner before mid now grows rose) ]
