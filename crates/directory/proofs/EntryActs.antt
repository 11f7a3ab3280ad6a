-- The record writes of an entering are the operation.
use Rattle.std.proofs.Common.{◌≡◌, ℕ, suc, ◌-◌, ◌<◌, List, [], ◌∷◌, ◌++◌, length, take, None, Some, Result, Ok, Err, OnOk, refl, sym, ◌∙◌, ap, subst, arith, true}
use Rattle.std.specs.Option.{option_map}
use Rattle.std.specs.Prelude.{get_or}
use Rattle.std.proofs.lemmas.List.{length-append}
use Rattle.alto_words.specs.Names.{is_stored_name}
use Rattle.alto_words.specs.declared.fid.Fid.{Fid}
use Rattle.alto_words.specs.declared.wanted.Wanted.TheVariants.{Exact}
use Rattle.disk_records.specs.Packs.{Pack}
use Rattle.disk_records.specs.Tapes.{added, pack}
use Rattle.disk_records.specs.declared.records.Event.{Event}
use Rattle.laws_call.proofs.writing.Laws.{written_acts}
use Rattle.laws_call.specs.Acting.{Around, Operates, begun}
use Rattle.laws_call.specs.Writing.{Written, entering_writes, enters}
use Rattle.file_pages.specs.laws_lookup.proofs.entering.Laws.{apart_entry_may_be_entered}
use Rattle.file_pages.specs.laws_lookup.proofs.slots.Laws.{absent_name_is_open, lookup_is_the_models}
use Rattle.laws_operation.proofs.enter.Laws.{free_name_is_apart_for_a_nameless_file}
use Rattle.laws_operation.proofs.entries.Laws.{items_are_slots}
use Rattle.laws_operation.specs.DirectoryWords.{CanEnter, left_in}
use Rattle.file_pages.specs.laws_record.specs.EnterLaws.{MayEnter}
use Rattle.pack_model.specs.operations.Committing.{moves_of, page_of_word}
use Rattle.pack_model.specs.operations.Entering.{found_room}
use Rattle.pack_model.specs.operations.Operations.Move.{commits, quiet}
use Rattle.pack_model.specs.operations.Operations.{enter_moves, quiet_moves}
use Rattle.pack_model.specs.operations.PageWords.{entered_words, later}
use Rattle.pack_model.specs.operations.Rooms.{Room, find_room}
use Rattle.pack_model.specs.operations.Step.Operation.{enter}
use Rattle.pack_model.specs.operations.Step.{Operation}
use Rattle.pack_model.specs.reading.Files.{place}
use Rattle.pack_model.specs.reading.Lookup.{entered}
use Rattle.pack_model.specs.reading.Model.{dir_items, read_as}
use Rattle.pack_model.specs.reading.Sights.{sights}
use Rattle.pack_model.specs.reading.Slots.{entry_length, item_words, slots}
use Rattle.pack_model.specs.reading.Slots.Item.{space}
use Rattle.pack_model.specs.reading.Versions.{exact}
use Rattle.pack_model.specs.hints.Links.{dir_words}
use Rattle.pack_model.specs.sessions.Moves.{Meaning, Obeys, rest, write}
use Rattle.pack_model.specs.sessions.Tallies.{counted}
use Rattle.pack_model.specs.states.Whole.{Tidy, Whole}
use Rattle.page_seeking.specs.declared.refs.FileRef.{FileRef}
use Rattle.directory.specs.declared.errors.DirError.{DirError}
use Rattle.directory.specs.declared.place.RoomFound.{RoomFound}
use Rattle.directory.specs.Asked.{DirStands}
use Rattle.directory.specs.Entering.{MayBeEntered, WroteEntry, words_for}
use Rattle.directory.specs.Errors.{disk_fault, out_of_memory}
use Rattle.directory.specs.Places.{IsPlaceFor}
use Rattle.directory.proofs.EntryValues.{room_at}

-- ---- what the laws of entering ask
module _ (p : Pack) (dir : FileRef) (name : List ℕ) (f : Fid) (leader_at : ℕ) (room : RoomFound) (stands : DirStands p dir) (may : MayBeEntered p dir.fid f leader_at) (found : IsPlaceFor p dir.fid name room) (stored : is_stored_name name ≡ true) where
  abbrev d : Fid
  d = dir.fid

  items_are : dir_items (read_as p) d ≡ slots (dir_words p d)
  items_are = items_are_slots p d stands.stands.tidy stands.living stands.directory

  absent : exact name (dir_items (read_as p) d) ≡ None
  absent = sym (lookup_is_the_models p d (Exact name) stands.stands.tidy stands.living stands.directory) ∙ ap (option_map entered) found.absent

  may_enter : MayEnter p d f name
  may_enter = apart_entry_may_be_entered p d f name stands.stands.whole may.living may.enterable (free_name_is_apart_for_a_nameless_file (read_as p) d f name may.nameless (absent_name_is_open (read_as p) d f name absent))

  abbrev r : Room
  r = found.room.room

  module _ (at next_at : ℕ) (sector : place (sights p) d (page_of_word room.place) ≡ Some at) (next : 0 < length (later room.place (words_for f leader_at name room)) → place (sights p) d (suc (page_of_word room.place)) ≡ Some next_at) where
    words_are : entered_words f leader_at name (left_in r name) ≡ words_for f leader_at name room
    words_are = ap (λ n. entered_words f leader_at name (n - entry_length (length name))) (sym found.room.total)

    can : CanEnter p d name f r (entered_words f leader_at name (left_in r name)) at next_at
    can = record {
      directory = stands.directory;
      living = stands.living;
      no_system = may.enterable.no_system;
      entry_is = may_enter;
      stored = stored;
      found = ap (find_room (entry_length (length name))) items_are ∙ found.room.is;
      sector = ap (λ n. place (sights p) d (page_of_word n)) (sym found.room.place) ∙ sector;
      next_sector = λ some. ap (λ n. place (sights p) d (suc (page_of_word n))) (sym found.room.place) ∙ next (subst (λ n. 0 < n) (ap length (ap (later r.place) words_are ∙ ap (λ n. later n (words_for f leader_at name room)) (sym found.room.place))) some);
    }

    room_is : found_room r (dir_items (read_as p) d) at next_at ≡ room_at room at next_at
    room_is =
        let place_is = found.room.place in
        let total = found.room.total in
        let first : room.words.first ≡ item_words (get_or (dir_items (read_as p) d) r.first (space 0)) = found.room.first ∙ ap (λ l. item_words (get_or l r.first (space 0))) (sym items_are) in
        sym (λ i. record { place = place_is i; first_words = first i; total = total i; at = at; next_at = next_at })

    pub entry_is_written : Written p (enter d name f) [] [] (entering_writes p (room_at room at next_at) (words_for f leader_at name room))
    entry_is_written = subst (Written p (enter d name f) [] []) ((λ i. entering_writes p (room_is i) (words_are i))) (enters can may.leader)

-- ---- its moves
obeys_length : {M O : Type 0} {means : Meaning M O} {m : M} {p : Pack} {writes : List Event} {moves : List O} → Obeys means m p writes moves → length writes ≡ length moves
obeys_length (rest s) = refl
obeys_length (write s k more) = ap suc (obeys_length more)

same_quiet : {X Y : Type 0} (xs : List X) (ys : List Y) → length xs ≡ length ys → quiet_moves xs ≡ quiet_moves ys
same_quiet [] [] e = refl
same_quiet [] (y ∷ ys) e = absurd (omega (arith, e))
same_quiet (x ∷ xs) [] e = absurd (omega (arith, e))
same_quiet (x ∷ xs) (y ∷ ys) e = ap (λ l. quiet ∷ l) (same_quiet xs ys (omega (arith, e)))

quiet_size : {X : Type 0} (xs : List X) → length (quiet_moves xs) ≡ length xs
quiet_size [] = refl
quiet_size (x ∷ xs) = ap suc (quiet_size xs)

same_moves : {X : Type 0} (xs : List X) (first last : List Event) (o : Operation) → length last ≡ 1 → length (first ++ last) ≡ length (enter_moves xs o) → enter_moves xs o ≡ enter_moves first o
same_moves xs first last o one same =
    let sum = length-append first last in
    let long = length-append (quiet_moves xs) (commits o ∷ []) in
    let size = quiet_size xs in
    ap (λ l. l ++ commits o ∷ []) (same_quiet xs first (omega (arith, one, same, sum, long, size)))

-- ---- the operation
pub entry_operates : {T : Type 0} {first last : List Event} {d f : Fid} {name : List ℕ} {old new : Around} {result : Result T DirError} → Whole (pack old.tape) → Tidy (pack old.tape) → length last ≡ 1 → Written (pack old.tape) (enter d name f) [] [] (first ++ last)
    → WroteEntry first last (enter d name f) old new result → Operates disk_fault out_of_memory (enter d name f) [] old new result
entry_operates {T} {first} {last} {d} {f} {name} {old} {new} {result} whole tidy one exact x =
    let acts = written_acts (pack old.tape) (enter d name f) [] [] (first ++ last) whole tidy exact in
    let moves : moves_of (read_as (pack old.tape)) (enter d name f) ≡ enter_moves first (enter d name f) = same_moves _ first last (enter d name f) one (obeys_length acts.stays.obeys) in
    begun (record {
      writes = first ++ last;
      released = [];
      exact = exact;
      acts = acts;
      some = x.some;
      all = x.all;
      table = on_ok result x.table;
      counts = λ tells. x.counts tells ∙ ap (λ l. counted old.tape.writes (take (length (added old.tape new.tape)) l) old.tally) (sym moves);
      out_of_memory = x.out_of_memory;
    })
  where
    on_ok : {P : Type 0} (result : Result T DirError) → P → OnOk result P
    on_ok (Ok x) p = p
    on_ok (Err e) p = tt
