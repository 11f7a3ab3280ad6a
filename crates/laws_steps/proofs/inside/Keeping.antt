-- Files that were found, over each operation.
use Rattle.std.proofs.Common.{Bool, List, None, Option, Some, [], ap, cond, false, inr, length, refl, subst, sym, true, ℕ, ◌++◌, ◌∙◌, ◌∷◌, ◌≡◌}
use Rattle.std.specs.FinMap.{get}
use Rattle.std.specs.Option.{option_map}
use Rattle.laws_call.specs.alto_words.specs.Fid.{is_directory, is_fid}
use Rattle.laws_call.specs.alto_words.specs.Names.{is_same_name}
use Rattle.laws_call.specs.alto_words.specs.declared.fid.Fid.{Fid}
use Rattle.laws_call.specs.alto_words.specs.declared.wanted.Wanted.TheVariants.{Exact}
use Rattle.laws_call.specs.disk_records.proofs.Growing.{after-append}
use Rattle.laws_call.specs.disk_records.specs.Commands.{value_writes}
use Rattle.laws_call.specs.disk_records.specs.Packs.{Pack, after, sector_at}
use Rattle.laws_call.specs.disk_records.specs.declared.records.Event.{Event}
use Rattle.laws_call.specs.disk_records.specs.declared.records.Place.{Place}
use Rattle.laws_call.specs.disk_records.specs.declared.records.Sector.{Sector}
use Rattle.laws_call.specs.disk_records.specs.declared.records.Place.TheVariants.{Entry, Held, Next, Root}
use Rattle.laws_call.proofs.writing.Laws.{written_acts, written_stays_known}
use Rattle.laws_call.specs.WritingLaws.{IsOnOne, StaysKnown, written_file}
use Rattle.laws_call.specs.Writing.{Written, cuts, drops, entering_writes, enters, entry_freed, grows, leaves, makes, puts, stamps, titles, widens}
use Rattle.laws_call.specs.laws_lookup.proofs.others.Laws.{place_is_of_its_file, release_leaves_others, values_leave_others}
use Rattle.laws_call.specs.laws_lookup.proofs.own.Laws.{enter_replaces_slots, entry_stands_outside_of_free_slots, leave_replaces_slots, widen_replaces_slots}
use Rattle.laws_call.specs.laws_lookup.proofs.slots.Laws.{lookup_is_the_models}
use Rattle.laws_call.specs.laws_lookup.proofs.sources.Laws.{found_file_stays_found, found_file_stays_found_beside_slots}
use Rattle.laws_call.specs.laws_lookup.specs.OtherLaws.{KeepsPages, LeavesOthers}
use Rattle.laws_call.specs.laws_lookup.specs.OwnLaws.{ReplacesSlots}
use Rattle.laws_midway.proofs.dropped.Laws.{drop_leaves_others}
use Rattle.laws_call.specs.laws_operation.proofs.Concerning.{run_bare}
use Rattle.laws_call.specs.laws_operation.proofs.Dropped.{read_there}
use Rattle.laws_call.specs.laws_operation.proofs.drop.Laws.{drop_carries_out, release_carries_out, slot_words_fit}
use Rattle.laws_call.specs.laws_operation.proofs.enter.Laws.{enter_words_fit}
use Rattle.laws_call.specs.laws_operation.proofs.entries.Laws.{items_are_slots, read_entries_are_kept}
use Rattle.laws_call.specs.laws_operation.proofs.places.Laws.{values_keep_places}
use Rattle.laws_call.specs.laws_operation.proofs.widen.Laws.{widen_words_fit}
use Rattle.laws_call.specs.laws_operation.specs.DirectoryWords.{HasEntry, left_in}
use Rattle.laws_call.specs.laws_operation.specs.LifeLaws.{MayDrop}
use Rattle.laws_call.specs.laws_record.proofs.DirReads.{has_leader, not_descriptor}
use Rattle.laws_call.specs.laws_record.proofs.DirSteps.{apart_before}
use Rattle.laws_call.specs.laws_record.proofs.Entered.{directory}
use Rattle.pack_laws.proofs.Keys.{same_fid}
use Rattle.laws_call.specs.pack_model.specs.hints.Links.{dir_slots, dir_words}
use Rattle.laws_call.specs.pack_model.specs.hints.Misled.{StandsInEntry, leader_page}
use Rattle.laws_call.specs.pack_model.specs.hints.Sources.{IsFrom}
use Rattle.laws_call.specs.pack_model.specs.operations.Commands.{grown_claims, grown_label, grown_value}
use Rattle.laws_call.specs.pack_model.specs.operations.Committing.{page_of_word}
use Rattle.laws_call.specs.pack_model.specs.operations.Operations.{drop_writes, release_file_writes}
use Rattle.laws_call.specs.pack_model.specs.operations.PageWords.{entered_words, freed_value, widening_bytes}
use Rattle.laws_call.specs.pack_model.specs.operations.Rooms.{left_over}
use Rattle.laws_call.specs.pack_model.specs.operations.Step.Operation.{leave}
use Rattle.laws_call.specs.pack_model.specs.operations.Step.{Operation}
use Rattle.laws_call.specs.pack_model.specs.reading.Bodies.Body.{data_of, items_of}
use Rattle.laws_call.specs.pack_model.specs.reading.Files.{file_bytes, lives}
use Rattle.laws_call.specs.pack_model.specs.reading.Lookup.{EntryAt, entered, entry_at}
use Rattle.laws_call.specs.pack_model.specs.reading.Model.{dir_items, read_as}
use Rattle.laws_call.specs.pack_model.specs.reading.Namings.{namings_in}
use Rattle.laws_call.specs.pack_model.specs.reading.Sights.{sights}
use Rattle.laws_call.specs.pack_model.specs.reading.Slots.Item.{entry, space}
use Rattle.laws_call.specs.pack_model.specs.reading.SlotWords.{space_words}
use Rattle.laws_call.specs.pack_model.specs.reading.Slots.{Item, all_words, entry_length, item_words, slots}
use Rattle.laws_call.specs.pack_model.specs.reading.Versions.{Entered, exact}
use Rattle.laws_call.specs.pack_model.specs.states.Whole.{Tidy, Whole}
use Rattle.laws_steps.proofs.inside.Beside.{exact_here, found_beside}
use Rattle.laws_steps.proofs.inside.Released.{elsewhere, entry_stays, found_released}
use Rattle.laws_steps.specs.KeepingLaws.{IfByEntry, StaysEntered, WrittenKeepsFound}

-- files of which a test says otherwise are two
pub apart_by : (test : Fid → Bool) (d f : Fid) → test d ≡ true → test f ≡ false → is_fid d f ≡ false
apart_by test d f for_one not_other = by (is_fid d f) refl
  where
    by : (b : Bool) → is_fid d f ≡ b → b ≡ false
    by false e = refl
    by true e = let clash : true ≡ false = sym for_one ∙ ap test (same_fid d f e) ∙ not_other in cc

-- ---- on the slots of a directory
-- where only free slots go
beside_free : (p : Pack) (events : List Event) (d : Fid) (a old new b : List Item) (g : Fid) (at : ℕ) (from : Place) → Whole p → LeavesOthers d p (after p events) → KeepsPages d 0 p (after p events) → ReplacesSlots p (after p events) d a old new b
    → namings_in d old ≡ [] → IsFrom p g at from → IsFrom (after p events) g at from
beside_free p events d a old new b g at Root w left keeps r bare h = h
beside_free p events d a old new b g at (Next i) w left keeps r bare h = h
beside_free p events d a old new b g at (Held i) w left keeps r bare h = found_file_stays_found d p events g at (Held i) w left tt (inr keeps) h
beside_free p events d a old new b g at (Entry e k) w left keeps r bare h = by (is_fid e d) refl
  where
    by : (c : Bool) → is_fid e d ≡ c → IsFrom (after p events) g at (Entry e k)
    by false other = found_file_stays_found d p events g at (Entry e k) w left other (inr keeps) h
    by true own = subst (λ x. IsFrom (after p events) g at (Entry x k)) (sym (same_fid e d own)) (entry_stands_outside_of_free_slots p (after p events) d a old new b k at (leader_page g) r bare (subst (λ x. IsFrom p g at (Entry x k)) (same_fid e d own) h))

-- where the slot of an entry is made free, by which the file wasn't found
slot_found : (p : Pack) (d : Fid) (slot_at : ℕ) (a b : List Item) (f : Fid) (own : List ℕ) (g : Fid) (at : ℕ) (from : Place) → Whole p → Whole (after p (value_writes slot_at (entry_freed p slot_at a f own))) → HasEntry p d slot_at a b f own → IfByEntry from (is_fid g f ≡ false)
    → IsFrom p g at from → IsFrom (after p (value_writes slot_at (entry_freed p slot_at a f own))) g at from
slot_found p d slot_at a b f own g at from w wq has other h =
    let values : List (ℕ × List ℕ) = (slot_at, entry_freed p slot_at a f own) ∷ [] in
    found_file_stays_found_beside_slots p (value_writes slot_at (entry_freed p slot_at a f own)) d a (entry f own ∷ []) (space (item_words (entry f own)) ∷ []) b g at from w
    (values_leave_others p d values w wq (place_is_of_its_file p d (page_of_word (all_words a)) slot_at has.sector, tt))
    (λ n i l is. (values_keep_places p values).places d n ∙ is)
    (leave_replaces_slots p d slot_at a b f own (slot_words_fit p d slot_at a b f own has))
    (found_beside p d a b f own g at from has.slots_are other h)
    h

-- ---- the entry that leaves
-- the entry with the name is this one
entry_meant : (p : Pack) (d : Fid) (at : ℕ) (a b : List Item) (f : Fid) (own name : List ℕ) → Tidy p → HasEntry p d at a b f own → is_same_name own name ≡ true → exact name (dir_items (read_as p) d) ≡ Some (f, own)
entry_meant p d at a b f own name t has same =
    let l = has_leader (sights p) d has.living in
    let here : get (read_as p).files d ≡ Some (directory l.0 (a ++ entry f own ∷ b)) =
    read_there p d l.0 t (not_descriptor d has.directory) l.1
    ∙ ap (λ c. Some (record { leader = l.0; body = cond c (items_of (slots (dir_words p d))) (data_of (file_bytes (sights p) d)) })) has.directory
    ∙ ap (λ is. Some (directory l.0 is)) has.slots_are in
    ap (exact name) (items_are_slots p d t has.living has.directory ∙ has.slots_are)
    ∙ exact_here d f own name same a b (apart_before (lives (sights p)) (read_as p).files d l.0 a b f own (read_entries_are_kept p) here)

-- so the file is another one, or it wasn't found by an entry
another_leaves : (p : Pack) (d : Fid) (at : ℕ) (a b : List Item) (f : Fid) (own name : List ℕ) (g : Fid) (from : Place) → Tidy p → HasEntry p d at a b f own → is_same_name own name ≡ true → StaysEntered p (leave d name) g from → IfByEntry from (is_fid g f ≡ false)
another_leaves p d at a b f own name g Root t has same stays = tt
another_leaves p d at a b f own name g (Next i) t has same stays = tt
another_leaves p d at a b f own name g (Held i) t has same stays = tt
another_leaves p d at a b f own name g (Entry c k) t has same stays =
    by (entry_at (Exact name) (dir_slots p d)) refl (lookup_is_the_models p d (Exact name) t has.living has.directory ∙ entry_meant p d at a b f own name t has same)
  where
    by : (r : Option EntryAt) → entry_at (Exact name) (dir_slots p d) ≡ r → option_map entered r ≡ Some (f, own) → is_fid g f ≡ false
    by None is met = absurd (let clash : None ≡ Some (f, own) = met in cc)
    by (Some e) is met =
        let one : (e.fid, e.name) ≡ (f, own) = cc in
        let fid : e.fid ≡ f = ap (λ (x : Entered). x.0) one in
        ap (is_fid g) (sym fid) ∙ stays e is

-- ---- a drop
-- what is known however it was found
pub if_by_entry : (P : Type 0) (from : Place) → P → IfByEntry from P
if_by_entry P Root h = tt
if_by_entry P (Entry d w) h = h
if_by_entry P (Next i) h = tt
if_by_entry P (Held i) h = tt

dropped : (p : Pack) (f d : Fid) (at : ℕ) (pages : List ℕ) (slot_at : ℕ) (a b : List Item) (own : List ℕ) (g : Fid) (bt : ℕ) (from : Place) → Whole p → Tidy p → MayDrop p f at pages → HasEntry p d slot_at a b f own → is_fid g f ≡ false → IsFrom p g bt from
    → IsFrom (after p (drop_writes at pages slot_at (entry_freed p slot_at a f own))) g bt from
dropped p f d at pages slot_at a b own g bt from w t may has other h =
    let mid : Pack = after p (release_file_writes at pages) in
    let left : LeavesOthers f p mid = release_leaves_others p f at pages w t may in
    let ne : is_fid d f ≡ false = (drop_leaves_others p f d at pages slot_at a b own w t may has).apart in
    let sector : sector_at mid slot_at ≡ sector_at p slot_at = left.sectors d (page_of_word (all_words a)) slot_at ne has.sector in
    let end : after p (drop_writes at pages slot_at (entry_freed p slot_at a f own)) ≡ after mid (value_writes slot_at (entry_freed mid slot_at a f own)) =
    after-append p (release_file_writes at pages) (value_writes slot_at (entry_freed p slot_at a f own))
    ∙ ap (λ (s : Sector). after mid (value_writes slot_at (freed_value (all_words a) (item_words (entry f own)) s.value))) (sym sector) in
    let whole : Whole (after mid (value_writes slot_at (entry_freed mid slot_at a f own))) = subst Whole end (drop_carries_out p f at pages d slot_at a b own w t may (slot_words_fit p d slot_at a b f own has)).meets.whole in
    subst (λ q. IsFrom q g bt from) (sym end)
    (slot_found mid d slot_at a b f own g bt from (release_carries_out p f at pages w t may).drops.whole whole (entry_stays p w t f at pages may d ne slot_at a b f own has) (if_by_entry (is_fid g f ≡ false) from other) (found_released p w t f at pages may g bt from other h))

-- ---- all operations
pub written_keeps_found : WrittenKeepsFound
written_keeps_found p o claimed released writes g at from w t h stays found = by h stays
  where
    -- on one file, with none of its own entries before it
    on_one : {o : Operation} {claimed released : List ℕ} {writes : List Event} → Written p o claimed released writes → IsOnOne o → ((d : Fid) (k : ℕ) → StandsInEntry p d k at (leader_page g) → is_fid d (written_file o) ≡ false) → IsFrom (after p writes) g at from
    on_one {o} {claimed} {released} {writes} x one none =
        let k : StaysKnown p o released writes = written_stays_known p o claimed released writes w t x in
        found_file_stays_found (written_file o) p writes g at from w (k.others one) (elsewhere p (written_file o) g at from none found) (inr (k.leader one)) found

    -- on an ordinary one
    on_ordinary : {o : Operation} {claimed released : List ℕ} {writes : List Event} → Written p o claimed released writes → IsOnOne o → is_directory (written_file o) ≡ false → IsFrom (after p writes) g at from
    on_ordinary {o} x one ordinary = on_one x one (λ d k s. apart_by is_directory d (written_file o) s.directory ordinary)

    -- on free slots of a directory
    on_free : {o : Operation} {claimed released : List ℕ} {writes : List Event} → Written p o claimed released writes → IsOnOne o → (a old new b : List Item) → ReplacesSlots p (after p writes) (written_file o) a old new b → namings_in (written_file o) old ≡ [] → IsFrom (after p writes) g at from
    on_free {o} {claimed} {released} {writes} x one a old new b r bare =
        let k : StaysKnown p o released writes = written_stays_known p o claimed released writes w t x in
        beside_free p writes (written_file o) a old new b g at from w (k.others one) (k.leader one) r bare found

    by : {o : Operation} {claimed released : List ℕ} {writes : List Event} → Written p o claimed released writes → StaysEntered p o g from → IsFrom (after p writes) g at from
    by (puts can past_end) stays = on_ordinary (puts can past_end) tt can.file.no_directory
    by (grows file can) stays = on_ordinary (grows file can) tt file.no_directory
    by (cuts can) stays = on_ordinary (cuts can) tt can.file.no_directory
    by (titles can stored) stays = on_ordinary (titles can stored) tt can.file.no_directory
    by (stamps {moment = moment} can size last) stays = on_ordinary (stamps {moment = moment} can size last) tt can.file.no_directory
    by (makes {f = f} {moment = moment} can) stays = on_one (makes {moment = moment} can) tt (λ d k s. apart_by (lives (sights p)) d f s.lives can.not_there)
    by (drops {f = f} {d = d} {at = i} {slot_at = slot_at} {pages = pages} {own = own} {a = a} {b = b} may has) stays = dropped p f d i pages slot_at a b own g at from w t may has stays found
    by (leaves {f = f} {d = d} {name = name} {own = own} {at = i} {a = a} {b = b} has same no_system) stays =
        slot_found p d i a b f own g at from w (written_acts p (leave d name) [] [] (value_writes i (entry_freed p i a f own)) w t (leaves {name = name} has same no_system)).stays.whole has (another_leaves p d i a b f own name g from t has same stays) found
    by (enters {f = f} {d = d} {name = name} {r = r} {leader_at = leader_at} {at = i} {next_at = next_at} can leader) stays =
        let words : List ℕ = entered_words f leader_at name (left_in r name) in
        let e = enter_words_fit p d name f leader_at r i next_at can in
        on_free (enters can leader) tt e.before e.old (entry f name ∷ left_over (left_in r name) []) e.behind
        (subst (λ room. ReplacesSlots p (after p (entering_writes p room words)) d e.before e.old (entry f name ∷ left_over (left_in r name) []) e.behind) e.room
        (enter_replaces_slots p d name f e.before e.old e.behind (left_in r name) words i next_at w t e.may).slots_are)
        (run_bare d (entry_length (length name)) e.old e.behind (all_words e.old) e.may.room.run_is)
    by (widens {d = d} {past = past} {fresh = fresh} {b = b} {at = i} dir can) stays =
        on_free (widens dir can) tt (slots (dir_words p d)) [] (space 256 ∷ []) []
        (widen_replaces_slots p d (space_words 256) (grown_claims p.shape d b i widening_bytes past fresh) i (grown_label p.shape b widening_bytes fresh (sector_at p i).label) (grown_value b widening_bytes past fresh (sector_at p i).value) w t (widen_words_fit p d b past fresh i w dir can)) refl
