-- Hints that mislead after a leaving and an entering.
use Rattle.std.proofs.Common.{Bool, List, Some, [], ap, false, inl, inr, refl, subst, sym, true, ℕ, length, ◌++◌, ◌+◌, ◌/◌, ◌∙◌, ◌∷◌, ◌≡◌, ◌⊎◌, zero, suc}
use Rattle.std.specs.Prelude.{Contains}
use Rattle.laws_operation.specs.alto_words.specs.Fid.{is_fid}
use Rattle.laws_operation.specs.alto_words.specs.declared.fid.Fid.{Fid}
use Rattle.laws_operation.specs.disk_records.specs.Packs.{Pack, after, carried, sector_at}
use Rattle.laws_operation.specs.disk_records.specs.Words.{word}
use Rattle.laws_operation.specs.disk_records.specs.declared.records.Page.{Page}
use Rattle.laws_operation.specs.disk_records.specs.declared.records.Place.TheVariants.{Entry, Held, Next, Root}
use Rattle.laws_operation.specs.pack_model.specs.hints.Links.{dir_words}
use Rattle.laws_operation.specs.pack_model.specs.hints.Misled.{Misled, StandsInEntry}
use Rattle.laws_operation.specs.pack_model.specs.operations.Commands.{values_writes}
use Rattle.laws_operation.specs.pack_model.specs.operations.Entering.{EntryRoom, entry_value, values_first}
use Rattle.laws_operation.specs.pack_model.specs.operations.PageWords.{freed_value}
use Rattle.laws_operation.specs.pack_model.specs.operations.Rooms.{left_over}
use Rattle.laws_operation.specs.pack_model.specs.reading.Files.{place}
use Rattle.laws_operation.specs.pack_model.specs.reading.Namings.{namings_in}
use Rattle.laws_operation.specs.pack_model.specs.reading.Sights.{sights}
use Rattle.laws_operation.specs.pack_model.specs.reading.SlotWords.{SlotAt, address_word, slots_at}
use Rattle.laws_operation.specs.pack_model.specs.reading.Slots.{Item, all_words, entry_length, item_words}
use Rattle.laws_operation.specs.pack_model.specs.reading.Slots.Item.{entry, space}
use Rattle.laws_operation.specs.pack_model.specs.states.Whole.{Whole}
use Rattle.laws_operation.specs.pack_laws.proofs.Keys.{same_fid}
use Rattle.laws_operation.specs.laws_record.proofs.Carried.{values_carried}
use Rattle.laws_operation.specs.laws_record.proofs.Copying.{place_carried}
use Rattle.laws_operation.proofs.Concerning.{events_are, values_of}
use Rattle.laws_operation.proofs.enter.Laws.{enter_carries_out}
use Rattle.laws_operation.proofs.places.Laws.{values_keep_places}
use Rattle.laws_operation.specs.NameLaws.{entry_room}
use Rattle.laws_lookup.proofs.inside.Found.{in_cases}
use Rattle.laws_lookup.proofs.inside.LeftAlone.{of_all, place_is_of_its_file, values_leave_others}
use Rattle.laws_lookup.proofs.Replacing.{entry_stands_outside_of_free_slots, no_entry, replacing_turns_round, still}
use Rattle.laws_lookup.proofs.inside.Replacings.{enter_replaces_slots, leave_replaces_slots}
use Rattle.laws_lookup.proofs.inside.Staying.{address_misled_before, values_leave_next_links}
use Rattle.laws_lookup.proofs.inside.TrueHints.{within_pack}
use Rattle.laws_lookup.specs.BeforeLaws.{EnterMisledBefore, LeaveMisledBefore}
use Rattle.laws_lookup.specs.OtherLaws.{AreOfFile}
use Rattle.laws_lookup.specs.OwnLaws.{EntersSlots}
use Rattle.laws_lookup.specs.StayLaws.{MisledBefore}

-- ---- values of a directory
-- where each entry of the directory that misleads misled before, each hint did
values_before : (p : Pack) (d : Fid) (values : List (ℕ × List ℕ)) → Whole p → Whole (after p (values_writes values)) → AreOfFile p d values
    → ((w at : ℕ) (wanted : Page) → Misled (after p (values_writes values)) (Entry d w) at wanted → Misled p (Entry d w) at wanted) → MisledBefore p (values_writes values)
values_before p d values wp wq of own Root at wanted on m = absurd on
values_before p d values wp wq of own (Next i) at wanted on m = values_leave_next_links p values i at wanted m
values_before p d values wp wq of own (Held i) at wanted on m = absurd on
values_before p d values wp wq of own (Entry e w) at wanted on m = by (is_fid e d) refl
  where
    by : (b : Bool) → is_fid e d ≡ b → Misled p (Entry e w) at wanted
    by false other = address_misled_before d p (values_writes values) e w at wanted wp (values_leave_others p d values wp wq of) other (inr (λ n i l there. (values_keep_places p values).places d n ∙ there)) m
    by true same = subst (λ g. Misled p (Entry g w) at wanted) (sym (same_fid e d same)) (own w at wanted (subst (λ g. Misled (after p (values_writes values)) (Entry g w) at wanted) (same_fid e d same) m))

pub leave_misled_before : LeaveMisledBefore
leave_misled_before p d at a b f own wp wq h =
    let values : List (ℕ × List ℕ) = (at, freed_value (all_words a) (item_words (entry f own)) (sector_at p at).value) ∷ [] in
    let r = leave_replaces_slots p d at a b f own h in
    let q : Pack = after p (values_writes values) in
    values_before p d values wp wq (place_is_of_its_file p d (all_words a / 256 + 1) at h.write.sector, tt) (λ w bt wanted m. record {
      stands = entry_stands_outside_of_free_slots q p d a (space (item_words (entry f own)) ∷ []) (entry f own ∷ []) b w bt wanted (replacing_turns_round p q d a (entry f own ∷ []) (space (item_words (entry f own)) ∷ []) b r) refl m.stands;
      misses = λ i n is. m.misses i n (values_carried values p i ∙ is);
    })

-- ---- an entering
left_bare : (d : Fid) (left : ℕ) → namings_in d (left_over left []) ≡ []
left_bare d zero = refl
left_bare d (suc n) = refl

-- the slot of the entry that came, or a free one
new_slot : (words : List ℕ) (begin : ℕ) (f : Fid) (name : List ℕ) (is : List Item) (s : SlotAt) → Contains (slots_at words begin (entry f name ∷ is)) s → (record { place = begin; item = entry f name; address = word words (address_word begin) } ≡ s) ⊎ Contains (slots_at words (begin + entry_length (length name)) is) s
unfolding slots_at
new_slot words begin f name is s h = in_cases (record { place = begin; item = entry f name; address = word words (address_word begin) }) (slots_at words (begin + entry_length (length name)) is) s h

entry_fid : (f g : Fid) (name own : List ℕ) → ◌≡◌ {A = Item} (entry f name) (entry g own) → f ≡ g
entry_fid f g name own e = cc

pub enter_misled_before : EnterMisledBefore
enter_misled_before p d name f a old b left words at next_at wp t h address =
    let r : EntryRoom = entry_room a old at next_at in
    let values : List (ℕ × List ℕ) = values_first p r words ++ (at, entry_value p r words) ∷ [] in
    let es = events_are p wp t d name f a old b left words at next_at h in
    let out = enter_carries_out p d name f a old b left words at next_at wp t h in
    let wq : Whole (after p (values_writes values)) = subst (λ x. Whole (after p x)) (sym es) out.sees.whole in
    let q : Pack = after p (values_writes values) in
    let e = subst (λ x. EntersSlots p (after p x) d a old b f name left (word words (address_word 0))) (sym es) (enter_replaces_slots p d name f a old b left words at next_at wp t h) in
    let new : List Item = entry f name ∷ left_over left [] in
    subst (MisledBefore p) es (values_before p d values wp wq (of_all p d values (values_of p wp t d name f a old b left words at next_at h)) (λ w bt wanted m.
    let s : StandsInEntry q d w bt wanted = m.stands in
    elim (still q p d a new old b (replacing_turns_round p q d a old new b e.slots_are) s.slot s.stands) [
      | inl there ↦ record {
        stands = record {
          lives = sym e.slots_are.living ∙ s.lives;
          directory = s.directory;
          slot = s.slot;
          name = s.name;
          stands = there;
          item = s.item;
          number = s.number;
          word = s.word;
          address = s.address;
        };
        misses = λ i n is. m.misses i n (values_carried values p i ∙ is);
      }
      | inr came ↦ elim (new_slot (dir_words q d) (all_words a) f name (left_over left []) s.slot came) [
        | inl one ↦
            let fid : f ≡ wanted.fid = entry_fid f wanted.fid name s.name (ap (λ (x : SlotAt). x.item) one ∙ s.item) in
            let bt_is : word words (address_word 0) ≡ bt = sym e.address_is ∙ ap (λ (x : SlotAt). x.address) one ∙ sym s.address in
            let there : place (sights p) wanted.fid wanted.number ≡ Some bt = ap (place (sights p) wanted.fid) s.number ∙ ap (λ g. place (sights p) g 0) (sym fid) ∙ address ∙ ap Some bt_is in
            let is : carried q bt ≡ Some wanted = values_carried values p bt ∙ place_carried p wanted bt there in
            let names = within_pack q wanted bt is in
            absurd (m.misses bt (record { first = names.0; last = names.1; named = refl }) is)
        | inr free ↦ absurd (no_entry d (dir_words q d) (all_words a + entry_length (length name)) (left_over left []) s.slot wanted.fid s.name (left_bare d left) free s.item)
      ]
    ]))
