-- Drop: all its record writes, one after another.
use Rattle.std.proofs.Common.{List, [], ap, cond, false, length, refl, subst, sym, true, ℕ, ◌++◌, ◌+◌, ◌/◌, ◌∙◌, ◌∷◌, ◌≡◌, ◌≤◌}
use Rattle.std.specs.Option.{is_some}
use Rattle.laws_contents.specs.alto_words.specs.Fid.{is_fid}
use Rattle.laws_contents.specs.disk_records.proofs.Growing.{after-append}
use Rattle.laws_contents.specs.disk_records.specs.Commands.{value_writes}
use Rattle.laws_contents.specs.disk_records.specs.Packs.{Pack, after, sector_at}
use Rattle.laws_contents.specs.disk_records.specs.declared.records.Event.{Event}
use Rattle.laws_contents.specs.pack_model.specs.reading.Bodies.{body_items, items_in}
use Rattle.laws_contents.specs.pack_model.specs.reading.Bodies.Body.{data_of, items_of}
use Rattle.laws_contents.specs.pack_model.specs.reading.Bytes.{words_of}
use Rattle.laws_contents.specs.pack_model.specs.operations.Committing.{moves_of}
use Rattle.laws_contents.specs.pack_model.specs.sessions.Descriptor.{DescriptorFits}
use Rattle.laws_contents.specs.pack_model.specs.reading.Files.{file_bytes, lives}
use Rattle.laws_contents.specs.pack_model.specs.hints.Links.{dir_words}
use Rattle.laws_contents.specs.pack_model.specs.sessions.Meanings.{reading}
use Rattle.laws_contents.specs.pack_model.specs.reading.Model.{dir_items, read_as}
use Rattle.laws_contents.specs.pack_model.specs.sessions.Moves.{Obeys, steps}
use Rattle.laws_contents.specs.pack_model.specs.reading.Namings.{Naming, namings_in}
use Rattle.laws_contents.specs.pack_model.specs.operations.Operations.{release_file_writes}
use Rattle.laws_contents.specs.pack_model.specs.operations.Operations.Move.{quiet}
use Rattle.laws_contents.specs.pack_model.specs.operations.PageWords.{freed_value}
use Rattle.laws_contents.specs.pack_model.specs.reading.Sights.{Sight, sights}
use Rattle.laws_contents.specs.pack_model.specs.reading.Sights.Sight.{hidden}
use Rattle.laws_contents.specs.pack_model.specs.reading.Slots.{all_words, item_words, slot_at, slots}
use Rattle.laws_contents.specs.pack_model.specs.reading.Slots.Item.{entry}
use Rattle.laws_contents.specs.pack_model.specs.operations.Step.{Operation}
use Rattle.laws_contents.specs.pack_model.specs.operations.Step.Operation.{drop_file}
use Rattle.laws_contents.specs.pack_model.specs.states.Whole.{Tidy, Whole}
use Rattle.laws_contents.specs.pack_laws.proofs.Keys.{same_fid}
use Rattle.laws_contents.specs.pack_laws.proofs.Moving.{obeys_then, stands_last}
use Rattle.laws_contents.specs.laws_record.proofs.DirReads.{has_leader, not_descriptor}
use Rattle.laws_contents.specs.laws_record.proofs.DirWords.{dir_page}
use Rattle.laws_contents.specs.laws_record.proofs.Entered.{namings_in-append}
use Rattle.laws_contents.specs.laws_record.specs.DirLaws.{DirWrite, Frees}
use Rattle.laws_operation.proofs.Dropped.{release_law, read_there}
use Rattle.laws_operation.proofs.inside.Elsewhere.{MayBe, not_same, other_bytes, other_leader}
use Rattle.laws_operation.proofs.inside.Freeing.{slot_carries_out}
use Rattle.laws_operation.proofs.inside.Kept.{cuts_read, same_places}
use Rattle.laws_operation.proofs.Seating.{leader_none_is}
use Rattle.laws_operation.specs.LifeLaws.{DropCarriesOut, SlotFreed, first_moves}
use Rattle.laws_operation.specs.Outcomes.{KeepsDescriptor}

-- what two steps keep
kept_twice : (p q r : Pack) → KeepsDescriptor p q → KeepsDescriptor q r → KeepsDescriptor p r
kept_twice p q r x y = record {
  places = λ n. y.places n ∙ x.places n;
  bytes = y.bytes ∙ x.bytes;
  clean = (λ c. y.clean.0 (x.clean.0 c), λ c. x.clean.1 (y.clean.1 c));
}

-- a list with an item is not empty
pub not_none : (x : List Naming) (e : Naming) (y : List Naming) → x ++ e ∷ y ≡ [] → ⊥
not_none [] e y h = absurd cc
not_none (n ∷ x) e y h = absurd cc

-- both parts, one after the other
pub drop_carries_out : DropCarriesOut
drop_carries_out p f at pages d slot_at a b own w t hyp fr =
    let ss : List Sight = sights p in
    let go = release_law p w t f at pages hyp in
    let p1 : Pack = after p (release_file_writes at pages) in
    let h = fr.write in
    let dir_leader = has_leader ss d h.lives in
    let items_are : dir_items (read_as p) d ≡ a ++ entry f own ∷ b =
    ap items_in (read_there p d dir_leader.0 t (not_descriptor d h.directory) dir_leader.1) ∙ ap (λ c. body_items (cond c (items_of (slots (dir_words p d))) (data_of (file_bytes ss d)))) h.directory ∙ fr.slots_are in
    let apart : is_fid d f ≡ false = elim (is_fid d f) as (λ c. is_fid d f ≡ c → c ≡ false) [
      | true ↦ λ e. absurd (not_none (namings_in d a) (record { dir = d; name = own; fid = f }) (namings_in d b) (sym (namings_in-append d a (entry f own ∷ b)) ∙ sym (ap (namings_in d) items_are) ∙ subst (λ g. namings_in g (dir_items (read_as p) g) ≡ []) (sym (same_fid d f e)) hyp.bare))
      | false ↦ λ e. refl
    ] refl in
    let bytes : file_bytes (sights p1) d ≡ file_bytes ss d = other_bytes f ss (sights p1) go.1 d apart in
    let words : dir_words p1 d ≡ dir_words p d = ap words_of bytes in
    let write1 : DirWrite p1 d (all_words a) slot_at (all_words (entry f own ∷ []) ∷ []) = record {
      directory = h.directory;
      lives = ap is_some (other_leader f ss (sights p1) go.1 d apart) ∙ h.lives;
      sector = same_places f d ss (sights p1) go.1 apart (all_words a / 256 + 1) ∙ h.sector;
      some = h.some;
      one_page = h.one_page;
      within = subst (λ ws. all_words a + 1 ≤ length ws) (sym words) h.within;
    } in
    let fr1 : Frees p1 d slot_at a (entry f own ∷ []) b = record { slots_are = ap slots words ∙ fr.slots_are; some = fr.some; most = fr.most; write = write1 } in
    let dead : lives (sights p1) f ≡ false = ap is_some (leader_none_is (sights p1) f (go.0).drops.gone) in
    let last = slot_carries_out p1 f d slot_at a b own (go.0).drops.whole (go.0).drops.tidy_but dead fr1 in
    let n : ℕ = item_words (entry f own) in
    let there = dir_page p d (all_words a) slot_at (all_words (entry f own ∷ []) ∷ []) h in
    let same_sector : sector_at p1 slot_at ≡ sector_at p slot_at = go.2 slot_at (λ z. not_same d f apart (subst (MayBe f) (there.shows hidden) z)) in
    let events1 : List Event = value_writes slot_at (freed_value (all_words a) n (sector_at p1 slot_at).value) in
    let events2 : List Event = value_writes slot_at (freed_value (all_words a) n (sector_at p slot_at).value) in
    let events_are : events1 ≡ events2 = ap (λ s. value_writes slot_at (freed_value (all_words a) n s.value)) same_sector in
    let last2 : SlotFreed p1 events2 = subst (SlotFreed p1) events_are last in
    let o : Operation = drop_file f in
    let e : after p (release_file_writes at pages ++ events2) ≡ after p1 events2 = after-append p (release_file_writes at pages) events2 in
    let model : read_as p1 ≡ steps reading (read_as p) (first_moves p f) = stands_last reading (go.0).drops.obeys in
    let obeys : Obeys reading (read_as p) p (release_file_writes at pages ++ events2) (moves_of (read_as p) o) = obeys_then reading (go.0).drops.obeys (subst (λ m. Obeys reading m p1 events2 (quiet ∷ [])) model last2.meets.obeys) in
    record {
      meets = record { obeys = obeys; whole = subst Whole (sym e) last2.meets.whole; tidy = subst Tidy (sym e) last2.meets.tidy };
      cuts = cuts_read p (release_file_writes at pages ++ events2) (moves_of (read_as p) o) obeys;
      ends = ap read_as e ∙ stands_last reading last2.meets.obeys ∙ (go.0).ends;
      descriptor = subst (KeepsDescriptor p) (sym e) (kept_twice p p1 (after p1 events2) (go.0).descriptor last2.descriptor);
      fits = λ shape s mark ps x. subst (λ r. DescriptorFits r shape s mark ps) (sym e) (last2.fits shape s mark ps ((go.0).fits shape s mark ps x));
    }
