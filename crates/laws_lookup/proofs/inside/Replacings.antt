-- A directory's slots in a leaving, an entering and a widening.
use Rattle.std.proofs.Common.{List, [], ap, append-nil, arith, inl, inr, length, refl, subst, sym, true, ℕ, ◌++◌, ◌+◌, ◌-◌, ◌∙◌, ◌∷◌, ◌≡◌}
use Rattle.std.proofs.lemmas.List.{get_or_append_left}
use Rattle.std.specs.Option.{is_some}
use Rattle.laws_operation.specs.disk_records.specs.Commands.{value_writes}
use Rattle.laws_operation.specs.disk_records.specs.Packs.{Pack, after, sector_at}
use Rattle.laws_operation.specs.disk_records.specs.Words.{word}
use Rattle.laws_operation.specs.disk_records.specs.declared.records.Event.{Event}
use Rattle.laws_operation.specs.pack_model.specs.hints.Links.{dir_words}
use Rattle.laws_operation.specs.pack_model.specs.operations.Committing.{page_of_byte}
use Rattle.laws_operation.specs.pack_model.specs.operations.Entering.{EntryRoom, entry_value, values_first}
use Rattle.laws_operation.specs.pack_model.specs.operations.Operations.{enter_writes, grow_writes}
use Rattle.laws_operation.specs.pack_model.specs.operations.PageWords.{freed_value, page_number}
use Rattle.laws_operation.specs.pack_model.specs.operations.Rooms.{left_over}
use Rattle.laws_operation.specs.pack_model.specs.reading.Files.{file_bytes, lives, place}
use Rattle.laws_operation.specs.pack_model.specs.reading.Sights.{sights}
use Rattle.laws_operation.specs.pack_model.specs.reading.Slots.{all_words, item_words, slots}
use Rattle.laws_operation.specs.pack_model.specs.reading.Slots.Item.{entry, space}
use Rattle.laws_operation.specs.pack_model.specs.reading.Slots.Reads.{next, none}
use Rattle.laws_operation.specs.laws_record.proofs.Copying.{place_carried}
use Rattle.laws_operation.specs.laws_record.proofs.DirWords.{dir_change}
use Rattle.laws_operation.specs.laws_record.proofs.Heads.{all_read}
use Rattle.laws_operation.specs.laws_record.proofs.Slotting.{slots_reads}
use Rattle.laws_operation.specs.laws_record.proofs.Slotwise.{put_before, put_after, slots_freed}
use Rattle.laws_operation.specs.laws_record.proofs.SystemEntries.{left_split, left_words}
use Rattle.laws_operation.proofs.Concerning.{end_is, entered_slots, entered_words_apart, events_are, widened_words}
use Rattle.laws_operation.proofs.enter.Laws.{enter_carries_out}
use Rattle.laws_operation.proofs.entries.Laws.{items_are_slots}
use Rattle.laws_operation.proofs.places.Laws.{file_lives_in_a_place, values_keep_places}
use Rattle.laws_operation.specs.NameLaws.{entry_room}
use Rattle.laws_lookup.proofs.inside.LeftAlone.{widen_keeps_pages}
use Rattle.laws_lookup.proofs.inside.TrueHints.{page_lives, some_of}
use Rattle.laws_lookup.specs.OwnLaws.{EnterReplacesSlots, FreeingReplacesSlots, LeaveReplacesSlots, ReplacesSlots, WidenReplacesSlots}

-- ---- a free slot comes
pub freeing_replaces_slots : FreeingReplacesSlots
freeing_replaces_slots p d at a old b h =
    let new : List ℕ = all_words old ∷ [] in
    let one : length new ≡ 1 = refl in
    let some = h.some in
    let most = h.most in
    let c = dir_change p d (all_words a) at new h.write in
    record {
      living = ap is_some (c.leaders d);
      were = h.slots_are;
      are = ap slots c.words_are ∙ slots_freed (dir_words p d) a old b h.slots_are h.some (omega arith);
      size = inr (omega arith);
      before = λ k l. ap (λ ws. word ws k) c.words_are ∙ put_before (all_words a) new (dir_words p d) k h.write.within l;
      later = λ k l m. ap (λ ws. word ws k) c.words_are ∙ put_after (all_words a) new (dir_words p d) k h.write.within (omega arith);
    }

pub leave_replaces_slots : LeaveReplacesSlots
leave_replaces_slots p d at a b f own h =
    let z : item_words (entry f own) + 0 ≡ item_words (entry f own) = omega arith in
    subst (λ n. ReplacesSlots p (after p (value_writes at (freed_value (all_words a) n (sector_at p at).value))) d a (entry f own ∷ []) (space n ∷ []) b) z (freeing_replaces_slots p d at a (entry f own ∷ []) b h)

-- ---- an entry comes
pub enter_replaces_slots : EnterReplacesSlots
enter_replaces_slots p d name f a old b left words at next_at w t h =
    let r : EntryRoom = entry_room a old at next_at in
    let events : List Event = enter_writes (values_first p r words) at (entry_value p r words) in
    let q : Pack = after p events in
    let out = enter_carries_out p d name f a old b left words at next_at w t h in
    let es = events_are p w t d name f a old b left words at next_at h in
    let e = ap (after p) (sym es) ∙ end_is p w t d name f a old b left words at next_at h in
    let apart = entered_words_apart p w t d name f a old b left words at next_at h in
    let living : lives (sights q) d ≡ lives (sights p) d = ap (λ x. lives (sights (after p x)) d) (sym es) ∙ (values_keep_places p (values_first p r words ++ (at, entry_value p r words) ∷ [])).living d in
    let total = h.total in
    let k : ℕ = all_words old - item_words (entry f name) in
    let k_is : k ≡ left = omega arith in
    let size : all_words (left_over left []) ≡ left + 0 = left_words left [] in
    record {
      slots_are = record {
        living = living;
        were = sym (items_are_slots p d t h.living h.directory) ∙ h.room.split;
        are = sym (items_are_slots q d out.sees.tidy (living ∙ h.living) h.directory) ∙ entered_slots p d name f a old b left words at next_at w t h ∙ ap (λ n. a ++ entry f name ∷ left_over n b) k_is ∙ ap (λ is. a ++ entry f name ∷ is) (left_split left b);
        size = inr (omega (arith, size, total));
        before = λ j l. ap (λ x. word (dir_words x d) j) e ∙ apart.0.before j l;
        later = λ j l m. ap (λ x. word (dir_words x d) j) e ∙ apart.0.behind j l;
      };
      address_is = ap (λ x. word (dir_words x d) (all_words a + 5)) e ∙ apart.1;
    }

-- ---- a page more
pub widen_replaces_slots : WidenReplacesSlots
widen_replaces_slots p d added claims at label value w t h =
    let q : Pack = after p (grow_writes claims at label value) in
    let last : ℕ = page_of_byte (length (file_bytes (sights p) d)) in
    let live : lives (sights p) d ≡ true = page_lives p w (page_number d last) at (place_carried p (page_number d last) at h.sector) in
    let there = some_of (place (sights p) d 0) (sym (file_lives_in_a_place p d) ∙ live) in
    let now : lives (sights q) d ≡ true = file_lives_in_a_place q d ∙ ap is_some (widen_keeps_pages p d added claims at label value w t h 0 there.0 (omega arith) there.1) in
    let words = widened_words p w t d added claims at label value h in
    let reach = w.directories d live h.directory in
    let read = all_read (dir_words p d) reach.items reach.reads in
    let one : slots added ≡ space 256 ∷ [] = (all_read added (space 256 ∷ []) (next (sym (append-nil added)) h.slot none)).0 in
    let full : all_words (slots (dir_words p d)) ≡ length (dir_words p d) = ap all_words read.0 ∙ read.1 in
    record {
      living = now ∙ sym live;
      were = sym (append-nil (slots (dir_words p d)));
      are = ap slots words ∙ slots_reads (dir_words p d) added reach.items reach.reads ∙ ap (λ is. reach.items ++ is) one ∙ ap (λ is. is ++ space 256 ∷ []) (sym read.0);
      size = inl refl;
      before = λ k l. ap (λ ws. word ws k) words ∙ get_or_append_left (dir_words p d) added 0 k (omega (arith, full));
      later = λ k l m. absurd (omega arith);
    }
