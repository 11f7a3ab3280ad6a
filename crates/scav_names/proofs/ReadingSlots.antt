-- The slots of a page, taken into the catalogue one after another.
use Rattle.std.proofs.Common.{◌≡◌, ℕ, ◌+◌, ◌<◌, Bool, true, false, cond, List, [], ◌∷◌, ◌++◌, map, Some, None, refl, sym, ap, ◌∙◌, subst, append_assoc, append-nil, arith}
use Rattle.std.proofs.lemmas.List.{map-append}
use Rattle.alto_words.specs.declared.fid.Fid.{Fid}
use Rattle.alto_words.specs.Fid.{is_fid, sys_dir}
use Rattle.dir_slots.specs.declared.slot.Slot.{Slot}
use Rattle.dir_slots.specs.declared.slot.Slot.TheVariants.{Free, Entry}
use Rattle.dir_slots.specs.declared.walk.PlacedSlot.{PlacedSlot}
use Rattle.dir_slots.specs.Items.{HasFreeLength, IsInRange}
use Rattle.dir_slots.specs.Walks.{Meets, Walking, placed_slots, slot_met}
use Rattle.dir_slots.specs.Walks as slot_walk
use Rattle.dir_slots.proofs.Slots.{all_words-append}
use Rattle.pack_model.specs.reading.Slots.{Item, all_words, item_words}
use Rattle.pack_model.specs.reading.Slots.Item.{space, entry}
use Rattle.pack_model.specs.reading.SlotWords.{SlotAt}
use Rattle.scav_names.specs.declared.catalogue.Catalogue.{Catalogue}
use Rattle.scav_names.specs.declared.placed.PlacedEntry.{PlacedEntry}
use Rattle.scav_names.specs.Catalogues.{TakesSlot, entries_among, with_entry}
use Rattle.scav_names.specs.Readings.{MeetsSlots}
use Rattle.scav_names.specs.Rooms.{HasSlots}

pub length_in_range : (s : Slot) → IsInRange s → HasFreeLength s
length_in_range (Free n) h = h
length_in_range (Entry f a name) h = tt

with_append : (d : Fid) (place address : ℕ) (i : Item) (xs ys : List PlacedEntry) → with_entry d place address i (xs ++ ys) ≡ with_entry d place address i xs ++ ys
with_append d place address (space n) xs ys = refl
with_append d place address (entry f name) xs ys = refl

pub among_append : (d : Fid) (xs ys : List SlotAt) → entries_among d (xs ++ ys) ≡ entries_among d xs ++ entries_among d ys
among_append d [] ys = refl
among_append d (x ∷ xs) ys = ap (with_entry d x.place x.address x.item) (among_append d xs ys) ∙ with_append d x.place x.address x.item (entries_among d xs) (entries_among d ys)

pub slots_none : (d : Fid) (given : List ℕ) (cat : Catalogue) (walk : Walking) → slot_walk.Walked given walk → MeetsSlots d given (given ++ []) cat cat walk
slots_none d given cat walk w = record {
  slots = [];
  walked = subst (λ g. slot_walk.Walked g walk) (sym (append-nil given)) w;
  placed = ap placed_slots (append-nil given) ∙ sym (append-nil (placed_slots given));
  entries_are = sym (append-nil cat.entries);
  rooms = λ is has few. by (is_fid d sys_dir) is has;
}
  where
    by : (b : Bool) (is : List Item) → HasSlots cat.rooms is → HasSlots cat.rooms (cond b (is ++ []) is)
    by true is has = subst (HasSlots cat.rooms) (sym (append-nil is)) has
    by false is has = has

pub slots_more : (d : Fid) (given mid after : List ℕ) (old cat new : Catalogue) (walk then : Walking) (met : PlacedSlot) → MeetsSlots d given mid old cat walk → Meets mid after then (Some met) → TakesSlot d (slot_met met) cat new → MeetsSlots d given after old new then
slots_more d given mid after old cat new walk then met m meets t = record {
  slots = m.slots ++ slot_met met ∷ [];
  walked = meets.walked;
  placed = meets.slots ∙ ap (λ l. l ++ slot_met met ∷ []) m.placed ∙ append_assoc (placed_slots given) m.slots (slot_met met ∷ []);
  entries_are = t.entries_are ∙ ap (λ l. l ++ entries_among d (slot_met met ∷ [])) m.entries_are ∙ append_assoc old.entries (entries_among d m.slots) (entries_among d (slot_met met ∷ [])) ∙ ap (λ l. old.entries ++ l) (sym (among_append d m.slots (slot_met met ∷ [])));
  rooms = λ is has few. by (is_fid d sys_dir) is has few (m.rooms is) t.rooms;
}
  where
    item_at : SlotAt → Item
    item_at s = s.item

    both : map (λ (s : SlotAt). s.item) (m.slots ++ slot_met met ∷ []) ≡ map (λ (s : SlotAt). s.item) m.slots ++ (slot_met met).item ∷ []
    both = map-append (λ (s : SlotAt). s.item) m.slots (slot_met met ∷ [])

    words : all_words (map (λ (s : SlotAt). s.item) (m.slots ++ slot_met met ∷ [])) ≡ all_words (map (λ (s : SlotAt). s.item) m.slots) + (item_words (slot_met met).item + 0)
    words = ap all_words both ∙ all_words-append (map (λ (s : SlotAt). s.item) m.slots) ((slot_met met).item ∷ [])

    by : (b : Bool) (is : List Item) → HasSlots old.rooms is → all_words is + all_words (map (λ (s : SlotAt). s.item) (m.slots ++ slot_met met ∷ [])) < 4294967296
        → (HasSlots old.rooms is → all_words is + all_words (map (λ (s : SlotAt). s.item) m.slots) < 4294967296 → HasSlots cat.rooms (cond b (is ++ map (λ (s : SlotAt). s.item) m.slots) is))
        → ((js : List Item) → HasSlots cat.rooms js → all_words js + item_words (slot_met met).item < 4294967296 → HasSlots new.rooms (cond b (js ++ (slot_met met).item ∷ []) js))
        → HasSlots new.rooms (cond b (is ++ map (λ (s : SlotAt). s.item) (m.slots ++ slot_met met ∷ [])) is)
    by true is has few first second =
        let w = words in
        let front : List Item = is ++ map (λ (s : SlotAt). s.item) m.slots in
        let sum : all_words front ≡ all_words is + all_words (map (λ (s : SlotAt). s.item) m.slots) = all_words-append is (map (λ (s : SlotAt). s.item) m.slots) in
        subst (HasSlots new.rooms) (append_assoc is (map (λ (s : SlotAt). s.item) m.slots) ((slot_met met).item ∷ []) ∙ ap (λ l. is ++ l) (sym both))
        (second front (first has (omega arith)) (omega arith))
    by false is has few first second = let w = words in second is (first has (omega arith)) (omega arith)

pub slots_end : (d : Fid) (given mid after : List ℕ) (old cat : Catalogue) (walk then : Walking) → MeetsSlots d given mid old cat walk → Meets mid after then None → MeetsSlots d given after old cat then
slots_end d given mid after old cat walk then m meets = record {
  slots = m.slots;
  walked = meets.walked;
  placed = meets.slots ∙ append-nil (placed_slots mid) ∙ m.placed;
  entries_are = m.entries_are;
  rooms = m.rooms;
}
