-- What a catalogue holds after one slot more.
use Rattle.std.proofs.Common.{◌≡◌, ℕ, ◌+◌, ◌<◌, true, false, cond, List, [], ◌∷◌, ◌++◌, refl, sym, ap, ◌∙◌, subst, append-nil}
use Rattle.alto_words.specs.declared.fid.Fid.{Fid}
use Rattle.alto_words.specs.Fid.{is_fid, sys_dir}
use Rattle.pack_model.specs.reading.Slots.{Item, all_words, item_words}
use Rattle.dir_slots.specs.declared.slot.Slot.{Slot}
use Rattle.dir_slots.specs.declared.slot.Slot.TheVariants.{Free, Entry}
use Rattle.dir_slots.specs.declared.walk.PlacedSlot.{PlacedSlot}
use Rattle.dir_slots.specs.Items.{address_of, item_of}
use Rattle.dir_slots.specs.Walks.{slot_met}
use Rattle.scav_names.specs.declared.catalogue.Catalogue.{Catalogue}
use Rattle.scav_names.specs.Catalogues.{TakesSlot, with_entry}
use Rattle.scav_names.specs.Rooms.{HasSlots}

-- the slot is among SysDir's slots, if it is one of SysDir
abbrev pub RoomsTake : Fid → Item → Catalogue → Catalogue → Type 0
RoomsTake d i old new = (is : List Item) → HasSlots old.rooms is → all_words is + item_words i < 4294967296 → HasSlots new.rooms (cond (is_fid d sys_dir) (is ++ i ∷ []) is)

-- and nothing else is taken yet
pub record TakesRoom (d : Fid) (i : Item) (old new : Catalogue) : Type 0 where
  pub living : new.living ≡ old.living
  pub entries_are : new.entries ≡ old.entries
  pub pages : new.root_pages ≡ old.root_pages
  pub rooms : RoomsTake d i old new

pub in_root : (d : Fid) (i : Item) (old new : Catalogue) → is_fid d sys_dir ≡ true → ((is : List Item) → HasSlots old.rooms is → all_words is + item_words i < 4294967296 → HasSlots new.rooms (is ++ i ∷ [])) → RoomsTake d i old new
in_root d i old new e h = λ is has few. subst (λ b. HasSlots new.rooms (cond b (is ++ i ∷ []) is)) (sym e) (h is has few)

pub elsewhere : (d : Fid) (i : Item) (old new : Catalogue) → is_fid d sys_dir ≡ false → new.rooms ≡ old.rooms → RoomsTake d i old new
elsewhere d i old new e same = λ is has few. subst (λ b. HasSlots new.rooms (cond b (is ++ i ∷ []) is)) (sym e) (subst (λ r. HasSlots r is) (sym same) has)

-- ---- the whole slot
entry_here : (d : Fid) (place : ℕ) (s : Slot) (f : Fid) (a : ℕ) (name : List ℕ) → s ≡ Entry f a name → with_entry d place (address_of s) (item_of s) [] ≡ record { dir = d; place = place; fid = f; leader_at = a; name = name } ∷ []
entry_here d place s f a name e = ap (λ s. with_entry d place (address_of s) (item_of s) []) e

none_here : (d : Fid) (place : ℕ) (s : Slot) → ((f : Fid) (a : ℕ) (name : List ℕ) → s ≡ Entry f a name → ⊥) → with_entry d place (address_of s) (item_of s) [] ≡ []
none_here d place (Free n) apart = refl
none_here d place (Entry f a name) apart = absurd (apart f a name refl)

pub free_taken : (d : Fid) (met : PlacedSlot) (old new : Catalogue) → ((f : Fid) (a : ℕ) (name : List ℕ) → met.slot ≡ Entry f a name → ⊥) → TakesRoom d (item_of met.slot) old new → TakesSlot d (slot_met met) old new
free_taken d met old new apart t = record {
  living = t.living;
  entries_are = t.entries_are ∙ sym (ap (λ l. old.entries ++ l) (none_here d met.place met.slot apart) ∙ append-nil old.entries);
  pages = t.pages;
  rooms = t.rooms;
}

pub entry_taken : (d : Fid) (met : PlacedSlot) (old mid new : Catalogue) (f : Fid) (a : ℕ) (name : List ℕ) → met.slot ≡ Entry f a name → TakesRoom d (item_of met.slot) old mid
    → new.living ≡ mid.living → new.entries ≡ mid.entries ++ record { dir = d; place = met.place; fid = f; leader_at = a; name = name } ∷ [] → new.rooms ≡ mid.rooms → new.root_pages ≡ mid.root_pages → TakesSlot d (slot_met met) old new
entry_taken d met old mid new f a name is t living entries rooms pages = record {
  living = living ∙ t.living;
  entries_are = entries ∙ ap (λ l. l ++ record { dir = d; place = met.place; fid = f; leader_at = a; name = name } ∷ []) t.entries_are ∙ ap (λ l. old.entries ++ l) (sym (entry_here d met.place met.slot f a name is));
  pages = pages ∙ t.pages;
  rooms = λ js has few. subst (λ r. HasSlots r (cond (is_fid d sys_dir) (js ++ item_of met.slot ∷ []) js)) (sym rooms) (t.rooms js has few);
}
