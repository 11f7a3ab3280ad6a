-- The entry that was found: its slot, its name, and names that no entry has.
use Rattle.std.proofs.Common.{Bool, List, None, Option, Some, [], ap, arith, cond, false, fold, inl, inr, not, refl, subst, true, ℕ, ◌&&◌, ◌++◌, ◌+◌, ◌∙◌, ◌∷◌, ◌≡◌, ◌⊎◌, ◌||◌}
use Rattle.std.proofs.lemmas.List.Elements.{Contains-append_cases, Contains-append_right, Contains-push_cases}
use Rattle.std.specs.List.{list_any}
use Rattle.std.specs.Prelude.{Contains, is_none, nat_lt}
use Rattle.laws_operation.specs.alto_words.specs.Fid.{is_fid}
use Rattle.laws_operation.specs.alto_words.specs.Names.{is_same_name, version_of}
use Rattle.laws_operation.specs.alto_words.specs.declared.fid.Fid.{Fid}
use Rattle.laws_operation.specs.alto_words.specs.declared.wanted.Wanted.{Wanted}
use Rattle.laws_operation.specs.alto_words.specs.declared.wanted.Wanted.TheVariants.{Exact, Newest}
use Rattle.laws_operation.specs.pack_model.specs.hints.Links.{dir_slots}
use Rattle.laws_operation.specs.pack_model.specs.reading.Lookup.{EntryAt, is_meant, meant_by, meant_item, slot_of_entry, version_met}
use Rattle.laws_operation.specs.pack_model.specs.reading.Model.{dir_items}
use Rattle.laws_operation.specs.pack_model.specs.reading.SlotWords.{SlotAt, address_at, slots_at}
use Rattle.laws_operation.specs.pack_model.specs.reading.Slots.{Item, all_words, item_words, slots}
use Rattle.laws_operation.specs.pack_model.specs.reading.Slots.Item.{entry, space}
use Rattle.laws_operation.specs.pack_model.specs.reading.Versions.{exact, has_base}
use Rattle.laws_operation.specs.EntryLaws.{is_of_another}
use Rattle.laws_operation.specs.laws_record.proofs.Heads.{and_left, and_right}
use Rattle.laws_lookup.specs.SlotLaws.{AbsentNameIsOpen, EntryAtIsASlot, FoundEntryHasTheName, FoundEntrySplitsTheSlots, FoundEntryStands, HasNameWanted}

-- ---- slots of a list
pub first_in : (s : SlotAt) (ss : List SlotAt) → Contains (s ∷ ss) s
first_in s ss = (0, omega arith, refl)

pub none_in : (s : SlotAt) → Contains [] s → ⊥
none_in s h = let l = h.1 in omega arith

pub in_cases : (s : SlotAt) (ss : List SlotAt) (t : SlotAt) → Contains (s ∷ ss) t → (s ≡ t) ⊎ Contains ss t
in_cases s ss t h = elim (Contains-append_cases (s ∷ []) ss t h) [
  | inl one ↦ elim (Contains-push_cases [] s t one) [ inl none ↦ absurd (none_in t none) | inr e ↦ inl e ]
  | inr more ↦ inr more
]

-- ---- the entry that is meant
-- by one slot: it was meant before, or it is this slot's, which has the name
one_met : (w : Wanted) (best : Option EntryAt) (s : SlotAt) (e : EntryAt) → meant_by w best s ≡ Some e → (best ≡ Some e) ⊎ ((s ≡ slot_of_entry e) × HasNameWanted w e.name)
one_met w best s e h = by s.item refl h
  where
    named : (w : Wanted) (best : Option EntryAt) (own : List ℕ) → is_meant w best own ≡ true → HasNameWanted w own
    named (Exact name) best own m = and_right (is_none best) (is_same_name own name) m
    named (Newest base) best own m = and_left (has_base base own) (nat_lt (version_met best) (version_of own)) m

    by : (i : Item) → s.item ≡ i → meant_item w best s.place i s.address ≡ Some e → (best ≡ Some e) ⊎ ((s ≡ slot_of_entry e) × HasNameWanted w e.name)
    by (space n) is m = inl m
    by (entry f own) is m = choose (is_meant w best own) refl m
      where
        choose : (b : Bool) → is_meant w best own ≡ b → cond b (Some (record { fid = f; name = own; place = s.place; address = s.address })) best ≡ Some e → (best ≡ Some e) ⊎ ((s ≡ slot_of_entry e) × HasNameWanted w e.name)
        choose true meant now =
            let one : record { fid = f; name = own; place = s.place; address = s.address } ≡ e = cc in
            let slot : s ≡ record { place = s.place; item = entry f own; address = s.address } = ap (λ i. record { place = s.place; item = i; address = s.address }) is in
            inr (slot ∙ ap slot_of_entry one, subst (λ (x : EntryAt). HasNameWanted w x.name) one (named w best own meant))
        choose false meant now = inl now

-- by all of them
all_met : (w : Wanted) (best : Option EntryAt) (met : List SlotAt) (e : EntryAt) → fold (meant_by w) best met ≡ Some e → (best ≡ Some e) ⊎ (Contains met (slot_of_entry e) × HasNameWanted w e.name)
all_met w best [] e h = inl h
all_met w best (s ∷ met) e h = elim (all_met w (meant_by w best s) met e h) [
  | inl now ↦ elim (one_met w best s e now) [ inl old ↦ inl old | inr new ↦ inr (subst (Contains (s ∷ met)) new.0 (first_in s met), new.1) ]
  | inr more ↦ inr (Contains-append_right (s ∷ []) met (slot_of_entry e) more.0, more.1)
]

-- from none on
met_one : (w : Wanted) (met : List SlotAt) (e : EntryAt) → fold (meant_by w) None met ≡ Some e → Contains met (slot_of_entry e) × HasNameWanted w e.name
met_one w met e h = elim (all_met w None met e h) [ inl none ↦ absurd (clash none) | inr one ↦ one ]
  where
    clash : ◌≡◌ {A = Option EntryAt} None (Some e) → ⊥
    clash x = cc

pub entry_at_is_a_slot : EntryAtIsASlot
entry_at_is_a_slot w met e h = (met_one w met e h).0

pub found_entry_has_the_name : FoundEntryHasTheName
found_entry_has_the_name w met e h = (met_one w met e h).1

pub found_entry_stands : FoundEntryStands
found_entry_stands p d w e live dir h = record {
  lives = live;
  directory = dir;
  slot = slot_of_entry e;
  name = e.name;
  stands = entry_at_is_a_slot w (dir_slots p d) e h;
  item = refl;
  number = refl;
  word = refl;
  address = refl;
}

-- ---- the slots before it and after it
pub record Parts (words : List ℕ) (begin : ℕ) (is : List Item) (s : SlotAt) : Type 0 where
  pub before : List Item
  pub later : List Item
  pub items : is ≡ before ++ s.item ∷ later
  pub place : begin + all_words before ≡ s.place
  pub address : address_at words s.place s.item ≡ s.address

pub parts : (words : List ℕ) (begin : ℕ) (is : List Item) (s : SlotAt) → Contains (slots_at words begin is) s → Parts words begin is s
unfolding slots_at
parts words begin [] s h = absurd (none_in s h)
parts words begin (i ∷ is) s h =
    let here : SlotAt = record { place = begin; item = i; address = address_at words begin i } in
    elim (in_cases here (slots_at words (begin + item_words i) is) s h) [
      | inl e ↦
          let p : begin ≡ s.place = ap (λ (t : SlotAt). t.place) e in
          record {
            before = [];
            later = is;
            items = ap (λ (t : SlotAt). t.item ∷ is) e;
            place = omega (arith, p);
            address = subst (λ (t : SlotAt). address_at words t.place t.item ≡ t.address) e refl;
          }
      | inr more ↦
          let r = parts words (begin + item_words i) is s more in
          let p : begin + item_words i + all_words r.before ≡ s.place = r.place in
          record { before = i ∷ r.before; later = r.later; items = ap (λ x. i ∷ x) r.items; place = omega (arith, p); address = r.address }
    ]

pub found_entry_splits_the_slots : FoundEntrySplitsTheSlots
found_entry_splits_the_slots words w e h =
    let r = parts words 0 (slots words) (slot_of_entry e) (entry_at_is_a_slot w (slots_at words 0 (slots words)) e h) in
    let p : 0 + all_words r.before ≡ e.place = r.place in
    record { before = r.before; later = r.later; slots_are = r.items; place = omega (arith, p); address = r.address }

-- ---- names that no entry has
and_false : (b : Bool) → (b && false) ≡ false
and_false true = refl
and_false false = refl

open_items : (f : Fid) (name : List ℕ) (is : List Item) → exact name is ≡ None → list_any (is_of_another f name) is ≡ false
open_items f name [] h = refl
open_items f name (space n ∷ is) h = open_items f name is h
open_items f name (entry g own ∷ is) h = by (is_same_name own name) (open_items f name is) h
  where
    by : (b : Bool) → (exact name is ≡ None → list_any (is_of_another f name) is ≡ false) → cond b (Some (g, own)) (exact name is) ≡ None → ((not (is_fid g f) && b) || list_any (is_of_another f name) is) ≡ false
    by true more e = absurd (let clash : Some (g, own) ≡ None = e in cc)
    by false more e = ap (λ c. c || list_any (is_of_another f name) is) (and_false (not (is_fid g f))) ∙ more e

pub absent_name_is_open : AbsentNameIsOpen
absent_name_is_open m d f name h = open_items f name (dir_items m d) h
