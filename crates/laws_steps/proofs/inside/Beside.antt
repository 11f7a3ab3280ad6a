-- The address word of an entry and the slot of another file's entry in the same directory.
use Rattle.std.proofs.Common.{List, Some, [], ap, arith, cond, false, inl, inr, length, subst, sym, true, ℕ, ◌&&◌, ◌++◌, ◌+◌, ◌<◌, ◌∙◌, ◌∷◌, ◌≡◌, ◌≤◌, ◌⊎◌}
use Rattle.std.proofs.lemmas.List.Elements.{Contains-append_cases, Contains-push_cases}
use Rattle.std.specs.List.{list_any}
use Rattle.std.specs.Prelude.{Contains}
use Rattle.laws_call.specs.alto_words.specs.Fid.{is_fid}
use Rattle.laws_call.specs.alto_words.specs.Names.{is_same_name}
use Rattle.laws_call.specs.alto_words.specs.declared.fid.Fid.{Fid}
use Rattle.laws_call.specs.disk_records.specs.Packs.{Pack}
use Rattle.laws_call.specs.disk_records.specs.declared.records.Place.{Place}
use Rattle.laws_call.specs.disk_records.specs.declared.records.Place.TheVariants.{Entry, Held, Next, Root}
use Rattle.laws_call.specs.laws_lookup.specs.SourceLaws.{IsBeside}
use Rattle.laws_call.specs.laws_record.proofs.Addressing.{entry_words_many}
use Rattle.laws_call.specs.laws_record.proofs.Fitting.{same_sym, same_trans}
use Rattle.laws_call.specs.laws_record.proofs.Tidying.{or_false_left, or_false_right}
use Rattle.pack_laws.proofs.Keys.{is_fid-itself, same_fid}
use Rattle.laws_call.specs.pack_model.specs.hints.Links.{dir_words}
use Rattle.laws_call.specs.pack_model.specs.hints.Misled.{StandsInEntry, leader_page}
use Rattle.laws_call.specs.pack_model.specs.hints.Sources.{IsFrom}
use Rattle.laws_call.specs.pack_model.specs.reading.Namings.{Naming, clashes, namings_in}
use Rattle.laws_call.specs.pack_model.specs.reading.SlotWords.{SlotAt, address_at, address_word, slots_at}
use Rattle.laws_call.specs.pack_model.specs.reading.Slots.Item.{entry, space}
use Rattle.laws_call.specs.pack_model.specs.reading.Slots.{Item, all_words, entry_length, item_words, slots}
use Rattle.laws_call.specs.pack_model.specs.reading.Versions.{exact}
use Rattle.laws_steps.specs.KeepingLaws.{IfByEntry}

-- ---- slots of a list
none_in : (s : SlotAt) → Contains [] s → ⊥
none_in s h = let l = h.1 in omega arith

in_cases : (s : SlotAt) (ss : List SlotAt) (t : SlotAt) → Contains (s ∷ ss) t → (s ≡ t) ⊎ Contains ss t
in_cases s ss t h = elim (Contains-append_cases (s ∷ []) ss t h) [
  | inl one ↦ elim (Contains-push_cases [] s t one) [ inl none ↦ absurd (none_in t none) | inr e ↦ inl e ]
  | inr more ↦ inr more
]

-- they stand from their first word on
from_there : (words : List ℕ) (begin : ℕ) (is : List Item) (s : SlotAt) → Contains (slots_at words begin is) s → begin ≤ s.place
unfolding slots_at
from_there words begin [] s h = absurd (none_in s h)
from_there words begin (i ∷ is) s h = elim (in_cases (record { place = begin; item = i; address = address_at words begin i }) (slots_at words (begin + item_words i) is) s h) [
  | inl e ↦ (let place : begin ≡ s.place = ap (λ (t : SlotAt). t.place) e in omega (arith, place))
  | inr more ↦ (let low = from_there words (begin + item_words i) is s more in omega (arith, low))
]

same_entry : (f g : Fid) (own name : List ℕ) → ◌≡◌ {A = Item} (entry f own) (entry g name) → f ≡ g
same_entry f g own name e = cc

-- of entries of two files the address word of one is none of the words of the other's slot
beside : (words : List ℕ) (begin : ℕ) (a b : List Item) (f g : Fid) (own name : List ℕ) (s : SlotAt) → is_fid g f ≡ false → Contains (slots_at words begin (a ++ entry f own ∷ b)) s → s.item ≡ entry g name
    → (address_word s.place < begin + all_words a) ⊎ (begin + all_words a + item_words (entry f own) ≤ address_word s.place)
unfolding slots_at
beside words begin [] b f g own name s other h is = elim (in_cases (record { place = begin; item = entry f own; address = address_at words begin (entry f own) }) (slots_at words (begin + item_words (entry f own)) b) s h) [
  | inl e ↦
      let fid : f ≡ g = same_entry f g own name (ap (λ (t : SlotAt). t.item) e ∙ is) in
      let clash : true ≡ false = sym (is_fid-itself g) ∙ ap (is_fid g) (sym fid) ∙ other in
      absurd cc
  | inr more ↦ (let low = from_there words (begin + item_words (entry f own)) b s more in inr (omega (arith, low)))
]
beside words begin (i ∷ a) b f g own name s other h is = elim (in_cases (record { place = begin; item = i; address = address_at words begin i }) (slots_at words (begin + item_words i) (a ++ entry f own ∷ b)) s h) [
  | inl e ↦
      let place : begin ≡ s.place = ap (λ (t : SlotAt). t.place) e in
      let size : item_words i ≡ entry_length (length name) = ap (λ (t : SlotAt). item_words t.item) e ∙ ap item_words is in
      let long = entry_words_many (length name) in
      inl (omega (arith, place, size, long))
  | inr more ↦ elim (beside words (begin + item_words i) a b f g own name s other more is) [
    | inl before ↦ inl (omega (arith, before))
    | inr later ↦ inr (omega (arith, later))
  ]
]

-- so where a file was found is beside the slot of another file's entry, or of its own where it was found elsewhere
pub found_beside : (p : Pack) (d : Fid) (a b : List Item) (f : Fid) (own : List ℕ) (g : Fid) (at : ℕ) (from : Place) → slots (dir_words p d) ≡ a ++ entry f own ∷ b → IfByEntry from (is_fid g f ≡ false) → IsFrom p g at from
    → IsBeside d (all_words a) (all_words a + all_words (entry f own ∷ [])) from
found_beside p d a b f own g at Root are other h = tt
found_beside p d a b f own g at (Next i) are other h = tt
found_beside p d a b f own g at (Held i) are other h = tt
found_beside p d a b f own g at (Entry e k) are other h = λ same.
    let s : StandsInEntry p d k at (leader_page g) = subst (λ x. StandsInEntry p x k at (leader_page g)) (same_fid e d same) h in
    let word = s.word in
    elim (beside (dir_words p d) 0 a b f g own s.name s.slot other (subst (λ is. Contains (slots_at (dir_words p d) 0 is) s.slot) are s.stands) s.item) [
      | inl before ↦ inl (omega (arith, before, word))
      | inr later ↦ inr (omega (arith, later, word))
    ]

-- ---- the entry that is meant by a name
-- none before it has the name, if none before it clashes with it
module _ (d f : Fid) (own name : List ℕ) (same : is_same_name own name ≡ true) where
  abbrev here : Naming
  here = record { dir = d; name = own; fid = f }

  pub exact_here : (a b : List Item) → list_any (clashes here) (namings_in d a) ≡ false → exact name (a ++ entry f own ∷ b) ≡ Some (f, own)
  exact_here [] b none = ap (λ c. cond c (Some (f, own)) (exact name b)) same
  exact_here (space n ∷ a) b none = exact_here a b none
  exact_here (entry g mine ∷ a) b none =
      let x : Naming = record { dir = d; name = mine; fid = g } in
      let apart : (is_fid d d && is_same_name own mine) ≡ false = or_false_right (is_fid f g) (is_fid d d && is_same_name own mine) (or_false_left (clashes here x) (list_any (clashes here) (namings_in d a)) none) in
      let other : is_same_name mine name ≡ false = same_sym mine name ∙ sym (same_trans own name mine same) ∙ (ap (λ c. c && is_same_name own mine) (sym (is_fid-itself d)) ∙ apart) in
      ap (λ c. cond c (Some (g, mine)) (exact name (a ++ entry f own ∷ b))) other ∙ exact_here a b (or_false_right (clashes here x) (list_any (clashes here) (namings_in d a)) none)

-- slots without an entry have none
pub no_entry : (d : Fid) (words : List ℕ) (begin : ℕ) (is : List Item) (s : SlotAt) (g : Fid) (name : List ℕ) → namings_in d is ≡ [] → Contains (slots_at words begin is) s → s.item ≡ entry g name → ⊥
unfolding slots_at
no_entry d words begin [] s g name bare h is = none_in s h
no_entry d words begin (space n ∷ is) s g name bare h item = elim (in_cases (record { place = begin; item = space n; address = 0 }) (slots_at words (begin + n) is) s h) [
  | inl e ↦ (let clash : space n ≡ entry g name = ap (λ (t : SlotAt). t.item) e ∙ item in cc)
  | inr more ↦ no_entry d words (begin + n) is s g name bare more item
]
no_entry d words begin (entry f own ∷ is) s g name bare h item = absurd (let clash : ◌≡◌ {A = List Naming} (record { dir = d; name = own; fid = f } ∷ namings_in d is) [] = bare in cc)
