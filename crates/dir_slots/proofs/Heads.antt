-- The slot at the head of some words.
use Rattle.std.proofs.Common.{◌≡◌, ℕ, ◌+◌, ◌%◌, ◌<◌, ◌≤◌, true, List, [], ◌∷◌, length, take, Option, Some, None, refl, sym, ap, ◌∙◌, subst, arith, inl, inr, ◌⊎◌}
use Rattle.std.specs.Prelude.{◌==◌, ◌&&◌, nat_le}
use Rattle.std.specs.List.{slice_get}
use Rattle.std.specs.Option.{IfSome}
use Rattle.std.proofs.lemmas.Bool.{eq-eqb, ne_eqb, cond-true, cond-false, and_parts, and_from, and_left, and_right, le-leb, lt-leb, leb-true, cases_Bool}
use Rattle.std.proofs.lemmas.List.{length-take, get_or-take}
use Rattle.std.proofs.lemmas.Option.{none-some, same_Some, cond_some}
use Rattle.disk_records.specs.Words.{word}
use Rattle.pack_model.specs.reading.Slots.{Item, item_words, is_entry, slot_fid, slot_name, slot_of, first_length, slot_at, IsSlot}
use Rattle.pack_model.specs.reading.Slots.Item.{space, entry}
use Rattle.pack_model.specs.reading.SlotWords.{address_at}
use Rattle.dir_slots.specs.declared.slot.Slot.{Slot}
use Rattle.dir_slots.specs.declared.slot.Slot.TheVariants.{Free, Entry}
use Rattle.dir_slots.specs.Inside.{entry_of}
use Rattle.dir_slots.specs.Items.{item_of, address_of, IsInRange, HasFreeLength}
use Rattle.dir_slots.proofs.Entries.{entry_parts}

-- ---- by the first word
-- a length of 0, or past the end
pub slot_at-none : (words : List ℕ) → (first_length words ≡ 0) ⊎ (length words < first_length words) → slot_at words ≡ None
unfolding slot_at
slot_at-none words (inl none) = cond-false _ (slot_of (take (first_length words) words)) None (and_left _ (nat_le (first_length words) (length words)) (lt-leb 1 (first_length words) (omega arith)))
slot_at-none words (inr past) = cond-false _ (slot_of (take (first_length words) words)) None (and_right (nat_le 1 (first_length words)) _ (lt-leb (first_length words) (length words) past))

-- else the slot of so many words
pub slot_at-within : (words : List ℕ) → 1 ≤ first_length words → first_length words ≤ length words → slot_at words ≡ slot_of (take (first_length words) words)
unfolding slot_at
slot_at-within words some within = cond-true _ (slot_of (take (first_length words) words)) None (and_from _ _ (le-leb 1 (first_length words) some) (le-leb (first_length words) (length words) within))

taken : (words : List ℕ) (n : ℕ) → n ≤ length words → length (take n words) ≡ n
taken words n within = let e = length-take n words in omega arith

pub slot_at-free : (words : List ℕ) → 1 ≤ first_length words → first_length words ≤ length words → word words 0 ≡ first_length words → slot_at words ≡ Some (space (first_length words))
slot_at-free words some within free =
    let n : ℕ = first_length words in
    let long : length (take n words) ≡ n = taken words n within in
    let first : word (take n words) 0 ≡ word words 0 = get_or-take n words 0 0 some in
    slot_at-within words some within
    ∙ cond-true _ (Some (space (length (take n words)))) _ (eq-eqb _ _ (first ∙ free ∙ sym long))
    ∙ ap (λ m. Some (space m)) long

pub slot_at-file : (words : List ℕ) → 1 ≤ first_length words → first_length words ≤ length words → (word words 0 ≡ first_length words → ⊥) → slot_at words ≡ entry_of (take (first_length words) words)
slot_at-file words some within file =
    let n : ℕ = first_length words in
    let long : length (take n words) ≡ n = taken words n within in
    let first : word (take n words) 0 ≡ word words 0 = get_or-take n words 0 0 some in
    slot_at-within words some within
    ∙ cond-false _ (Some (space (length (take n words)))) _ (ne_eqb _ _ (λ e. file (sym first ∙ e ∙ long)))

-- ---- by the first words
pub slot_at-nil : slot_at [] ≡ None
unfolding slot_at
slot_at-nil = refl

-- no first word
pub none_first : (front words : List ℕ) → front ≡ take 26 words → None ≡ slice_get front 0 → slot_at words ≡ None
none_first front [] e none = slot_at-nil
none_first front (w ∷ words) e none = absurd (none-some w (none ∙ ap (λ l. slice_get l 0) e))

pub first_is : (front words : List ℕ) (w : ℕ) → front ≡ take 26 words → Some w ≡ slice_get front 0 → word words 0 ≡ w
first_is front [] w e some = absurd (none-some w (sym (some ∙ ap (λ l. slice_get l 0) e)))
first_is front (x ∷ words) w e some = sym (same_Some w x (some ∙ ap (λ l. slice_get l 0) e))

-- the address that stands in the first words is that in them all
pub address_front : (r : Option Slot) (w words : List ℕ) (n : ℕ) → w ≡ take n words → length w ≡ n → IfSome r (λ s. item_words (item_of s) ≡ length w) → IfSome r (λ s. address_of s ≡ address_at w 0 (item_of s))
    → IfSome r (λ s. address_of s ≡ address_at words 0 (item_of s))
address_front None w words n e long size address = tt
address_front (Some (Free m)) w words n e long size address = address
address_front (Some (Entry f a name)) w words n e long size address = address ∙ ap (λ l. word l (0 + 5)) e ∙ get_or-take n words (0 + 5) 0 (omega arith)

-- ---- what a slot is
-- these words are a slot where they are one with the length that they state
slot_size : (words : List ℕ) (i : Item) → slot_of words ≡ Some i → item_words i ≡ length words
slot_size words i is = elim (cases_Bool (word words 0 == length words)) [
  | inl free ↦ let e : Some (space (length words)) ≡ Some i = sym (cond-true _ (Some (space (length words))) (entry_of words) free) ∙ is in sym (ap item_words (same_Some _ _ e))
  | inr file ↦
      let e : entry_of words ≡ Some i = sym (cond-false _ (Some (space (length words))) (entry_of words) file) ∙ is in
      let some = cond_some (is_entry words) (entry (slot_fid words) (slot_name words)) i e in
      sym (ap item_words some.1) ∙ sym (entry_parts words some.0).size
]

-- the head of some words is a slot of its own
pub slot_at-is : (words : List ℕ) (i : Item) → slot_at words ≡ Some i → IsSlot (take (item_words i) words) i × (item_words i ≤ length words)
unfolding slot_at
slot_at-is words i is =
    let n : ℕ = first_length words in
    let found = elim (cases_Bool (nat_le 1 n && nat_le n (length words))) as (λ _. (nat_le 1 n && nat_le n (length words) ≡ true) × (slot_of (take n words) ≡ Some i)) [
      | inl told ↦ (told, sym (cond-true _ (slot_of (take n words)) None told) ∙ is)
      | inr told ↦ absurd (none-some i (sym (cond-false _ (slot_of (take n words)) None told) ∙ is))
    ] in
    let both = and_parts (nat_le 1 n) (nat_le n (length words)) found.0 in
    let some = leb-true 1 n both.0 in
    let within = leb-true n (length words) both.1 in
    let long : length (take n words) ≡ n = taken words n within in
    let size : item_words i ≡ length (take n words) = slot_size (take n words) i found.1 in
    let same : item_words i ≡ n = size ∙ long in
    let first : word (take n words) 0 ≡ word words 0 = get_or-take n words 0 0 some in (
      subst (λ m. IsSlot (take m words) i) (sym same) (record {
        some = omega arith;
        most = omega arith;
        first = ap (λ w. w % 1024) first ∙ sym long;
        reads = found.1;
        size = size;
      }),
      omega arith,
    )

pub free_in_range : (s : Slot) → IsInRange s → HasFreeLength s
free_in_range (Free n) h = h
free_in_range (Entry f address name) h = tt
