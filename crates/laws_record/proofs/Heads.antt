-- The slots of words, one after another: the first slot, and those after it.
use Rattle.std.proofs.Common.{◌%◌, ◌&&◌, ◌++◌, ◌+◌, ◌-◌, ◌<◌, ◌==◌, ◌∙◌, ◌∷◌, ◌≡◌, ◌≤◌, Bool, List, None, Option, Some, [], ap, append-nil, arith, cond, drop, eqb-true, false, le-leb, leb-true, length, length-append, length-drop, nat_le, refl, suc, sym, take, take-append-drop, true, zero, ℕ}
use Rattle.std.proofs.lemmas.List.{get_or-take, length-take-le}
use Rattle.std.specs.Prelude.{is_none}
use Rattle.pack_laws.specs.disk_records.specs.Words.{word}
use Rattle.pack_laws.specs.pack_model.specs.reading.Slots.{IsSlot, Item, Reads, all_words, and_then, entry_length, first_length, is_entry, item_words, slot_at, slot_fid, slot_name, slot_of, slots, slots_after}
use Rattle.pack_laws.specs.pack_model.specs.reading.Slots.Item.{entry, space}
use Rattle.pack_laws.specs.pack_model.specs.reading.Slots.Reads.{next, none}
use Rattle.laws_record.proofs.Slotting.{slots_reads}

-- ---- tests
-- the first of two
pub and_left : (a b : Bool) → (a && b) ≡ true → a ≡ true
and_left true b e = refl
and_left false b e = e

-- and the second
pub and_right : (a b : Bool) → (a && b) ≡ true → b ≡ true
and_right true b e = e
and_right false b e = cc

-- ---- the size of a slot
-- an entry has the words that its name wants
entry_size : (words : List ℕ) → is_entry words ≡ true → length words ≡ entry_length (length (slot_name words))
unfolding is_entry
entry_size words e = eqb-true (length words) (entry_length (length (slot_name words))) (and_right (word words 0 == 1024 + length words) _ (and_left _ _ (and_left _ _ (and_left _ _ (and_left _ _ (and_left _ _ e))))))

-- a slot has as many words as it says
pub slot_size : (words : List ℕ) (i : Item) → slot_of words ≡ Some i → item_words i ≡ length words
slot_size words i e = by (word words 0 == length words) (is_entry words) refl e
  where
    by : (s t : Bool) → is_entry words ≡ t → cond s (Some (space (length words))) (cond t (Some (entry (slot_fid words) (slot_name words))) None) ≡ Some i → item_words i ≡ length words
    by true t is e = let same : space (length words) ≡ i = cc in ap item_words (sym same)
    by false true is e = let same : entry (slot_fid words) (slot_name words) ≡ i = cc in ap item_words (sym same) ∙ sym (entry_size words is)
    by false false is e = absurd cc

-- What the head of words has to be to be a slot.
pub record IsHead (words : List ℕ) (i : Item) : Type 0 where
  pub some : 0 < item_words i
  pub within : item_words i ≤ length words
  pub most : item_words i < 1024
  pub first : first_length words ≡ item_words i
  pub reads : slot_of (take (item_words i) words) ≡ Some i

-- a slot at the head
pub head_of : (words : List ℕ) (i : Item) → slot_at words ≡ Some i → IsHead words i
unfolding slot_at
head_of words i e = by (nat_le 1 (first_length words) && nat_le (first_length words) (length words)) refl e
  where
    by : (t : Bool) → (nat_le 1 (first_length words) && nat_le (first_length words) (length words)) ≡ t → cond t (slot_of (take (first_length words) words)) None ≡ Some i → IsHead words i
    by false is e = absurd cc
    by true is e =
        let n : ℕ = first_length words in
        let some = leb-true 1 n (and_left (nat_le 1 n) _ is) in
        let within = leb-true n (length words) (and_right (nat_le 1 n) _ is) in
        let size : item_words i ≡ n = slot_size (take n words) i e ∙ length-take-le n words within in
        record { some = omega arith; within = omega arith; most = omega arith; first = sym size; reads = ap (λ k. slot_of (take k words)) size ∙ e }

-- and the other way
pub head_reads : (words : List ℕ) (i : Item) → IsHead words i → slot_at words ≡ Some i
unfolding slot_at
head_reads words i h =
    ap (λ n. cond (nat_le 1 n && nat_le n (length words)) (slot_of (take n words)) None) h.first
    ∙ ap (λ b. cond (b && nat_le (item_words i) (length words)) (slot_of (take (item_words i) words)) None) (le-leb 1 (item_words i) h.some)
    ∙ ap (λ b. cond b (slot_of (take (item_words i) words)) None) (le-leb (item_words i) (length words) h.within)
    ∙ h.reads

-- ---- one slot after another
-- words that are passed over
passed : (k : ℕ) (words : List ℕ) → slots_after k words ≡ slots (drop k words)
unfolding slots_after
passed zero words = refl
passed (suc k) [] = refl
passed (suc k) (w ∷ words) = passed k words

-- no words, no slot
no_words : slot_at [] ≡ None
unfolding slot_at
no_words = refl

-- where no slot can be read there are none
pub slots_none : (words : List ℕ) → slot_at words ≡ None → slots words ≡ []
unfolding slots_after
slots_none [] e = refl
slots_none (w ∷ words) e = ap (λ r. and_then r (λ n. slots_after (n - 1) words)) e

-- a slot, and those after it
pub slots_some : (words : List ℕ) (i : Item) → slot_at words ≡ Some i → slots words ≡ i ∷ slots (drop (item_words i) words)
unfolding slots_after
slots_some [] i e = absurd (let n : None ≡ Some i = sym no_words ∙ e in cc)
slots_some (w ∷ words) i e =
    let s = (head_of (w ∷ words) i e).some in
    let z : item_words i ≡ suc (item_words i - 1) = omega arith in
    ap (λ r. and_then r (λ n. slots_after (n - 1) words)) e
    ∙ ap (λ r. i ∷ r) (passed (item_words i - 1) words ∙ ap (λ k. slots (drop k (w ∷ words))) (sym z))

-- and what slots say of the words
pub slots_cons : (words : List ℕ) (i : Item) (is : List Item) → slots words ≡ i ∷ is → (slot_at words ≡ Some i) × (slots (drop (item_words i) words) ≡ is)
slots_cons words i is e = by (slot_at words) refl
  where
    by : (r : Option Item) → slot_at words ≡ r → (slot_at words ≡ Some i) × (slots (drop (item_words i) words) ≡ is)
    by None is_none = absurd (let n : [] ≡ i ∷ is = sym (slots_none words is_none) ∙ e in cc)
    by (Some j) some =
        let both : j ∷ slots (drop (item_words j) words) ≡ i ∷ is = sym (slots_some words j some) ∙ e in
        let one : j ≡ i = cc in
        let rest : slots (drop (item_words j) words) ≡ is = cc in
        (some ∙ ap Some one, ap (λ k. slots (drop (item_words k) words)) (sym one) ∙ rest)

-- no slots
pub slots_nil : (words : List ℕ) → slots words ≡ [] → slot_at words ≡ None
slots_nil words e = by (slot_at words) refl
  where
    by : (r : Option Item) → slot_at words ≡ r → slot_at words ≡ None
    by None is_none = is_none
    by (Some j) some = absurd (let n : j ∷ slots (drop (item_words j) words) ≡ [] = sym (slots_some words j some) ∙ e in cc)

-- ---- slots to the end, as a relation
-- the words of slots together are no more than there are
pub all_within : (is : List Item) (words : List ℕ) → slots words ≡ is → all_words is ≤ length words
all_within [] words e = omega arith
all_within (i ∷ is) words e =
    let s = slots_cons words i is e in
    let h = head_of words i s.0 in
    let w = h.within in
    let rest = all_within is (drop (item_words i) words) s.1 in
    let size = length-drop (item_words i) words in
    omega arith

-- the head of words is a slot by itself
head_slot : (words : List ℕ) (i : Item) → IsHead words i → IsSlot (take (item_words i) words) i
head_slot words i h =
    let size : length (take (item_words i) words) ≡ item_words i = length-take-le (item_words i) words h.within in
    let some = h.some in
    let most = h.most in
    record {
      some = omega arith;
      most = omega arith;
      first = ap (λ k. k % 1024) (get_or-take (item_words i) words 0 0 h.some) ∙ h.first ∙ sym size;
      reads = h.reads;
      size = sym size;
    }

-- slots that take up all words
pub reads_all : (is : List Item) (words : List ℕ) → slots words ≡ is → all_words is ≡ length words → Reads words is
reads_all [] [] e all = none
reads_all [] (w ∷ words) e all = absurd (omega arith)
reads_all (i ∷ is) words e all =
    let s = slots_cons words i is e in
    let h = head_of words i s.0 in
    let size = length-drop (item_words i) words in
    next (sym (take-append-drop (item_words i) words)) (head_slot words i h) (reads_all is (drop (item_words i) words) s.1 (omega arith))

-- and the other way
pub all_read : (words : List ℕ) (is : List Item) → Reads words is → (slots words ≡ is) × (all_words is ≡ length words)
all_read words is none = (slots_none [] no_words, refl)
all_read words is (next {w = w} {rest = rest} {i = i} {is = js} e s more) =
    let r = all_read rest js more in
    let z = s.size in
    (sym (ap slots (append-nil words)) ∙ slots_reads words [] (i ∷ js) (next e s more) ∙ ap (λ q. (i ∷ js) ++ q) (slots_none [] no_words) ∙ append-nil (i ∷ js), (let size : length words ≡ length w + length rest = ap length e ∙ length-append w rest in omega (arith, r.1)))
