-- How far words are slots, and what is known of the slots of words from the first of them.
use Rattle.std.proofs.Common.{◌%◌, ◌++◌, ◌∙◌, ◌≡◌, ◌≤◌, List, None, Option, Some, ap, arith, drop, inl, inr, length, length-append, refl, sym, ℕ}
use Rattle.std.proofs.lemmas.Bool.{cases_lt}
use Rattle.std.proofs.lemmas.List.{get_or_append_left, take-append-le}
use Rattle.pack_laws.specs.pack_model.specs.reading.Slots.{Item, and_then, item_words, slot_at, slot_of, slots}
use Rattle.laws_record.proofs.Heads.{all_read, head_of, head_reads, reads_all, slots_none, slots_some}
use Rattle.laws_record.proofs.Slotting.{slots_reads}
use Rattle.laws_record.specs.SlotLaws.{LengthIsRead, MoreAfter, NotYet, OneByOne, ReadsOn, ReadsToTheEnd}

-- ---- how far words are slots
pub length_is_read : LengthIsRead
length_is_read = λ words is r. sym (all_read r.front is r.reads).1

pub reads_to_the_end : ReadsToTheEnd
reads_to_the_end = λ words. (λ reads. (all_read words (slots words) reads).1, λ all. reads_all (slots words) words refl all)

-- ---- with more words after them
pub more_after : MoreAfter
more_after = λ words more i e.
    let h = head_of words i e in
    let some = h.some in
    let within = h.within in
    let size = length-append words more in
    head_reads (words ++ more) i (record {
      some = some;
      within = omega arith;
      most = h.most;
      first = ap (λ k. k % 1024) (get_or_append_left words more 0 0 (omega arith)) ∙ h.first;
      reads = ap slot_of (take-append-le (item_words i) words more within) ∙ h.reads;
    })

-- a slot within the first words is there without the others
fewer_after : (words more : List ℕ) (i : Item) → slot_at (words ++ more) ≡ Some i → item_words i ≤ length words → slot_at words ≡ Some i
fewer_after words more i e within =
    let h = head_of (words ++ more) i e in
    let some = h.some in
    head_reads words i (record {
      some = some;
      within = within;
      most = h.most;
      first = ap (λ k. k % 1024) (sym (get_or_append_left words more 0 0 (omega arith))) ∙ h.first;
      reads = ap slot_of (sym (take-append-le (item_words i) words more within)) ∙ h.reads;
    })

pub not_yet : NotYet
not_yet = λ words more i none some. elim (cases_lt (length words) (item_words i)) [
  | inl longer ↦ longer
  | inr within ↦ absurd (let clash : None ≡ Some i = sym none ∙ fewer_after words more i some within in cc)
]

-- ---- one after another
pub one_by_one : OneByOne
one_by_one = λ words. by words (slot_at words) refl
  where
    by : (words : List ℕ) (r : Option Item) → slot_at words ≡ r → slots words ≡ and_then (slot_at words) (λ n. slots (drop n words))
    by words None none = slots_none words none ∙ ap (λ r. and_then r (λ n. slots (drop n words))) (sym none)
    by words (Some i) some = slots_some words i some ∙ ap (λ r. and_then r (λ n. slots (drop n words))) (sym some)

pub reads_on : ReadsOn
reads_on = λ front rest is reads. slots_reads front rest is reads
