-- The slots that have been seen, and the most words of free ones in a row.
use Rattle.std.proofs.Common.{◌≡◌, ℕ, ◌+◌, ◌<◌, ◌≤◌, List, [], ◌∷◌, length, take, drop, get_or, sym, ap, ◌∙◌, arith, max}
use Rattle.std.proofs.lemmas.List.{take_more, drop_more, drop_all, take-append-drop, map-append}
use Rattle.pack_model.specs.reading.Slots.{Item, item_words, all_words}
use Rattle.pack_model.specs.reading.Slots.Item.{space, entry}
use Rattle.pack_model.specs.operations.Rooms.{run, words_free, largest_run}
use Rattle.dir_slots.specs.declared.slot.Slot.{Slot}
use Rattle.dir_slots.specs.Items.{item_of, items_of}
use Rattle.dir_slots.proofs.Slots.{all_words-append, all_words_more}
use Rattle.dir_slots.proofs.Rooms.{words_free-within}

-- ---- the slots that have been seen
pub take_words : (slots : List Slot) (i : ℕ) (s : Slot) → i < length slots → s ≡ get_or slots i s → all_words (items_of (take (i + 1) slots)) ≡ all_words (items_of (take i slots)) + item_words (item_of s)
take_words slots i s lt is =
    ap (λ l. all_words (items_of l)) (take_more slots i s lt) ∙ all_words_more (take i slots) (get_or slots i s)
    ∙ ap (λ x. all_words (items_of (take i slots)) + item_words (item_of x)) (sym is)

pub words_within : (slots : List Slot) (i : ℕ) → all_words (items_of (take i slots)) ≤ all_words (items_of slots)
words_within slots i =
    let whole = ap (λ l. all_words (items_of l)) (sym (take-append-drop i slots)) in
    let parts = ap all_words (map-append item_of (take i slots) (drop i slots)) ∙ all_words-append (items_of (take i slots)) (items_of (drop i slots)) in
    omega arith

pub rest_more : (slots : List Slot) (i : ℕ) (s : Slot) → i < length slots → s ≡ get_or slots i s → items_of (drop i slots) ≡ item_of s ∷ items_of (drop (i + 1) slots)
rest_more slots i s lt is = ap items_of (drop_more slots i s lt) ∙ ap (λ x. item_of x ∷ items_of (drop (i + 1) slots)) (sym is)

-- ---- the row that ends here, and the longest so far
abbrev pub next_run : ℕ → Item → ℕ
next_run words (space n) = words + n
next_run words (entry f name) = 0

pub record Running (slots : List Slot) (i run largest : ℕ) : Type 0 where
  pub within : run ≤ largest
  pub bound : largest ≤ all_words (items_of (take i slots))
  pub all : max largest (max (run + words_free (items_of (drop i slots))) (largest_run (items_of (drop i slots)))) ≡ largest_run (items_of slots)

pub running_none : (slots : List Slot) → Running slots 0 0 0
running_none slots = record {
  within = omega arith;
  bound = omega arith;
  all = let within = words_free-within (items_of slots) in omega arith;
}

running_step : (run largest : ℕ) (i : Item) (is : List Item) → run ≤ largest
    → max (max (next_run run i) largest) (max (next_run run i + words_free is) (largest_run is)) ≡ max largest (max (run + words_free (i ∷ is)) (largest_run (i ∷ is)))
running_step run largest (space n) is within = omega arith
running_step run largest (entry f name) is within = let w = words_free-within is in omega arith

next_run-most : (run : ℕ) (i : Item) → next_run run i ≤ run + item_words i
next_run-most run (space n) = omega arith
next_run-most run (entry f name) = omega arith

pub running_more : (slots : List Slot) (i run largest : ℕ) (s : Slot) → i < length slots → s ≡ get_or slots i s → Running slots i run largest → Running slots (i + 1) (next_run run (item_of s)) (max (next_run run (item_of s)) largest)
running_more slots i run largest s lt is r =
    let within = r.within in
    let bound = r.bound in
    let more = take_words slots i s lt is in
    let most = next_run-most run (item_of s) in
    let rest : List Item = items_of (drop (i + 1) slots) in
    record {
      within = omega arith;
      bound = omega arith;
      all = running_step run largest (item_of s) rest within
          ∙ ap (λ l. max largest (max (run + words_free l) (largest_run l))) (sym (rest_more slots i s lt is)) ∙ r.all;
    }

pub running_all : (slots : List Slot) (i run largest : ℕ) → length slots ≤ i → Running slots i run largest → largest ≡ largest_run (items_of slots)
running_all slots i run largest past r =
    let within = r.within in
    let none : items_of (drop i slots) ≡ [] = ap items_of (drop_all i slots past) in
    let all = ap (λ l. max largest (max (run + words_free l) (largest_run l))) (sym none) ∙ r.all in
    omega arith
