-- Slots where they stand, as items.
use Rattle.std.proofs.Common.{◌≡◌, ℕ, ◌+◌, List, [], ◌∷◌, ◌++◌, Some, refl, sym, ◌∙◌, ap, arith}
use Rattle.std.specs.Prelude.{map}
use Rattle.std.proofs.lemmas.List.{map_push}
use Rattle.dir_slots.specs.declared.walk.PlacedSlot.{PlacedSlot}
use Rattle.dir_slots.specs.Items.{item_of}
use Rattle.dir_slots.specs.Walks.{Meets, Walked, Walking, placed_slots, slot_met}
use Rattle.dir_slots.proofs.Slots.{all_words-append}
use Rattle.pack_model.specs.reading.Slots.{Item, all_words, item_words, slots}
use Rattle.pack_model.specs.reading.SlotWords.{SlotAt, slots_at}

abbrev pub items_met : List SlotAt → List Item
items_met met = map (λ (s : SlotAt). s.item) met

pub items_at : (words : List ℕ) (place : ℕ) (is : List Item) → items_met (slots_at words place is) ≡ is
unfolding slots_at
items_at words place [] = refl
items_at words place (i ∷ is) = ap (λ l. i ∷ l) (items_at words (place + item_words i) is)

-- a slot that was met ends where the walk stands then
pub met_ends : (before later : List ℕ) (old walk : Walking) (met : PlacedSlot) → Walked before old → Meets before later walk (Some met) → met.place ≡ old.place → met.place + item_words (item_of met.slot) ≡ walk.place
met_ends before later old walk met walked meets start =
    let items : slots later ≡ slots before ++ item_of met.slot ∷ [] =
    sym (items_at later 0 (slots later)) ∙ ap items_met meets.slots ∙ map_push (λ (s : SlotAt). s.item) (placed_slots before) (slot_met met) ∙ ap (λ l. l ++ item_of met.slot ∷ []) (items_at before 0 (slots before)) in
    let words : all_words (slots later) ≡ all_words (slots before) + (item_words (item_of met.slot) + 0) = ap all_words items ∙ all_words-append (slots before) (item_of met.slot ∷ []) in
    let first = walked.place in
    let last = meets.walked.place in
    omega (arith, words, first, last, start)
