-- Slots that a scan passes over.
use Rattle.std.specs.Prelude.{◌≡◌, ℕ, ◌++◌, false, IfSome, IsTrue, List, All}
use Rattle.alto_words.specs.Names.{base_of, is_same_name}
use Rattle.pack_model.specs.reading.Slots.{Item}
use Rattle.pack_model.specs.reading.Slots.Item.{space, entry}
use Rattle.pack_model.specs.reading.SlotWords.{SlotAt}
use Rattle.dir_slots.specs.Walks.{Walked, Walking, placed_slots}
use Rattle.dir_slots.specs.declared.others.Passing.{Passing}

-- a free slot, if these are passed over, or the entry of a name without a version that isn't the one whose entries are met, in whatever
-- case of its letters
abbrev pub IsOther : Passing → Item → Type 0
IsOther p (space n) = IsTrue p.free
IsOther p (entry f own) = (base_of own ≡ own) × IfSome p.name (λ name. is_same_name own name ≡ false)

-- From the words `before` on to the words `after`, none but such slots were passed over.
pub record Passes (passing : Passing) (before after : List ℕ) (walk : Walking) : Type 0 where
  pub walked : Walked after walk
  pub seen : List SlotAt
  pub slots : placed_slots after ≡ placed_slots before ++ seen
  pub others : All (λ s. IsOther passing s.item) seen
