-- What a visitor is handed.
use Rattle.std.specs.Prelude.{◌≡◌, ℕ, ◌++◌, List, Result, Ok, Err}
use Rattle.std.specs.List.{FoldsTo}
use Rattle.dir_slots.specs.Walks.{Walked, Walking, placed_slots}
use Rattle.pack_model.specs.reading.SlotWords.{SlotAt}
use Rattle.page_seeking.specs.declared.refs.FileError.{FileError}
use Rattle.page_seeking.specs.declared.refs.FileError.TheVariants.{Misled, Beyond, DiskFault, Memory}

-- From the words `before` of a directory on to the words `later` a visitor took the slots that end among these, one step each, and the walk
-- stands after them.
pub record Visits {V : Type 0} (step : V → SlotAt → V → Type 0) (before later : List ℕ) (walk : Walking) (old new : V) : Type 0 where
  pub walked : Walked later walk
  pub seen : List SlotAt
  pub slots : placed_slots later ≡ placed_slots before ++ seen
  pub folds : FoldsTo step old seen new

-- what is answered if a page isn't located: past the end no page is missing
abbrev pub ended : FileError → Result (Unit {0}) FileError
ended (Misled place at wanted found) = Err (Misled place at wanted found)
ended (Beyond length) = Ok tt
ended DiskFault = Err DiskFault
ended Memory = Err Memory
