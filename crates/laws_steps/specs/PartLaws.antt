-- A line in two parts, on any model.
use Rattle.std.specs.Prelude.{List, ◌++◌, ◌+◌, ◌≡◌}
use Rattle.laws_call.specs.laws_line.specs.Ready.{steps_of}
use Rattle.laws_call.specs.pack_model.specs.operations.Committing.{pages_for_operations}
use Rattle.laws_call.specs.pack_model.specs.operations.Step.{Operation}
use Rattle.laws_call.specs.pack_model.specs.reading.Model.{Model}

-- the model after all operations is that after the others, from the model after the first ones
abbrev pub StepsOfBothParts : Type 0
StepsOfBothParts = (m : Model) (ops more : List Operation) → steps_of m (ops ++ more) ≡ steps_of (steps_of m ops) more

-- the pages that they add are those of the first ones, and those of the others on the model after these
abbrev pub PagesOfBothParts : Type 0
PagesOfBothParts = (m : Model) (ops more : List Operation) → pages_for_operations m (ops ++ more) ≡ pages_for_operations m ops + pages_for_operations (steps_of m ops) more
