-- From the tests that a line made, in their order, to what it is refused for.
use Rattle.std.specs.Prelude.{List, None, Option, Some, [], ◌++◌, ◌∷◌, ◌≡◌}
use Rattle.session_model.specs.exec_words.specs.declared.line.Line.{Line}
use Rattle.session_model.specs.exec_words.specs.declared.reply.Refusal.{Refusal}
use Rattle.laws_line.specs.pack_model.specs.reading.Files.{first}
use Rattle.laws_line.specs.pack_model.specs.reading.Model.{Model}
use Rattle.session_model.specs.Effects.{effect}
use Rattle.session_model.specs.Refusals.{by_line, by_room, reasons}
use Rattle.session_model.specs.Replies.{refusal}
use Rattle.session_model.specs.Worlds.{World}

-- the first of some tests that holds
abbrev pub first_of : List (Option Refusal) → Option Refusal
first_of tests = first (λ r. r) tests

-- Of some tests and the others after them: one of the first ones refuses the line, or else the others do.
pub record IsRefusedInOrder (l : Line) (m : Model) (w : World) (tests more : List (Option Refusal)) : Type 0 where
  pub here : (r : Refusal) → first_of tests ≡ Some r → refusal l m w ≡ Some r
  pub later : first_of tests ≡ None → refusal l m w ≡ first_of more

-- The line is taken up, and its reasons are these tests and more.
abbrev pub RefusedInOrder : Type 0
RefusedInOrder = (l : Line) (m : Model) (w : World) (tests more : List (Option Refusal)) → first_of (by_line l w) ≡ None → reasons l m w (effect l m w).ops ≡ by_line l w ++ (tests ++ more)
    → IsRefusedInOrder l m w tests more

-- none of the others holds
abbrev pub RefusedByTests : Type 0
RefusedByTests = (l : Line) (m : Model) (w : World) (tests more : List (Option Refusal)) → first_of (by_line l w) ≡ None → reasons l m w (effect l m w).ops ≡ by_line l w ++ (tests ++ more) → first_of more ≡ None
    → refusal l m w ≡ first_of tests

-- the tests are all but that of the room, and none of them holds
abbrev pub RefusedForRoom : Type 0
RefusedForRoom = (l : Line) (m : Model) (w : World) (tests : List (Option Refusal)) → first_of (by_line l w) ≡ None → reasons l m w (effect l m w).ops ≡ by_line l w ++ (tests ++ by_room m (effect l m w).ops ∷ []) → first_of tests ≡ None
    → refusal l m w ≡ by_room m (effect l m w).ops
