-- Names that no entry has, and room for them, over operations, on any model.
use Rattle.std.specs.Prelude.{List, None, false, ℕ, ◌≡◌, ◌≤◌}
use Rattle.laws_call.specs.alto_words.specs.declared.fid.Fid.{Fid}
use Rattle.laws_call.specs.laws_lookup.specs.NameStayLaws.{enters_name}
use Rattle.laws_call.specs.pack_model.specs.operations.Rooms.{largest_run}
use Rattle.laws_call.specs.pack_model.specs.operations.Step.Operation.{leave}
use Rattle.laws_call.specs.pack_model.specs.operations.Step.{Operation, step}
use Rattle.laws_call.specs.pack_model.specs.reading.Model.{Model, dir_items}
use Rattle.laws_call.specs.pack_model.specs.reading.Versions.{exact}

-- a name that no entry of a directory has is one that none has after an operation that doesn't enter it there
abbrev pub AbsentNameStaysAbsent : Type 0
AbsentNameStaysAbsent = (m : Model) (d : Fid) (name : List ℕ) (o : Operation) → enters_name d name o ≡ false → exact name (dir_items m d) ≡ None → exact name (dir_items (step m o) d) ≡ None

-- after an entry left, of this directory or of another, at least as many words are free in a row as before
abbrev pub LeaveKeepsRoom : Type 0
LeaveKeepsRoom = (m : Model) (d e : Fid) (name : List ℕ) → largest_run (dir_items m d) ≤ largest_run (dir_items (step m (leave e name)) d)
