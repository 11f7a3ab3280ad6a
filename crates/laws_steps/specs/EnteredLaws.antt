-- The entry that a name means in the model, and over operations that keep entries.
use Rattle.std.specs.Prelude.{List, Some, true, ℕ, ◌≡◌}
use Rattle.laws_call.specs.alto_words.specs.declared.fid.Fid.{Fid}
use Rattle.laws_call.specs.laws_line.specs.LineLaws.{IsEntered}
use Rattle.laws_call.specs.laws_operation.specs.EntryLaws.{keeps_entries}
use Rattle.laws_call.specs.pack_model.specs.operations.Step.{Operation, step}
use Rattle.laws_call.specs.pack_model.specs.reading.Model.{Model, dir_items}
use Rattle.laws_call.specs.pack_model.specs.reading.Versions.{exact}

-- a file that is entered under a name is the one that the name means
abbrev pub EnteredIsMeant : Type 0
EnteredIsMeant = (m : Model) (d f : Fid) (name : List ℕ) (h : IsEntered m d name f) → exact name (dir_items m d) ≡ Some (f, h.own)

-- and is entered so after an operation on bytes or a leader, and after a widening, of the same directory too
abbrev pub EnteredStays : Type 0
EnteredStays = (m : Model) (d f : Fid) (name : List ℕ) (o : Operation) → keeps_entries o ≡ true → IsEntered m d name f → IsEntered (step m o) d name f
