-- What stays known of a directory's slots and of names that are free in it over the operations of a line, on any model.
use Rattle.std.specs.Prelude.{Bool, List, false, not, true, ℕ, ◌&&◌, ◌≡◌}
use Rattle.laws_operation.specs.alto_words.specs.Fid.{is_fid}
use Rattle.laws_operation.specs.alto_words.specs.Names.{is_same_name}
use Rattle.laws_operation.specs.alto_words.specs.declared.fid.Fid.{Fid}
use Rattle.laws_operation.specs.pack_model.specs.operations.Step.{Operation, step}
use Rattle.laws_operation.specs.pack_model.specs.operations.Step.Operation.{cut, drop_file, enter, grow, leave, make, put, stamp, title, widen}
use Rattle.laws_operation.specs.pack_model.specs.reading.Model.{Model, dir_items}
use Rattle.laws_operation.specs.EntryLaws.{IsOpenTo}

-- an operation that changes no slot of this directory; a drop frees those of its file wherever they are
abbrev pub leaves_slots : Fid → Operation → Bool
leaves_slots d (make f name moment) = not (is_fid d f)
leaves_slots d (put f offset new) = true
leaves_slots d (grow f new) = true
leaves_slots d (cut f n) = true
leaves_slots d (title f name) = true
leaves_slots d (stamp f moment) = true
leaves_slots d (drop_file f) = false
leaves_slots d (leave e name) = not (is_fid d e)
leaves_slots d (enter e name f) = not (is_fid d e)
leaves_slots d (widen e) = not (is_fid d e)

-- its slots are the same afterwards, and with them each entry that is wanted, each new name and each base that is held
abbrev pub SlotsStay : Type 0
SlotsStay = (m : Model) (d : Fid) (o : Operation) → leaves_slots d o ≡ true → dir_items (step m o) d ≡ dir_items m d

-- an operation that enters this name in this directory, in any case of its letters
abbrev pub enters_name : Fid → List ℕ → Operation → Bool
enters_name d name (make f own moment) = false
enters_name d name (put f offset new) = false
enters_name d name (grow f new) = false
enters_name d name (cut f n) = false
enters_name d name (title f own) = false
enters_name d name (stamp f moment) = false
enters_name d name (drop_file f) = false
enters_name d name (leave e own) = false
enters_name d name (enter e own f) = is_fid d e && is_same_name own name
enters_name d name (widen e) = false

-- after any other one a name that was open to a file is open to it still
abbrev pub OpenNameStaysOpen : Type 0
OpenNameStaysOpen = (m : Model) (d f : Fid) (name : List ℕ) (o : Operation) → enters_name d name o ≡ false → IsOpenTo m d f name → IsOpenTo (step m o) d f name
