-- Lengths of files within a line, on any model, and the last page that a leader names.
use Rattle.std.specs.Prelude.{List, false, length, ℕ, ◌+◌, ◌≡◌, ◌≤◌}
use Rattle.laws_call.specs.alto_words.specs.Fid.{is_directory, is_fid}
use Rattle.laws_call.specs.alto_words.specs.declared.fid.Fid.{Fid}
use Rattle.laws_call.specs.disk_records.specs.Packs.{Pack}
use Rattle.laws_call.specs.laws_lookup.specs.OtherLaws.{LeavesOthers}
use Rattle.laws_call.specs.pack_model.specs.operations.Committing.{length_of}
use Rattle.laws_call.specs.pack_model.specs.operations.Step.Operation.{enter, make, put}
use Rattle.laws_call.specs.pack_model.specs.operations.Step.{step}
use Rattle.laws_call.specs.pack_model.specs.reading.Model.{Model}
use Rattle.page_seeking.specs.Seeking.{NamedNearEnd}

-- bytes that are put within a file leave its length
abbrev pub PutKeepsTheLength : Type 0
PutKeepsTheLength = (m : Model) (f : Fid) (offset : ℕ) (new : List ℕ) → offset + length new ≤ length_of m f → length_of (step m (put f offset new)) f ≡ length_of m f

-- a new file that is no directory has no bytes, once it is made and entered
abbrev pub NewFileIsEmpty : Type 0
NewFileIsEmpty = (m : Model) (d f : Fid) (name own : List ℕ) (moment : ℕ) → is_directory f ≡ false → length_of (step (step m (make f name moment)) (enter d own f)) f ≡ 0

-- the last page that a leader names is as near the end as it was where record writes leave all files but another one as they were
abbrev pub NamedPageStays : Type 0
NamedPageStays = (p q : Pack) (f g : Fid) (more : ℕ) → LeavesOthers f p q → is_fid g f ≡ false → NamedNearEnd p g more → NamedNearEnd q g more
