-- Room for a new entry: which directories get a page more first.
use Rattle.std.specs.Prelude.{◌≡◌, ℕ, ◌+◌, Bool, cond, List, [], ◌∷◌}
use Rattle.alto_words.specs.declared.fid.Fid.{Fid}
use Rattle.alto_words.specs.Fid.{sys_dir}
use Rattle.disk_records.specs.Packs.{Pack}
use Rattle.pack_model.specs.operations.Step.{Operation, spare_widening, room_widening}
use Rattle.pack_model.specs.operations.Step.Operation.{widen}
use Rattle.pack_model.specs.reading.Model.{read_as}
use Rattle.page_seeking.specs.declared.refs.FileRef.{FileRef}
use Rattle.exec_steps.specs.declared.rooms.NewEntry.{NewEntry}

-- how many pages come first
abbrev pub one_if : Bool → ℕ
one_if b = cond b 1 0

abbrev pub pages_planned : NewEntry → ℕ
pages_planned e = one_if e.widens_root + one_if e.widens_dir

abbrev pub widens_if : Bool → Fid → List Operation
widens_if b d = cond b (widen d ∷ []) []

-- What comes before an entry in this directory, by the directories as they are.
pub record IsPlanned (p : Pack) (dir : FileRef) (name : List ℕ) (e : NewEntry) : Type 0 where
  pub dir_is : e.dir ≡ dir
  pub name_is : e.name ≡ name
  pub widens_root : spare_widening (read_as p) ≡ widens_if e.widens_root sys_dir
  pub widens_dir : room_widening (read_as p) dir.fid name ≡ widens_if e.widens_dir dir.fid
