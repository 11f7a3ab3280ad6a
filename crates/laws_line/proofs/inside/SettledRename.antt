-- After the line that renames a file every file has a name.
use Rattle.std.proofs.Common.{List, ap, false, length, true, ℕ, ◌≡◌, ◌≤◌}
use Rattle.std.specs.FinMap.{contains_key}
use Rattle.std.specs.Option.{is_some}
use Rattle.laws_room.specs.alto_words.specs.Fid.{is_system, sys_dir}
use Rattle.laws_room.specs.alto_words.specs.declared.fid.Fid.{Fid}
use Rattle.laws_line.proofs.inside.Renaming.{left, left_after, rename_leaves_room, rest, titled}
use Rattle.laws_line.proofs.inside.RoomFound.{all_named, roomy_after}
use Rattle.laws_line.proofs.inside.Roomy.{Roomy, directory_roomy, roomy_enter, roomy_leave, roomy_step, roomy_steps, root_is_directory}
use Rattle.laws_line.proofs.inside.SettledAgain.{after_line}
use Rattle.laws_line.proofs.inside.Spared.{behind, front, leaves_front, prepared_line}
use Rattle.laws_line.proofs.inside.Throughout.{steps_both}
use Rattle.laws_line.specs.AfterLaws.{SettledAfterRename}
use Rattle.laws_line.specs.LineLaws.{IsEntered, rename_line}
use Rattle.laws_line.specs.Ready.{Settled, steps_of}
use Rattle.pack_model.specs.operations.Committing.{pages_for_operations}
use Rattle.pack_model.specs.reading.Model.{IsNamed, Model, room}
use Rattle.pack_model.specs.reading.Slots.{entry_length}
use Rattle.pack_model.specs.operations.Step.{step}
use Rattle.pack_model.specs.operations.Step.Operation.{enter, title}

module _ (m : Model) (d : Fid) (old : List ℕ) (to : Fid) (name : List ℕ) (f : Fid) (s : Settled m) (h : IsEntered m d old f) (short : length name ≤ 39) (ordinary : is_system f ≡ false) where
  -- the model after the entry that goes, and the last one
  abbrev before : Model
  before = left m d old to name f s h short ordinary

  abbrev last : Model
  last = step before (enter to name f)

  last_is : steps_of m (rename_line m d old to name f) ≡ last
  last_is = steps_both m (front m to name s) (rest m d old to name f s h short ordinary)

  -- a directory keeps its slots, and the words that are free in a row, until the entry comes
  left_directory : (k : ℕ) (e : Fid) → Roomy k (behind m to name s) e → Roomy k before e
  left_directory k e r = roomy_leave k (titled m d old to name f s h short ordinary) d old e (roomy_step k (behind m to name s) (title f name) e short r)

  stays : (e : Fid) → Roomy 0 m e → Roomy 0 last e
  stays e r = roomy_enter before to name f e short (left_directory 0 e (roomy_steps 0 m (front m to name s) e (leaves_front m to name s) r))

  -- every file has a name
  named : Roomy 0 m to → pages_for_operations m (rename_line m d old to name f) ≤ room m → (g : Fid) → contains_key last.files g ≡ true → IsNamed last g
  named r few =
      let but = (left_after m d old to name f s h short ordinary (prepared_line m to name s (rest m d old to name f s h short ordinary) few)).named in
      all_named before to name f short (left_directory (entry_length (length name)) to (roomy_after m to name s short r)) but

pub settled_after_rename : SettledAfterRename
settled_after_rename m d old to name f s dir h short ordinary few =
    after_line m (rename_line m d old to name f) (last m d old to name f s h short ordinary) (last_is m d old to name f s h short ordinary) s
    (rename_leaves_room m d old to name f s h short ordinary few) (named m d old to name f s h short ordinary (directory_roomy m to dir) few)
    (λ e there r. stays m d old to name f s h short ordinary e r)
    (ap is_some (stays m d old to name f s h short ordinary sys_dir (directory_roomy m sys_dir (root_is_directory m s))).there)
