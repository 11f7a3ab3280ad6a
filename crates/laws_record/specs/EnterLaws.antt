-- An entry comes into a directory, on any pack: what is read then, and that the next one that settling adds leaves what is shown.
use Rattle.std.specs.FinMap.{FinMap, contains_key, entries, get}
use Rattle.std.specs.List.{list_any}
use Rattle.std.specs.Prelude.{List, None, Some, [], false, length, true, ℕ, ◌++◌, ◌+◌, ◌∷◌, ◌≡◌}
use Rattle.pack_laws.specs.alto_words.specs.Fid.{fid_cmp, is_system, sys_dir}
use Rattle.pack_laws.specs.alto_words.specs.declared.fid.Fid.{Fid}
use Rattle.pack_laws.specs.disk_records.specs.Packs.{Pack}
use Rattle.pack_laws.specs.pack_model.specs.reading.Files.{lives}
use Rattle.pack_laws.specs.pack_model.specs.reading.Model.{dir_items, read_as}
use Rattle.pack_laws.specs.pack_model.specs.reading.Namings.{clashes, fits, namings}
use Rattle.pack_laws.specs.pack_model.specs.operations.Rooms.{find_room}
use Rattle.pack_laws.specs.pack_model.specs.showing.Settling.{chosen}
use Rattle.pack_laws.specs.pack_model.specs.reading.Sights.{sights}
use Rattle.pack_laws.specs.pack_model.specs.reading.Slots.{Item, all_words, entry_length}
use Rattle.pack_laws.specs.pack_model.specs.operations.Step.{step}
use Rattle.pack_laws.specs.pack_model.specs.operations.Step.Operation.{enter}
use Rattle.pack_laws.specs.pack_model.specs.showing.View.{Home, Seen, View, view}
use Rattle.laws_record.specs.ChainLaws.{ShowsSame}
use Rattle.laws_record.specs.DirLaws.{Enters, entered}

-- ---- entries that are kept
-- Its file lives, it fits, and neither the file nor the name stands anywhere in the model: so the entry is kept.
pub record MayEnter (p : Pack) (d f : Fid) (name : List ℕ) : Type 0 where
  pub lives : lives (sights p) f ≡ true
  pub fits : fits (record { dir = d; name = name; fid = f }) ≡ true
  pub apart : list_any (clashes (record { dir = d; name = name; fid = f })) (namings (entries (read_as p).files)) ≡ false

-- Its room in the model is the free slot where it is written.
abbrev pub IsItsRoom : Pack → Fid → List Item → List ℕ → ℕ → Type 0
IsItsRoom p d a name left = find_room (entry_length (length name)) (dir_items (read_as p) d) ≡ Some (record { first = length a; place = all_words a; total = entry_length (length name) + left })

-- the record write of its first words is the operation
abbrev pub EntryIsTheStep : Type 0
EntryIsTheStep = (p : Pack) (d : Fid) (at : ℕ) (new : List ℕ) (a b : List Item) (f : Fid) (name : List ℕ) (left : ℕ) → Enters p d at new a b f name left → MayEnter p d f name → IsItsRoom p d a name left → read_as (entered p at a new) ≡ step (read_as p) (enter d name f)

-- ---- the next name that settling adds
-- all of these have names
abbrev pub AllNamed : FinMap fid_cmp Home → List (Fid × Seen) → Type 0
AllNamed names [] = Unit {0}
AllNamed names (e ∷ es) = (contains_key names e.0 ≡ true) × AllNamed names es

-- It is the first nameless file.
pub record IsNext (v : View) (f : Fid) (x : Seen) : Type 0 where
  pub before : List (Fid × Seen)
  pub later : List (Fid × Seen)
  pub split : entries v.files ≡ before ++ (f, x) ∷ later
  pub named : AllNamed v.names before
  pub nameless : get v.names f ≡ None

-- the entry that gives it this name in SysDir, wherever its room is
abbrev pub NextNameThatSettlingGives : Type 0
NextNameThatSettlingGives = (p : Pack) (at : ℕ) (new : List ℕ) (a b : List Item) (f : Fid) (x : Seen) (left : ℕ) → let name : List ℕ = chosen (view (read_as p)).names x.leader.name in
    IsNext (view (read_as p)) f x → is_system f ≡ false → Enters p sys_dir at new a b f name left → MayEnter p sys_dir f name → ShowsSame p (entered p at a new)
