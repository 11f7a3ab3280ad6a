-- What a caller knows before it enters a name: that the entry may stand.
use Rattle.std.specs.Prelude.{List, false, true, ℕ, ◌≡◌}
use Rattle.laws_operation.specs.alto_words.specs.Fid.{is_directory, is_fid, is_system, sys_dir}
use Rattle.laws_operation.specs.alto_words.specs.declared.fid.Fid.{Fid}
use Rattle.laws_operation.specs.disk_records.specs.Packs.{Pack}
use Rattle.laws_operation.specs.pack_model.specs.reading.Files.{lives}
use Rattle.laws_operation.specs.pack_model.specs.reading.Model.{read_as}
use Rattle.laws_operation.specs.pack_model.specs.reading.Namings.{fits}
use Rattle.laws_operation.specs.pack_model.specs.reading.Sights.{sights}
use Rattle.laws_operation.specs.pack_model.specs.states.Whole.{Whole}
use Rattle.laws_operation.specs.EntryLaws.{IsApart}
use Rattle.laws_operation.specs.laws_record.specs.EnterLaws.{MayEnter}

-- A file that is no system file, and a directory only if the entry is in SysDir.
pub record IsEnterable (d f : Fid) : Type 0 where
  pub no_system : is_system f ≡ false
  pub in_root : is_directory f ≡ true → is_fid d sys_dir ≡ true

-- on a whole pack its entry fits, if it clashes with none: the system files have their names in SysDir already
abbrev pub ApartEntryFits : Type 0
ApartEntryFits = (p : Pack) (d f : Fid) (name : List ℕ) → Whole p → IsEnterable d f → IsApart (read_as p) d f name → fits (record { dir = d; name = name; fid = f }) ≡ true

-- and may be entered, if it lives
abbrev pub ApartEntryMayBeEntered : Type 0
ApartEntryMayBeEntered = (p : Pack) (d f : Fid) (name : List ℕ) → Whole p → lives (sights p) f ≡ true → IsEnterable d f → IsApart (read_as p) d f name → MayEnter p d f name
