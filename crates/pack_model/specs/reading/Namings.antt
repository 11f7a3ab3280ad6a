-- Names in directories, and which entries are kept.
-- One entry for a file, the scan and its order, and what becomes of the system names are this project's choice.
use Rattle.std.specs.Prelude.{◌≡◌, ℕ, ◌&&◌, ◌||◌, Bool, true, false, cond, not, codes, List, [], ◌∷◌, ◌++◌}
use Rattle.std.specs.List.{list_any}
use Rattle.std.specs.FinMap.{from_entries, entries}
use Rattle.disk_records.specs.alto_words.specs.declared.fid.Fid.{Fid}
use Rattle.disk_records.specs.alto_words.specs.Fid.{is_fid, is_directory, sys_dir, disk_descriptor}
use Rattle.disk_records.specs.alto_words.specs.Names.{is_same_name}
use Rattle.pack_model.specs.reading.Slots.{Item, item_words}
use Rattle.pack_model.specs.reading.Slots.Item.{space, entry}
use Rattle.pack_model.specs.reading.Bodies.{Body, File, Files}
use Rattle.pack_model.specs.reading.Bodies.Body.{data_of, items_of}

-- the names of the two system files
abbrev pub sys_dir_name : List ℕ
sys_dir_name = codes "SysDir."

-- DiskDescriptor's name
abbrev pub descriptor_name : List ℕ
descriptor_name = codes "DiskDescriptor."

-- An entry: its directory, its name, and the file that it names.
pub record Naming : Type 0 where
  pub dir : Fid
  pub name : List ℕ
  pub fid : Fid

-- ---- which entries are kept
-- both or neither
abbrev pub alike : Bool → Bool → Bool
alike true b = b
alike false b = not b

-- this name in SysDir
abbrev pub is_own : List ℕ → Naming → Bool
is_own name e = is_fid e.dir sys_dir && is_same_name e.name name

-- the system files stand in SysDir under their names, and nothing else has these names there
unfoldable pub keeps_system : Naming → Bool
keeps_system e = alike (is_fid e.fid sys_dir) (is_own sys_dir_name e) && alike (is_fid e.fid disk_descriptor) (is_own descriptor_name e)

-- one file, or one name in one directory
abbrev pub clashes : Naming → Naming → Bool
clashes a b = is_fid a.fid b.fid || (is_fid a.dir b.dir && is_same_name a.name b.name)

-- directories stand in SysDir, and the system files have their names
abbrev pub fits : Naming → Bool
fits e = (not (is_directory e.fid) || is_fid e.dir sys_dir) && keeps_system e

-- an entry may be kept by itself: its file lives, and it fits
abbrev pub may_stand : (Fid → Bool) → Naming → Bool
may_stand lives e = lives e.fid && fits e

-- and beside those that were kept before it: neither its file nor its name in its directory is kept yet
abbrev pub is_kept : (Fid → Bool) → List Naming → Naming → Bool
is_kept lives before e = may_stand lives e && not (list_any (clashes e) before)

-- ---- the one scan of all directories, each by its slots
-- the slot as it stands, or where its entry isn't kept a free one of its length
abbrev pub item_kept : (List Naming → Naming → Bool) → Fid → List Naming → Item → Item
item_kept ok d before (space n) = space n
item_kept ok d before (entry f name) = cond (ok before (record { dir = d; name = name; fid = f })) (entry f name) (space (item_words (entry f name)))

-- the entries kept once this slot is passed
abbrev pub kept_by : (List Naming → Naming → Bool) → Fid → List Naming → Item → List Naming
kept_by ok d before (space n) = before
kept_by ok d before (entry f name) =
    let e : Naming = record { dir = d; name = name; fid = f } in
    cond (ok before e) (e ∷ before) before

abbrev pub items_kept : (List Naming → Naming → Bool) → Fid → List Naming → List Item → List Item
items_kept ok d before [] = []
items_kept ok d before (i ∷ is) = item_kept ok d before i ∷ items_kept ok d (kept_by ok d before i) is

abbrev pub kept_after : (List Naming → Naming → Bool) → Fid → List Naming → List Item → List Naming
kept_after ok d before [] = before
kept_after ok d before (i ∷ is) = kept_after ok d (kept_by ok d before i) is

abbrev pub body_kept : (List Naming → Naming → Bool) → Fid → List Naming → Body → Body
body_kept ok d before (data_of bytes) = data_of bytes
body_kept ok d before (items_of is) = items_of (items_kept ok d before is)

abbrev pub kept_after_body : (List Naming → Naming → Bool) → Fid → List Naming → Body → List Naming
kept_after_body ok d before (data_of bytes) = before
kept_after_body ok d before (items_of is) = kept_after ok d before is

-- by rising full name; SysDir comes first, since no directory has a lower one
abbrev pub files_kept : (List Naming → Naming → Bool) → List Naming → List (Fid × File) → List (Fid × File)
files_kept ok before [] = []
files_kept ok before (e ∷ es) =
    (e.0, record { leader = e.1.leader; body = body_kept ok e.0 before e.1.body }) ∷ files_kept ok (kept_after_body ok e.0 before e.1.body) es

-- the files with each slot free whose entry isn't kept
unfoldable pub tidied : (Fid → Bool) → Files → Files
tidied lives files = from_entries (files_kept (is_kept lives) [] (entries files))

-- ---- all entries, in the order of the scan
abbrev pub namings_in : Fid → List Item → List Naming
namings_in d [] = []
namings_in d (space n ∷ is) = namings_in d is
namings_in d (entry f name ∷ is) = record { dir = d; name = name; fid = f } ∷ namings_in d is

abbrev pub body_namings : Fid → Body → List Naming
body_namings d (data_of bytes) = []
body_namings d (items_of is) = namings_in d is

abbrev pub namings : List (Fid × File) → List Naming
namings [] = []
namings (e ∷ es) = body_namings e.0 e.1.body ++ namings es

-- each is kept beside those before it
abbrev pub AllKept : (List Naming → Naming → Bool) → List Naming → List Naming → Type 0
AllKept ok before [] = Unit {0}
AllKept ok before (e ∷ es) = (ok before e ≡ true) × AllKept ok (e ∷ before) es

-- every entry is kept
abbrev pub IsTidy : (Fid → Bool) → Files → Type 0
IsTidy lives files = AllKept (is_kept lives) [] (namings (entries files))
