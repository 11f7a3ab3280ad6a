-- Files by names and by serials, in a model.
-- What a name means is this project's choice.
use Rattle.std.specs.Prelude.{ℕ, ◌==◌, Bool, cond, nat_lt, List, [], length, Option, Some, None}
use Rattle.std.specs.Option.{option_map, is_some, unwrap_or}
use Rattle.std.specs.FinMap.{entries}
use Rattle.exec_words.specs.alto_words.specs.declared.fid.Fid.{Fid}
use Rattle.exec_words.specs.alto_words.specs.Fid.{serial_of, sys_dir, disk_descriptor}
use Rattle.exec_words.specs.pack_model.specs.reading.Files.{first}
use Rattle.exec_words.specs.pack_model.specs.reading.Model.{Model, dir_items, root_items}
use Rattle.exec_words.specs.pack_model.specs.reading.Namings.{Naming, namings_in}
use Rattle.exec_words.specs.pack_model.specs.reading.Versions.{Entered, exact, entry_wanted, new_name, is_name_taken, is_base_taken}
use Rattle.exec_words.specs.declared.line.Path.{Path}
use Rattle.exec_words.specs.declared.line.Target.{Target}
use Rattle.exec_words.specs.declared.line.Target.TheVariants.{ByPath, BySerial}

abbrev pub fid_of : Option Entered → Option Fid
fid_of = option_map (λ e. e.0)

-- ---- directories
-- the one of this name in SysDir; SysDir where none is typed
abbrev pub dir_of : Model → Option (List ℕ) → Option Fid
dir_of m None = Some sys_dir
dir_of m (Some name) = fid_of (exact name (root_items m))

-- its entries, in the order of its slots; none where the file is no directory
abbrev pub entries_of : Model → Fid → List Naming
entries_of m d = namings_in d (dir_items m d)

abbrev pub has_entry : Model → Fid → Bool
has_entry m d = nat_lt 0 (length (entries_of m d))

-- ---- files
-- the entry that a path means, of a directory that may not be there
abbrev pub entry_in : Model → Path → Option Fid → Option Entered
entry_in m path None = None
entry_in m path (Some d) = entry_wanted path.wanted (dir_items m d)

abbrev pub entry_meant : Model → Path → Option Entered
entry_meant m path = entry_in m path (dir_of m path.dir)

-- the living file of least full name with this serial; DiskDescriptor has the least one with its own
abbrev pub by_serial : Model → ℕ → Option Fid
by_serial m n = cond (n == serial_of disk_descriptor) (Some disk_descriptor) (first (λ e. cond (serial_of e.0 == n) (Some e.0) None) (entries m.files))

abbrev pub file_at : Model → Target → Option Fid
file_at m (ByPath path) = fid_of (entry_meant m path)
file_at m (BySerial serial) = by_serial m serial

abbrev pub is_there : Model → Path → Bool
is_there m path = is_some (file_at m (ByPath path))

-- ---- of operands that are there
abbrev pub the_file : Model → Target → Fid
the_file m target = unwrap_or (file_at m target) sys_dir

abbrev pub the_dir : Model → Path → Fid
the_dir m path = unwrap_or (dir_of m path.dir) sys_dir

-- the name of the entry that a path means
abbrev pub own_name : Model → Path → List ℕ
own_name m path = unwrap_or (option_map (λ e. e.1) (entry_meant m path)) []

-- ---- new names, in the directory of a path
abbrev pub is_path_taken : Model → Path → Bool
is_path_taken m path = is_name_taken path.wanted (dir_items m (the_dir m path))

-- the name that the new file gets, where it isn't taken
abbrev pub name_given : Model → Path → List ℕ
name_given m path = unwrap_or (new_name path.wanted (dir_items m (the_dir m path))) []

-- a new directory's name is no base of an entry of SysDir
abbrev pub is_dir_taken : Model → List ℕ → Bool
is_dir_taken m name = is_base_taken name (root_items m)
