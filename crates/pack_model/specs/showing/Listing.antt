-- The order of what is shown.
-- The order is this project's choice.
use Rattle.std.specs.Prelude.{ℕ, List, length, map, Option, Some, None}
use Rattle.std.specs.declared.cmp.Ordering.{Ordering}
use Rattle.std.specs.Ordering.{then_cmp, on}
use Rattle.std.specs.Option.{option_map, option_cmp}
use Rattle.std.specs.FinMap.{from_entries, entries, keys, get}
use Rattle.disk_records.specs.alto_words.specs.declared.fid.Fid.{Fid}
use Rattle.disk_records.specs.alto_words.specs.Fid.{fid_cmp}
use Rattle.disk_records.specs.alto_words.specs.Names.{folded_cmp}
use Rattle.pack_model.specs.reading.Namings.{Naming}
use Rattle.pack_model.specs.showing.View.{Home, Seen, View}

-- the files, rising by full name
abbrev pub shown_files : View → List (Fid × Seen)
shown_files v = entries v.files

-- ---- the names, by directory and then by name without regard to case
abbrev pub naming_of : Fid × Home → Naming
naming_of e = record { dir = e.1.dir; name = e.1.name; fid = e.0 }

-- by directory, by name without regard to case, by file
abbrev pub naming_cmp : Naming → Naming → Ordering
naming_cmp = then_cmp (on (λ n. n.dir) fid_cmp) (then_cmp (on (λ n. n.name) folded_cmp) (on (λ n. n.fid) fid_cmp))

-- items in an order, those that tie once
abbrev pub in_order : {X : Type 0} → (X → X → Ordering) → List X → List X
in_order {X} cmp xs = keys (from_entries {X = Unit {0}} {R = cmp} (map (λ x. (x, tt {0})) xs))

-- all names of a view in that order
abbrev pub shown_names : View → List Naming
shown_names v = in_order naming_cmp (map naming_of (entries v.names))

-- ---- the listing: SysDir's names come first, then those of each directory by the name that it has in SysDir
-- A line of it: the directory's name, none for SysDir; the name; the file; its length, none for a directory.
pub record Listed : Type 0 where
  pub dir_name : Option (List ℕ)
  pub naming : Naming
  pub size : Option ℕ

-- the name under which a directory stands
abbrev pub home_name : View → Fid → Option (List ℕ)
home_name v d = option_map (λ h. h.name) (get v.names d)

abbrev pub size_of : Option Seen → Option ℕ
size_of None = None
size_of (Some x) = option_map (λ bytes. length bytes) x.bytes

-- what is listed of a name
abbrev pub line_of : View → Naming → Listed
line_of v n = record { dir_name = home_name v n.dir; naming = n; size = size_of (get v.files n.fid) }

-- whole stored names are compared, those of directories too
abbrev pub listed_cmp : Listed → Listed → Ordering
listed_cmp = then_cmp (on (λ l. l.dir_name) (option_cmp folded_cmp)) (on (λ l. l.naming) naming_cmp)

-- all names as they are listed
abbrev pub listing : View → List Listed
listing v = in_order listed_cmp (map (line_of v) (shown_names v))
