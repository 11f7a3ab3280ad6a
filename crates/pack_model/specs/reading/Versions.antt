-- Entries of one base, and the names that a line means by them.
-- Versions of names, and which of them a line means, are this project's choice.
use Rattle.std.specs.Prelude.{ℕ, ◌+◌, ◌&&◌, ◌||◌, Bool, false, cond, nat_lt, List, [], ◌∷◌, Option, Some, None, is_none}
use Rattle.disk_records.specs.alto_words.specs.declared.fid.Fid.{Fid}
use Rattle.disk_records.specs.alto_words.specs.Fid.{is_directory, is_system}
use Rattle.disk_records.specs.alto_words.specs.Names.{is_same_name, base_of, version_of, most_version, with_version}
use Rattle.disk_records.specs.alto_words.specs.declared.wanted.Wanted.{Wanted}
use Rattle.disk_records.specs.alto_words.specs.declared.wanted.Wanted.TheVariants.{Exact, Newest}
use Rattle.disk_records.specs.alto_words.specs.Wanted.{base_wanted}
use Rattle.pack_model.specs.reading.Slots.{Item}
use Rattle.pack_model.specs.reading.Slots.Item.{space, entry}

-- ---- the entries of a directory that have a base
-- a name has this base, in any case of its letters
abbrev pub has_base : List ℕ → List ℕ → Bool
has_base base own = is_same_name (base_of own) base

-- An entry: its file, and its name.
abbrev pub Entered : Type 0
Entered = Fid × List ℕ

-- the version of an entry that was found; 0 where none was
abbrev pub version_found : Option Entered → ℕ
version_found None = 0
version_found (Some e) = version_of e.1

-- The entry of the greatest version of this base, where this one is that of the slots before: the slots are read from left to right, as
-- a scan does. Of two entries of one version the first counts; a tidy directory has no two.
abbrev pub newest_from : List ℕ → Option Entered → List Item → Option Entered
newest_from base best [] = best
newest_from base best (space n ∷ is) = newest_from base best is
newest_from base best (entry f own ∷ is) = newest_from base (cond (has_base base own && nat_lt (version_found best) (version_of own)) (Some (f, own)) best) is

-- the entry of the greatest version of this base
abbrev pub newest : List ℕ → List Item → Option Entered
newest base is = newest_from base None is

-- its version; 0 where no entry has the base
abbrev pub greatest_version : List ℕ → List Item → ℕ
greatest_version base is = version_found (newest base is)

-- the first entry of this name, in any case of its letters
abbrev pub exact : List ℕ → List Item → Option Entered
exact name [] = None
exact name (space n ∷ is) = exact name is
exact name (entry f own ∷ is) = cond (is_same_name own name) (Some (f, own)) (exact name is)

-- the entry that an operand means: the one of a name with a stated version, else the one of the greatest version
abbrev pub entry_wanted : Wanted → List Item → Option Entered
entry_wanted (Exact name) is = exact name is
entry_wanted (Newest base) is = newest base is

-- ---- the names that new entries get
-- this base is the name of a directory or of a system file; such a name has no version
abbrev pub is_held : List ℕ → List Item → Bool
is_held base [] = false
is_held base (space n ∷ is) = is_held base is
is_held base (entry f own ∷ is) = (is_same_name own base && (is_directory f || is_system f)) || is_held base is

-- The name of a new entry that is wanted so, if it can have one: with a stated version this name, unless it is there; else the version
-- after the greatest of its base, 1 where no entry has the base, unless the greatest is 65,534 or the name gets longer than 39 characters.
abbrev pub new_name : Wanted → List Item → Option (List ℕ)
new_name (Exact name) is = cond (is_none (exact name is)) (Some name) None
new_name (Newest base) is = cond (nat_lt (greatest_version base is) most_version) (with_version base (greatest_version base is + 1)) None

-- no new entry can be made that is wanted so: it gets no name, or its base is held
abbrev pub is_name_taken : Wanted → List Item → Bool
is_name_taken w is = is_none (new_name w is) || is_held (base_wanted w) is

-- no new directory can have this name: some entry has it as its base
abbrev pub is_base_taken : List ℕ → List Item → Bool
is_base_taken base is = nat_lt 0 (greatest_version base is)
