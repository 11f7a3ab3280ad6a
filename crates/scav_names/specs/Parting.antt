-- The one scan of all entries of a pack, both system files taken for living.
use Rattle.std.specs.Prelude.{◌≡◌, ◌&&◌, ◌||◌, fold, Bool, true, cond, List, [], ◌∷◌, ◌++◌, map}
use Rattle.std.specs.FinMap.{empty}
use Rattle.std.specs.List.{list_any}
use Rattle.alto_words.specs.declared.fid.Fid.{Fid}
use Rattle.alto_words.specs.Fid.{fid_cmp, is_fid, is_system, sys_dir, disk_descriptor}
use Rattle.disk_records.specs.Packs.{Pack}
use Rattle.kept_names.specs.Homes.{StandsFor, considered}
use Rattle.pack_model.specs.reading.Files.{lives}
use Rattle.pack_model.specs.reading.Namings.{Naming, is_kept}
use Rattle.pack_model.specs.reading.Sights.{sights}
use Rattle.pack_model.specs.scavenger.Mended.{with_system}
use Rattle.scav_names.specs.declared.parted.Parted.{Parted}
use Rattle.scav_names.specs.declared.placed.PlacedEntry.{PlacedEntry}
use Rattle.scav_names.specs.Catalogues.{naming_of, pack_entries}

-- of these entries those that are kept beside the ones kept before them, and the others
abbrev pub kept_among : (Fid → Bool) → List Naming → List PlacedEntry → List PlacedEntry
kept_among alive before [] = []
kept_among alive before (e ∷ es) = cond (is_kept alive before (naming_of e)) (e ∷ kept_among alive (naming_of e ∷ before) es) (kept_among alive before es)

abbrev pub unkept_among : (Fid → Bool) → List Naming → List PlacedEntry → List PlacedEntry
unkept_among alive before [] = []
unkept_among alive before (e ∷ es) = cond (is_kept alive before (naming_of e)) (unkept_among alive (naming_of e ∷ before) es) (e ∷ unkept_among alive before es)

-- one entry more
abbrev pub push_entry : List PlacedEntry → PlacedEntry → List PlacedEntry
push_entry before e = before ++ e ∷ []

-- ---- in memory
-- Entries are parted: those that are kept, the others, the kept ones of shown files as names, and whether the system files have one.
pub record IsPartedTo (alive : Fid → Bool) (all : List PlacedEntry) (parted : Parted) : Type 0 where
  pub kept : parted.kept ≡ kept_among alive [] all
  pub unkept : parted.unkept ≡ unkept_among alive [] all
  pub names : StandsFor parted.names (fold (considered alive) (empty {R = fid_cmp}) (map naming_of all))
  pub root : parted.names_root ≡ list_any (λ e. is_fid e.fid sys_dir) (kept_among alive [] all)
  pub descriptor : parted.names_descriptor ≡ list_any (λ e. is_fid e.fid disk_descriptor) (kept_among alive [] all)

-- a system file lives
abbrev pub LetsSystem : (Fid → Bool) → Type 0
LetsSystem alive = (f : Fid) → is_system f ≡ true → alive f ≡ true

-- the entries that are kept of these, the last one first
abbrev pub kept_names_of : (Fid → Bool) → List Naming → List PlacedEntry → List Naming
kept_names_of alive before [] = before
kept_names_of alive before (e ∷ es) = kept_names_of alive (cond (is_kept alive before (naming_of e)) (naming_of e ∷ before) before) es

-- It was judged whether the next entry is kept, and its file has an entry from then on.
pub record IsJudged (alive : Fid → Bool) (before : List PlacedEntry) (e : PlacedEntry) (old new : Parted) (keeps : Bool) : Type 0 where
  pub kept : new.kept ≡ old.kept
  pub unkept : new.unkept ≡ old.unkept
  pub keeps_is : keeps ≡ is_kept alive (kept_names_of alive [] before) (naming_of e)
  pub names : StandsFor new.names (considered alive (fold (considered alive) (empty {R = fid_cmp}) (map naming_of before)) (naming_of e))
  pub root : new.names_root ≡ (old.names_root || (keeps && is_fid e.fid sys_dir))
  pub descriptor : new.names_descriptor ≡ (old.names_descriptor || (keeps && is_fid e.fid disk_descriptor))

-- ---- of a pack
-- a file lives, or is a system file
abbrev pub lives_then : Pack → Fid → Bool
lives_then p = with_system (lives (sights p))

-- its entries that are kept, and the others
abbrev pub kept_entries : Pack → List PlacedEntry
kept_entries p = kept_among (lives_then p) [] (pack_entries p)

abbrev pub unkept_entries : Pack → List PlacedEntry
unkept_entries p = unkept_among (lives_then p) [] (pack_entries p)

-- all of them are parted
abbrev pub IsParted : Pack → Parted → Type 0
IsParted p parted = IsPartedTo (lives_then p) (pack_entries p) parted
