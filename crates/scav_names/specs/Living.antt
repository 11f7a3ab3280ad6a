-- Living files, each with the sector of its leader page and a name.
use Rattle.std.specs.Prelude.{ℕ, ◌||◌, Bool, List, map, Option, find}
use Rattle.std.specs.FinMap.{entries}
use Rattle.std.specs.List.Sorted.{IsStrictlySortedBy}
use Rattle.std.specs.Option.{is_some, option_map_or}
use Rattle.alto_words.specs.declared.fid.Fid.{Fid}
use Rattle.alto_words.specs.Fid.{fid_cmp, is_fid, is_system}
use Rattle.disk_records.specs.Packs.{Pack}
use Rattle.pack_model.specs.reading.Bodies.{File, found}
use Rattle.pack_model.specs.reading.Files.{place}
use Rattle.pack_model.specs.reading.Sights.{Sight, sights}
use Rattle.scav_names.specs.declared.living.Living.{Living}

-- the sector of a file's leader page; 0 where it has none
abbrev pub leader_sector : List Sight → Fid → ℕ
leader_sector ss f = option_map_or (λ at. at) (place ss f 0) 0

-- a living file with its leader's name
abbrev pub living_of : List Sight → Fid × File → Living
living_of ss e = record { fid = e.0; leader_at = leader_sector ss e.0; name = e.1.leader.name }

-- all living files of a pack, rising by full name
abbrev pub living_files : Pack → List Living
living_files p = map (living_of (sights p)) (entries (found (sights p)))

-- ---- files in memory
-- they rise by full name
abbrev pub Rises : List Living → Type 0
Rises files = IsStrictlySortedBy fid_cmp (map (λ x. x.fid) files)

-- the one with this full name
abbrev pub living_in : List Living → Fid → Option Living
living_in files f = find (λ x. is_fid f x.fid) files

-- a file lives if it is among them, and a system file is taken for living
abbrev pub lives_in : List Living → Fid → Bool
lives_in files f = is_system f || is_some (living_in files f)
