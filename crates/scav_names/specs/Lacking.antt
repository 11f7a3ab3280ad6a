-- The entries that SysDir lacks, each with the sector of its file's leader page.
use Rattle.std.specs.Prelude.{ℕ, not, List, map}
use Rattle.std.specs.Option.{option_map_or}
use Rattle.alto_words.specs.declared.fid.Fid.{Fid}
use Rattle.alto_words.specs.Fid.{is_system}
use Rattle.disk_records.specs.Packs.{Pack}
use Rattle.laws_room.specs.NextLaws.{mended_pack}
use Rattle.pack_model.specs.reading.Sights.{sights}
use Rattle.pack_model.specs.scavenger.Mended.{lacking}
use Rattle.pack_model.specs.states.InUse.{how_many}
use Rattle.scav_pages.specs.Fresh.{own_name}
use Rattle.scav_names.specs.declared.living.Living.{Living}
use Rattle.scav_names.specs.Living.{leader_sector, living_in}

-- a file and a name, and the entry that they are
abbrev pub entry_for : Living → Fid × List ℕ
entry_for x = (x.fid, x.name)

-- a lacking entry with the sector of its file's leader page
abbrev pub lacking_file : Pack → Fid × List ℕ → Living
lacking_file p e = record { fid = e.0; leader_at = leader_sector (sights p) e.0; name = e.1 }

-- all of them, in their order
abbrev pub lacking_files : Pack → List Living
lacking_files p = map (lacking_file p) (lacking (mended_pack p))

-- that of a system file, by the living files in memory
abbrev pub system_living : List Living → Fid → Living
system_living files f = record { fid = f; leader_at = option_map_or (λ x. x.leader_at) (living_in files f) 0; name = own_name f }

-- how many aren't system files
abbrev pub adopted_among : List Living → ℕ
adopted_among files = how_many (λ x. not (is_system x.fid)) files
