-- DiskDescriptor's words, once pages and names are mended.
use Rattle.std.specs.Prelude.{◌≡◌, ◌&&◌, ℕ, suc, ◌<◌, nat_lt, Bool, false, cond, List, get_or, length, set, Some}
use Rattle.disk_records.specs.Packs.{Pack}
use Rattle.alto_words.specs.Fid.{disk_descriptor}
use Rattle.pack_model.specs.hints.Tables.{free_table}
use Rattle.pack_model.specs.reading.Files.{place}
use Rattle.pack_model.specs.reading.Sights.{Sight, sights}
use Rattle.pack_model.specs.sessions.Descriptor.{data_pages}
use Rattle.pack_model.specs.states.InUse.{is_free_sight}
use Rattle.scav_pages.specs.Ends.{ArePlaces}
use Rattle.scavenger.specs.declared.map.Map.{Map}
use Rattle.scavenger.specs.Descriptors.{NotesPage}

-- ---- a sweep of all sectors
-- a free sector is noted as free
abbrev pub marked : List Bool → ℕ → Sight → List Bool
marked table at s = cond (is_free_sight s && nat_lt at (length table)) (set table at false) table

-- one sector more
abbrev pub Maps : Map → ℕ → Sight → Map → Type 0
Maps old at s new = (new.table ≡ marked old.table at s) × NotesPage old.places at s new.places

-- the table has the sectors that aren't free, sector 0 and bad ones among them, as busy; the sectors of DiskDescriptor's pages are known
pub record IsMap (p : Pack) (map : Map) : Type 0 where
  pub table_is : map.table ≡ free_table p
  pub places : ArePlaces p map.places

-- ---- its pages
-- the sectors of DiskDescriptor's data pages, in order
abbrev pub IsDescriptorIn : Pack → List ℕ → Type 0
IsDescriptorIn p pages = (length pages ≡ data_pages p.shape) × ((n : ℕ) → n < length pages → place (sights p) disk_descriptor (suc n) ≡ Some (get_or pages n 0))
