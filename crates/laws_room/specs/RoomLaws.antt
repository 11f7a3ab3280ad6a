-- Which packs the Scavenger takes, by the model that they are read as; and the free sectors of whole packs.
use Rattle.std.specs.FinMap.{entries}
use Rattle.std.specs.Prelude.{Bool, List, None, get_or, length, not, true, ℕ, ◌&&◌, ◌+◌, ◌↔◌, ◌≡◌}
use Rattle.laws_operation.specs.alto_words.specs.Fid.{disk_descriptor, sys_dir}
use Rattle.laws_operation.specs.disk_records.specs.Packs.{Pack}
use Rattle.laws_operation.specs.pack_model.specs.reading.Files.{lives, numbered}
use Rattle.page_alloc.specs.Free.{free_addresses as sectors_found}
use Rattle.laws_operation.specs.pack_model.specs.states.InUse.{available, free_sector_count, how_many, in_use, is_available, is_free_sight, is_good}
use Rattle.laws_operation.specs.pack_model.specs.reading.Leaders.{Leader}
use Rattle.laws_operation.specs.pack_model.specs.scavenger.Mended.{HasRoom}
use Rattle.laws_operation.specs.pack_model.specs.reading.Model.{descriptor_pages, files_pages, read_as, room}
use Rattle.laws_operation.specs.pack_model.specs.scavenger.Needed.{needed}
use Rattle.laws_operation.specs.pack_model.specs.scavenger.Scavenging.{Scavengeable, first_refusal}
use Rattle.laws_operation.specs.pack_model.specs.reading.Sights.{Sight, sights}
use Rattle.laws_operation.specs.pack_model.specs.reading.Sights.Sight.{hidden, leads}
use Rattle.laws_operation.specs.pack_model.specs.states.Sound.{Sound}
use Rattle.laws_operation.specs.pack_model.specs.states.Whole.{Whole}

-- Sector 1 shows SysDir's leader, and DiskDescriptor lives.
pub record SystemStands (ss : List Sight) : Type 0 where
  pub root : (readable : Bool) × (l : Leader) × (get_or ss 1 hidden ≡ leads sys_dir readable l)
  pub descriptor : lives ss disk_descriptor ≡ true

-- such a pack is scavengeable if and only if the files that it is read as have room
abbrev pub ScavengeableByModel : Type 0
ScavengeableByModel = (p : Pack) → SystemStands (sights p) → Scavengeable p ↔ HasRoom (read_as p)

-- On a whole pack the available sectors are the free ones, those in use are the pages of all files, and the free ones are as many as
-- the model has room.
pub record FreeIsRoom (p : Pack) : Type 0 where
  pub available_is : available p.shape (sights p) ≡ free_sector_count (sights p)
  pub in_use : how_many (in_use p.shape (sights p)) (numbered 0 (sights p)) ≡ files_pages (entries (read_as p).files) + descriptor_pages p.shape
  pub pages : files_pages (entries (read_as p).files) + descriptor_pages p.shape + free_sector_count (sights p) ≡ (read_as p).good
  pub room_is : room (read_as p) ≡ free_sector_count (sights p)

abbrev pub FreeIsTheRoom : Type 0
FreeIsTheRoom = (p : Pack) → Whole p → FreeIsRoom p

-- each of its sectors is in use if and only if it is good and not free, and available if and only if it is free
pub record SectorIsUsed (p : Pack) (at : ℕ) : Type 0 where
  pub in_use_is : in_use p.shape (sights p) (at, get_or (sights p) at hidden) ≡ (is_good (get_or (sights p) at hidden) && not (is_free_sight (get_or (sights p) at hidden)))
  pub available_is : is_available p.shape (sights p) (at, get_or (sights p) at hidden) ≡ is_free_sight (get_or (sights p) at hidden)

abbrev pub EachSectorIsUsedOrFree : Type 0
EachSectorIsUsedOrFree = (p : Pack) (at : ℕ) → Whole p → SectorIsUsed p at

-- on any pack the sectors that are found free by their labels, one by one, are as many as those that show it
abbrev pub FreeSectorsAreThoseFound : Type 0
FreeSectorsAreThoseFound = (p : Pack) → length (sectors_found p) ≡ free_sector_count (sights p)

-- a sound pack needs nothing, and so it is scavengeable
abbrev pub SoundNeedsNothing : Type 0
SoundNeedsNothing = (p : Pack) → Sound p → (needed p.shape (sights p) ≡ 0) × Scavengeable p

-- any pack is scavengeable if and only if none of the refusals of a scavenge holds
abbrev pub ScavengeableIsUnrefused : Type 0
ScavengeableIsUnrefused = (p : Pack) → Scavengeable p ↔ (first_refusal p ≡ None)
