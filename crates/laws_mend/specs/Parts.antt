-- The parts of a mended pack, each with those before it.
use Rattle.std.specs.Prelude.{◌≡◌, ◌⊎◌, ℕ, suc, ◌+◌, ◌<◌, Bool, true, length, get_or, Some}
use Rattle.laws_room.specs.alto_words.specs.declared.fid.Fid.{Fid}
use Rattle.laws_room.specs.alto_words.specs.Fid.{is_directory, sys_dir, disk_descriptor}
use Rattle.laws_room.specs.disk_records.specs.Addresses.{descriptor_length}
use Rattle.laws_room.specs.disk_records.specs.Packs.{Pack, carried}
use Rattle.laws_room.specs.pack_model.specs.reading.Files.{lives, file_bytes, place}
use Rattle.laws_room.specs.pack_model.specs.reading.Leaders.{Leader}
use Rattle.laws_room.specs.pack_model.specs.reading.Sights.{sights}
use Rattle.laws_room.specs.pack_model.specs.reading.Sights.Sight.{hidden, stray, leads}
use Rattle.laws_room.specs.pack_model.specs.reading.Slots.{SlotsReachEnd}
use Rattle.laws_room.specs.pack_model.specs.sessions.Descriptor.{data_pages}
use Rattle.laws_room.specs.pack_model.specs.states.InUse.{available, free_sector_count}
use Rattle.laws_room.specs.pack_model.specs.states.Sentences.{EachOnce, HasLastPage, IsUsed}

-- no page is carried twice, and each label is free or in range
pub record Cleared (p : Pack) : Type 0 where
  pub once : EachOnce (sights p)
  pub no_stray : (i : ℕ) → get_or (sights p) i hidden ≡ stray → ⊥

-- and each directory ends with its slots
pub record Ended (p : Pack) : Type 0 where
  pub cleared : Cleared p
  pub directories : (d : Fid) → lives (sights p) d ≡ true → is_directory d ≡ true → SlotsReachEnd (file_bytes (sights p) d)

-- and each good sector is free or in use
pub record Used (p : Pack) : Type 0 where
  pub ended : Ended p
  pub used : (i : ℕ) → IsUsed p.shape (sights p) i

-- and sector 1 is SysDir's leader page
pub record Rooted (p : Pack) : Type 0 where
  pub used : Used p
  pub root : (l : Leader) × (readable : Bool) × (get_or (sights p) 1 hidden ≡ leads sys_dir readable l)

-- so it is while DiskDescriptor is made: its data pages may stand without a leader page
pub record RootedBut (p : Pack) : Type 0 where
  pub ended : Ended p
  pub used : (i : ℕ) → IsUsed p.shape (sights p) i ⊎ ((n : ℕ) × (n < data_pages p.shape) × (carried p i ≡ Some (record { fid = disk_descriptor; number = suc n })))
  pub root : (l : Leader) × (readable : Bool) × (get_or (sights p) 1 hidden ≡ leads sys_dir readable l)

-- and each living file's last page is carried, and DiskDescriptor lives with the length of its format
pub record Lasting (p : Pack) : Type 0 where
  pub rooted : Rooted p
  pub last_pages : (f : Fid) → lives (sights p) f ≡ true → HasLastPage (sights p) f
  pub descriptor_lives : lives (sights p) disk_descriptor ≡ true
  pub descriptor_size : length (file_bytes (sights p) disk_descriptor) ≡ descriptor_length p.shape

-- ---- between two packs
-- so many sectors more are free, and as many are available
pub record FreesMore (p q : Pack) (n : ℕ) : Type 0 where
  pub free : free_sector_count (sights q) ≡ free_sector_count (sights p) + n
  pub available_is : available q.shape (sights q) ≡ available p.shape (sights p)

-- the same files live, with the same bytes, and each page has its place
pub record SameFiles (p q : Pack) : Type 0 where
  pub lives_are : (f : Fid) → lives (sights q) f ≡ lives (sights p) f
  pub bytes_are : (f : Fid) → file_bytes (sights q) f ≡ file_bytes (sights p) f
  pub places_are : (f : Fid) (n : ℕ) → place (sights q) f n ≡ place (sights p) f n
