-- What calls that read a directory find, by the slots of its words.
use Rattle.std.specs.Prelude.{◌≡◌, ◌⊎◌, ℕ, zero, suc, ◌+◌, ◌≤◌, Bool, List, map, Some, None}
use Rattle.alto_words.specs.declared.fid.Fid.{Fid}
use Rattle.alto_words.specs.declared.wanted.Wanted.{Wanted}
use Rattle.alto_words.specs.declared.wanted.Wanted.TheVariants.{Newest}
use Rattle.disk_records.specs.declared.records.Place.TheVariants.{Entry}
use Rattle.disk_records.specs.Packs.{Pack, carried}
use Rattle.disk_records.specs.Tapes.{Taped}
use Rattle.dir_slots.specs.declared.slot.Slot.{Slot}
use Rattle.dir_slots.specs.Items.{address_of, addresses_in, items_of}
use Rattle.hint_cache.specs.Caches.{Cached}
use Rattle.pack_model.specs.hints.Links.{dir_slots, dir_words}
use Rattle.pack_model.specs.operations.Committing.{page_of_byte}
use Rattle.pack_model.specs.reading.Lookup.{EntryAt, entry_at, is_held_at, version_met}
use Rattle.pack_model.specs.reading.Slots.{slots}
use Rattle.pack_model.specs.reading.SlotWords.{address_word}
use Rattle.page_seeking.specs.declared.refs.FileRef.{FileRef}
use Rattle.page_seeking.specs.Parts.{IsListed}
use Rattle.page_seeking.specs.Seeking.{Refused, file_length, page_number}
use Rattle.directory.specs.declared.versions.VersionFound.{VersionFound}

-- ---- a name that was looked up
-- the file of an entry: its address, and the address word as where this was taken from
abbrev pub file_of : Fid → EntryAt → FileRef
file_of d e = record { fid = e.fid; leader_at = e.address; from = Entry d (address_word e.place) }

-- The entry that is meant, as its file and the name that it has.
pub record IsLookedUp (p : Pack) (d : Fid) (w : Wanted) (found : FileRef × List ℕ) : Type 0 where
  pub entry : EntryAt
  pub meant : entry_at w (dir_slots p d) ≡ Some entry
  pub file : found.0 ≡ file_of d entry
  pub name : found.1 ≡ entry.name

-- no entry is meant
abbrev pub IsAbsent : Pack → Fid → Wanted → Type 0
IsAbsent p d w = entry_at w (dir_slots p d) ≡ None

-- The greatest version of a base, 0 where no entry has it; and whether a directory or a system file has it as its name.
pub record IsGreatest (p : Pack) (d : Fid) (base : List ℕ) (found : VersionFound) : Type 0 where
  pub version : found.version ≡ version_met (entry_at (Newest base) (dir_slots p d))
  pub held : found.held ≡ is_held_at base (dir_slots p d)

-- ---- all slots
-- with the addresses that stand in them
pub record AreSlots (p : Pack) (d : Fid) (found : List Slot) : Type 0 where
  pub items : items_of found ≡ slots (dir_words p d)
  pub addresses : map address_of found ≡ addresses_in (dir_words p d)

-- ---- few sector commands
-- one a data page and one more, unless a note was refused
abbrev pub IsQuick : Pack → Fid → Cached → Cached → Taped → Taped → Type 0
IsQuick p d before now old new = (new.runs ≤ old.runs + (page_of_byte (file_length p d) + 1)) ⊎ Refused before now

-- with any hints: n and 54 for page n of a directory, from its leader, which is page 0, up to page k - 1
abbrev pub page_runs : ℕ → ℕ
page_runs zero = 0
page_runs (suc n) = page_runs n + (n + 54)

-- The pages of the directory up to this one are carried by sectors, and no more sector commands were taken than n and 54 for each of its
-- pages n, from its leader up to that page.
pub record IsReadByPages (p : Pack) (d : Fid) (old new : Taped) : Type 0 where
  pub last : ℕ
  pub carries : (n : ℕ) → 1 ≤ n → n ≤ last → (at : ℕ) × (carried p at ≡ Some (page_number d n))
  pub runs : new.runs ≤ old.runs + page_runs (last + 1)

-- ---- the cache
-- a directory's last page has this number: that of the page its end is in, or the greatest there is
abbrev pub IsLastNumber : Pack → Fid → ℕ → Type 0
IsLastNumber p d number = (number ≡ page_of_byte (file_length p d)) ⊎ ((number ≡ 65535) × (65535 ≤ page_of_byte (file_length p d)))

-- Its last page is listed, unless a note was refused.
pub record ListsLastPage (told : Bool) (p : Pack) (d : Fid) (old new : Cached) : Type 0 where
  pub number : ℕ
  pub is : IsLastNumber p d number
  pub listed : IsListed told p (page_number d number) new ⊎ Refused old new
