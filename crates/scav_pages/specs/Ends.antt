-- What is known when last pages and the pages of DiskDescriptor are claimed.
use Rattle.std.specs.Prelude.{◌≡◌, ◌==◌, ◌&&◌, ℕ, suc, ◌*◌, ◌/◌, ◌<◌, true, false, cond, List, length, get_or, Some, None, All}
use Rattle.std.specs.Option.{option_map_or}
use Rattle.alto_words.specs.declared.fid.Fid.{Fid}
use Rattle.alto_words.specs.Fid.{is_fid, is_full_name, disk_descriptor}
use Rattle.disk_records.specs.declared.records.Page.{Page}
use Rattle.disk_records.specs.Packs.{Pack, is_free_at}
use Rattle.laws_mend.specs.PartLaws.{IsDescribed}
use Rattle.laws_mend.specs.Parts.{Rooted, RootedBut}
use Rattle.pack_model.specs.reading.Files.{lives, file_bytes, place}
use Rattle.pack_model.specs.reading.Sights.{sights}
use Rattle.pack_model.specs.scavenger.Scavenging.{Scavengeable}
use Rattle.pack_model.specs.states.Sentences.{HasLastPage}
use Rattle.scav_table.specs.declared.row.Row.{Row}
use Rattle.scav_pages.specs.declared.files.FileWalk.{FileWalk}
use Rattle.scav_pages.specs.Free.{NoneFreeBelow}
use Rattle.scav_pages.specs.Walks.{file_in_hand}

-- each of these sectors is below the end
abbrev pub AreWithin : ℕ → List ℕ → Type 0
AreWithin end places = All (λ at. at < end) places

-- A page that a mending claims: with 0 bytes the one that the end of a file's bytes is in, or any data page of DiskDescriptor.
pub data IsWanted (p : Pack) (page : Page) (bytes : ℕ) : Type 0 where
  ends : bytes ≡ 0 → is_fid page.fid disk_descriptor ≡ false → page.number ≡ suc (length (file_bytes (sights p) page.fid) / 512) → IsWanted p page bytes
  describes : (n : ℕ) → page ≡ record { fid = disk_descriptor; number = suc n } → IsWanted p page bytes

-- No sector carries it, and there is one for it, which isn't sector 1. A label can name it.
pub record MayClaim (p : Pack) (page : Page) (bytes from : ℕ) : Type 0 where
  pub some : (at : ℕ) × (is_free_at p at ≡ true)
  pub none_below : NoneFreeBelow p from
  pub root : is_free_at p 1 ≡ false
  pub named : is_full_name page.fid ≡ true
  pub number : page.number < 65536
  pub lacks : place (sights p) page.fid page.number ≡ None
  pub wanted : IsWanted p page bytes

-- What is known of the file in hand once no more rows of it come: it lives; if its bytes go on its last page is missing, else it is there.
pub record HasEnd (p : Pack) (f : Fid) (walk : FileWalk) : Type 0 where
  pub living : lives (sights p) f ≡ true
  pub missing : walk.goes_on ≡ true → (length (file_bytes (sights p) f) ≡ 512 * walk.pages) × (place (sights p) f (suc walk.pages) ≡ None)
  pub there : walk.goes_on ≡ false → HasLastPage (sights p) f

-- and no sector below this one is free
pub record MayClaimLast (p : Pack) (walk : FileWalk) (from : ℕ) : Type 0 where
  pub scavengeable : Scavengeable p
  pub rooted : Rooted p
  pub none_below : NoneFreeBelow p from
  pub hand : (f : Fid) → file_in_hand walk ≡ Some f → is_fid f disk_descriptor ≡ false → HasEnd p f walk

-- these are the sectors of DiskDescriptor's first six pages, 0 where none carries one
abbrev pub ArePlaces : Pack → List ℕ → Type 0
ArePlaces p places = (n : ℕ) → n < 6 → get_or places n 0 ≡ option_map_or (λ at. at) (place (sights p) disk_descriptor n) 0

-- the sector of the page with this number, once this row is noted, if it is one of DiskDescriptor's
abbrev pub noted_at : List ℕ → Row → ℕ → ℕ
noted_at places row n = cond (is_fid row.page.fid disk_descriptor && (row.page.number == n)) row.at (get_or places n 0)

-- The last page of each other file is there, and the data pages of DiskDescriptor below this one are as they have to be.
pub record MayDescribePage (p : Pack) (number : ℕ) (places : List ℕ) (from : ℕ) : Type 0 where
  pub scavengeable : Scavengeable p
  pub rooted : RootedBut p
  pub places_are : ArePlaces p places
  pub described : (n : ℕ) → suc n < number → IsDescribed p n
  pub last_pages : (f : Fid) → lives (sights p) f ≡ true → is_fid f disk_descriptor ≡ false → HasLastPage (sights p) f
  pub none_below : NoneFreeBelow p from

abbrev pub MayDescribe : Pack → List ℕ → ℕ → Type 0
MayDescribe p places from = MayDescribePage p 1 places from
