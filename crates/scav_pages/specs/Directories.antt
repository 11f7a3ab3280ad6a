-- The slots of the directory in hand, as far as its pages were read.
use Rattle.std.specs.Prelude.{◌≡◌, ◌≢◌, ℕ, suc, ◌*◌, ◌/◌, ◌<◌, ◌++◌, true, false, List, [], length, take, Option, Some, None}
use Rattle.alto_words.specs.declared.fid.Fid.{Fid}
use Rattle.alto_words.specs.Fid.{is_directory}
use Rattle.dir_slots.specs.Walks as slot_walk
use Rattle.disk_records.specs.Packs.{Pack}
use Rattle.pack_model.specs.hints.Links.{dir_words}
use Rattle.pack_model.specs.reading.Files.{lives, file_bytes, place}
use Rattle.pack_model.specs.reading.Sights.{sights}
use Rattle.pack_model.specs.reading.Slots.{all_words, slots}
use Rattle.scav_table.specs.declared.row.Row.{Row}
use Rattle.scav_pages.specs.declared.directory.Directory.{Directory}
use Rattle.scav_pages.specs.Walks.{IsFresh, Walked, file_in_hand}

-- Its words in the pages that were met are those that were given to the slot walk, and others only after a slot that can't be read. The
-- page that the next slot begins in, if it was met, is in the sector that is kept.
pub record HasRead (p : Pack) (d : Fid) (dir : Directory) : Type 0 where
  pub given : List ℕ
  pub rest : List ℕ
  pub walked : slot_walk.Walked given dir.slots
  pub words : take (dir.walk.length / 2) (dir_words p d) ≡ given ++ rest
  pub all : dir.slots.ended ≡ false → rest ≡ []
  pub sector : dir.slots.place / 256 < dir.walk.pages → place (sights p) d (suc (dir.slots.place / 256)) ≡ Some dir.at

-- the rows up to `last` were met, and if the file in hand is a living directory its slots were read so far
pub record IsReadTo (p : Pack) (last : Option Row) (dir : Directory) : Type 0 where
  pub walked : Walked p last dir.walk
  pub fresh : file_in_hand dir.walk ≡ None → IsFresh dir.walk × slot_walk.Walked [] dir.slots
  pub read : (d : Fid) → file_in_hand dir.walk ≡ Some d → lives (sights p) d ≡ true → is_directory d ≡ true → HasRead p d dir

-- What is known of a directory once no more rows of it come: its length, where its slots end, and the sector of the page that this end is in,
-- unless it is the end of the bytes.
pub record IsRead (p : Pack) (d : Fid) (dir : Directory) : Type 0 where
  pub size : dir.walk.length ≡ length (file_bytes (sights p) d)
  pub end : dir.slots.place ≡ all_words (slots (dir_words p d))
  pub sector : 2 * dir.slots.place ≢ dir.walk.length → place (sights p) d (suc (dir.slots.place / 256)) ≡ Some dir.at

abbrev pub MayBeCut : Pack → Directory → Type 0
MayBeCut p dir = (d : Fid) → file_in_hand dir.walk ≡ Some d → (dir.walk.lives ≡ lives (sights p) d) × (lives (sights p) d ≡ true → is_directory d ≡ true → IsRead p d dir)
