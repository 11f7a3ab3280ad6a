-- DiskDescriptor as a sweep finds it: the sectors of its pages, and what its first page says.
use Rattle.std.specs.Prelude.{◌≡◌, ◌==◌, ◌&&◌, ℕ, ◌<◌, Bool, false, cond, List, length, get_or, take, Option, Some, None}
use Rattle.std.specs.Option.{option_map_or}
use Rattle.alto_words.specs.Fid.{disk_descriptor}
use Rattle.disk_records.specs.Packs.{Pack, carried, sector_at}
use Rattle.disk_records.specs.Words.{word}
use Rattle.pack_model.specs.reading.Files.{carries_page, file_bytes, place}
use Rattle.pack_model.specs.reading.Model.{descriptor_words}
use Rattle.pack_model.specs.reading.Sights.{Sight, sights}
use Rattle.pack_model.specs.scavenger.Reports.{old_serial}
use Rattle.scav_pages.specs.Ends.{ArePlaces}
use Rattle.scavenger.specs.declared.descriptor.Finder.{Finder}
use Rattle.scavenger.specs.declared.system.System.{System}

-- ---- one sector of a sweep
-- a sight shows the page of DiskDescriptor with this number, if there is one
abbrev pub is_number : Option ℕ → ℕ → Bool
is_number None n = false
is_number (Some k) n = n == k

abbrev pub ShowsPage : Option ℕ → Sight → Type 0
ShowsPage number s = (n : ℕ) → carries_page disk_descriptor n s ≡ is_number number n

-- the sector of page n, once the one at this address is noted: the first that shows it counts
abbrev pub noted : List ℕ → ℕ → Sight → ℕ → ℕ
noted places at s n = cond (get_or places n 0 == 0 && carries_page disk_descriptor n s) at (get_or places n 0)

pub record NotesPage (old : List ℕ) (at : ℕ) (s : Sight) (new : List ℕ) : Type 0 where
  pub size : length new ≡ length old
  pub each : (n : ℕ) → n < 6 → get_or new n 0 ≡ noted old at s n

-- one sector more of a sweep that finds them
abbrev pub Finds : Finder → ℕ → Sight → Finder → Type 0
Finds old at s new = NotesPage old.places at s new.places

-- ---- what its first page says
-- the lowest sector that carries its first data page, whose word 6 is the mark; 0 where none does
abbrev pub mark_sector : Pack → ℕ
mark_sector p = option_map_or (λ at. at) (place (sights p) disk_descriptor 1) 0

-- the first words of its first data page, where a sector carries that
abbrev pub AreFirstWords : Pack → List ℕ → Type 0
AreFirstWords p words = (at : ℕ) → place (sights p) disk_descriptor 1 ≡ Some at → words ≡ take 9 (sector_at p at).value

-- these words say so many drives, cylinders and words of the map
abbrev pub heads : List ℕ → ℕ → ℕ → ℕ → Bool
heads words drives cylinders map = word words 0 == drives && word words 1 == cylinders && word words 2 == 2 && word words 3 == 12 && word words 8 == map

-- the last serial that DiskDescriptor says, where it has the length and the words of the shape, or of one drive with as many cylinders
abbrev pub old_serial_of : Pack → ℕ
old_serial_of p = old_serial p.shape (file_bytes (sights p) disk_descriptor) (descriptor_words (sights p))

-- What is known before the files of a pack are counted: the page in sector 1, the sectors of DiskDescriptor's pages, and its first words.
pub record IsSystem (p : Pack) (system : System) : Type 0 where
  pub first : system.first ≡ carried p 1
  pub places : ArePlaces p system.places
  pub words : AreFirstWords p system.words
