-- The files of the model by the values of their pages.
use Rattle.std.specs.FinMap.{get}
use Rattle.std.specs.Prelude.{Some, false, length, true, ℕ, ◌*◌, ◌≡◌}
use Rattle.laws_record.specs.alto_words.specs.Fid.{disk_descriptor, is_directory, is_fid}
use Rattle.laws_record.specs.alto_words.specs.declared.fid.Fid.{Fid}
use Rattle.laws_record.specs.disk_records.specs.Packs.{Pack, sector_at}
use Rattle.laws_record.specs.pack_model.specs.hints.Links.{dir_words}
use Rattle.laws_record.specs.pack_model.specs.operations.Committing.{length_of}
use Rattle.laws_record.specs.pack_model.specs.reading.Bodies.Body.{data_of, items_of}
use Rattle.laws_record.specs.pack_model.specs.reading.Files.{file_bytes, leader, lives, place}
use Rattle.laws_record.specs.pack_model.specs.reading.Leaders.{is_readable, leader_of, leader_words}
use Rattle.laws_record.specs.pack_model.specs.reading.Model.{dir_items, read_as}
use Rattle.laws_record.specs.pack_model.specs.reading.Sights.{sights}
use Rattle.laws_record.specs.pack_model.specs.reading.Slots.{all_words, slots}
use Rattle.laws_record.specs.pack_model.specs.states.Whole.{Tidy, Whole}

-- ---- leaders
-- A file lives, and its leader is what this value says.
pub record IsLedBy (p : Pack) (f : Fid) (at : ℕ) : Type 0 where
  pub living : lives (sights p) f ≡ true
  pub says : leader (sights p) f ≡ Some (leader_of f (sector_at p at).value)

-- on any pack a file's leader is what the value of its place says
abbrev pub LeaderIsItsValue : Type 0
LeaderIsItsValue = (p : Pack) (f : Fid) (at : ℕ) → place (sights p) f 0 ≡ Some at → IsLedBy p f at

-- on a whole pack its name can be read
abbrev pub WholeLeaderIsReadable : Type 0
WholeLeaderIsReadable = (p : Pack) (f : Fid) (at : ℕ) → Whole p → place (sights p) f 0 ≡ Some at → is_readable (leader_words (sector_at p at).value) ≡ true

-- ---- files
-- on any pack an ordinary file of the model is its leader's value and its bytes
abbrev pub OrdinaryFileIsItsPages : Type 0
OrdinaryFileIsItsPages = (p : Pack) (f : Fid) (at : ℕ) → is_directory f ≡ false → is_fid f disk_descriptor ≡ false → place (sights p) f 0 ≡ Some at
    → get (read_as p).files f ≡ Some (record { leader = leader_of f (sector_at p at).value; body = data_of (file_bytes (sights p) f) })

-- on any pack a directory of the model is its leader's value and the slots that are kept
abbrev pub DirectoryIsItsPages : Type 0
DirectoryIsItsPages = (p : Pack) (d : Fid) (at : ℕ) → is_directory d ≡ true → place (sights p) d 0 ≡ Some at
    → get (read_as p).files d ≡ Some (record { leader = leader_of d (sector_at p at).value; body = items_of (dir_items (read_as p) d) })

-- The words of a directory are slots to their end, and its bytes are these words.
pub record IsAllSlots (p : Pack) (d : Fid) : Type 0 where
  pub words : all_words (slots (dir_words p d)) ≡ length (dir_words p d)
  pub bytes : length (file_bytes (sights p) d) ≡ 2 * length (dir_words p d)

-- so it is on a whole pack
abbrev pub WholeDirectoryIsAllSlots : Type 0
WholeDirectoryIsAllSlots = (p : Pack) (d : Fid) → Whole p → is_directory d ≡ true → lives (sights p) d ≡ true → IsAllSlots p d

-- on a whole and tidy pack the length of a file in the model, of a directory that of its slots, is that of its bytes
abbrev pub ModelLengthsAreOfBytes : Type 0
ModelLengthsAreOfBytes = (p : Pack) (f : Fid) → Whole p → Tidy p → is_fid f disk_descriptor ≡ false → lives (sights p) f ≡ true → length_of (read_as p) f ≡ length (file_bytes (sights p) f)
