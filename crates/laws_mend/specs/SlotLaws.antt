-- The slots of directories while names are mended, on any pack: no premise asks that it is whole.
use Rattle.std.specs.Prelude.{◌≡◌, ◌++◌, ◌+◌, ◌<◌, ◌≤◌, ◌∷◌, [], ℕ, false, List, length}
use Rattle.laws_room.specs.alto_words.specs.declared.fid.Fid.{Fid}
use Rattle.laws_room.specs.alto_words.specs.Fid.{is_fid}
use Rattle.laws_room.specs.disk_records.specs.Packs.{Pack}
use Rattle.laws_room.specs.pack_model.specs.hints.Links.{dir_words}
use Rattle.laws_room.specs.pack_model.specs.operations.Rooms.{left_over}
use Rattle.laws_room.specs.pack_model.specs.reading.Files.{file_bytes, lives, place}
use Rattle.laws_room.specs.pack_model.specs.reading.Sights.{sights}
use Rattle.laws_room.specs.pack_model.specs.reading.Slots.{Item, SlotsReachEnd, all_words, entry_length, slots}
use Rattle.laws_room.specs.pack_model.specs.reading.Slots.Item.{entry, space}
use Rattle.laws_room.specs.pack_model.specs.scavenger.Reports.{PagesMended}
use Rattle.laws_room.specs.laws_record.specs.DirLaws.{DirWrite, Enters, IsLooseWord, dir_written, entered}
use Rattle.laws_lookup.specs.OwnLaws.{ReplacesSlots}

-- an entry comes in the place of a free slot
abbrev pub EntersReplacesSlots : Type 0
EntersReplacesSlots = (p : Pack) (d : Fid) (at : ℕ) (new : List ℕ) (a b : List Item) (f : Fid) (name : List ℕ) (left : ℕ) → Enters p d at new a b f name left
    → ReplacesSlots p (entered p at a new) d a (space (entry_length (length name) + left) ∷ []) (entry f name ∷ left_over left []) b

-- a directory that ended with its slots has a free slot of 256 words more, in new words after its own
abbrev pub MoreWordsReplaceSlots : Type 0
MoreWordsReplaceSlots = (p q : Pack) (d : Fid) (fresh : List ℕ) → lives (sights q) d ≡ lives (sights p) d → SlotsReachEnd (file_bytes (sights p) d) → dir_words q d ≡ dir_words p d ++ fresh → slots fresh ≡ space 256 ∷ []
    → ReplacesSlots p q d (slots (dir_words p d)) [] (space 256 ∷ []) []

-- words inside free slots and addresses of entries leave the slots of each directory
abbrev pub LooseWordsKeepSlots : Type 0
LooseWordsKeepSlots = (p : Pack) (d : Fid) (w at : ℕ) (new : List ℕ) → DirWrite p d w at new → ((k : ℕ) → w ≤ k → k < w + length new → IsLooseWord p d k) → (e : Fid) → slots (dir_words (dir_written p w at new) e) ≡ slots (dir_words p e)

-- Words of a directory are written: pages are mended as before, each has its place, and the bytes of every other file are as they were.
pub record DirectoryIsWritten (p q : Pack) (d : Fid) : Type 0 where
  pub mended : PagesMended q
  pub lives_are : (f : Fid) → lives (sights q) f ≡ lives (sights p) f
  pub places_are : (f : Fid) (n : ℕ) → place (sights q) f n ≡ place (sights p) f n
  pub others : (f : Fid) → is_fid f d ≡ false → file_bytes (sights q) f ≡ file_bytes (sights p) f

-- so it is with any words after which the directory ends with its slots
abbrev pub DirWriteKeepsPages : Type 0
DirWriteKeepsPages = (p : Pack) (d : Fid) (w at : ℕ) (new : List ℕ) → DirWrite p d w at new → PagesMended p → SlotsReachEnd (file_bytes (sights (dir_written p w at new)) d) → DirectoryIsWritten p (dir_written p w at new) d

-- and it does with words after which its slots have as many words
abbrev pub DirWriteReachesItsEnd : Type 0
DirWriteReachesItsEnd = (p : Pack) (d : Fid) (w at : ℕ) (new : List ℕ) → DirWrite p d w at new → PagesMended p → all_words (slots (dir_words (dir_written p w at new) d)) ≡ all_words (slots (dir_words p d)) → SlotsReachEnd (file_bytes (sights (dir_written p w at new)) d)
