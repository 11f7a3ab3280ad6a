-- The hint words of a pack, and packs that differ in them alone.
-- What is a hint and what can be trusted is from the SOSP 1979 paper; which words and bytes these are is this project's choice.
use Rattle.std.specs.Prelude.{◌≡◌, ◌⊎◌, ℕ, ◌+◌, ◌*◌, ◌/◌, ◌%◌, ◌≤◌, ◌<◌, true, List, length, drop, get_or, Some, Contains}
use Rattle.disk_records.specs.alto_words.specs.declared.fid.Fid.{Fid}
use Rattle.disk_records.specs.alto_words.specs.Fid.{is_directory, disk_descriptor}
use Rattle.disk_records.specs.Packs.{Pack, sector_at}
use Rattle.pack_model.specs.reading.Bytes.{bytes_of}
use Rattle.pack_model.specs.reading.Sights.{sights}
use Rattle.pack_model.specs.reading.Sights.Sight.{hidden, free, holds}
use Rattle.pack_model.specs.reading.Files.{lives, place}
use Rattle.pack_model.specs.reading.Slots.Item.{entry}
use Rattle.pack_model.specs.reading.SlotWords.{SlotAt, address_word}
use Rattle.pack_model.specs.reading.Model.{descriptor_words}
use Rattle.pack_model.specs.hints.Links.{dir_slots}

-- Word w of a file stands in this sector as word k of its value: 256 to a page.
pub record IsWordOf (p : Pack) (f : Fid) (w at k : ℕ) : Type 0 where
  pub sector : place (sights p) f (w / 256 + 1) ≡ Some at
  pub within : k ≡ w % 256

-- It is the address word of an entry of a living directory.
pub record IsAddressWord (p : Pack) (d : Fid) (w : ℕ) : Type 0 where
  pub lives : lives (sights p) d ≡ true
  pub directory : is_directory d ≡ true
  pub slot : SlotAt
  pub fid : Fid
  pub name : List ℕ
  pub stands : Contains (dir_slots p d) slot
  pub item : slot.item ≡ entry fid name
  pub word : w ≡ address_word slot.place

-- It is DiskDescriptor's number of free sectors, or a word of its allocation map.
pub record IsMapWord (p : Pack) (w : ℕ) : Type 0 where
  pub within : w < length (descriptor_words (sights p))
  pub word : (w ≡ 7) ⊎ (16 ≤ w)

-- This byte of the sector's value is a hint: any of a free sector; words 246 to 255 of a leader that counts; those past the
-- count of a data page; the address word of an entry; DiskDescriptor's words 7 and from 16 on.
pub data IsHintByte (p : Pack) (at k : ℕ) : Type 0 where
  of_free : get_or (sights p) at hidden ≡ free → IsHintByte p at k
  of_leader : (f : Fid) → place (sights p) f 0 ≡ Some at → 2 * 246 ≤ k → IsHintByte p at k
  past_count : (f : Fid) (n : ℕ) (bytes : List ℕ) → get_or (sights p) at hidden ≡ holds f n bytes → length bytes ≤ k → IsHintByte p at k
  of_entry : (d : Fid) (w : ℕ) → IsAddressWord p d w → IsWordOf p d w at (k / 2) → IsHintByte p at k
  of_map : (w : ℕ) → IsMapWord p w → IsWordOf p disk_descriptor w at (k / 2) → IsHintByte p at k

-- byte k of a sector's value
abbrev pub byte_at : Pack → ℕ → ℕ → ℕ
byte_at p at k = get_or (bytes_of (sector_at p at).value) k 0

-- The packs have one shape, and differ in hints alone: in words 0 to 2 of labels, the links and the blank word, and in bytes of
-- values that are hints in the first.
pub record SameButHints (p q : Pack) : Type 0 where
  pub shape : q.shape ≡ p.shape
  pub sectors : length q.sectors ≡ length p.sectors
  pub headers : (at : ℕ) → (sector_at q at).header ≡ (sector_at p at).header
  pub labels : (at : ℕ) → drop 3 (sector_at q at).label ≡ drop 3 (sector_at p at).label
  pub sizes : (at : ℕ) → length (sector_at q at).value ≡ length (sector_at p at).value
  pub values : (at k : ℕ) → (byte_at q at k ≡ byte_at p at k) ⊎ IsHintByte p at k
