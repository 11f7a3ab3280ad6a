-- Record writes after which a pack is read as before, on any pack: what they leave out is a hint, or isn't read, or is told twice.
use Rattle.std.specs.Prelude.{◌/◌, ◌<◌, ◌∷◌, ◌≡◌, ◌≢◌, List, None, Some, [], drop, false, length, suc, take, true, ℕ}
use Rattle.pack_laws.specs.alto_words.specs.Fid.{disk_descriptor, is_fid}
use Rattle.pack_laws.specs.alto_words.specs.declared.fid.Fid.{Fid}
use Rattle.pack_laws.specs.disk_records.specs.Labels.{is_free, page_of, tag}
use Rattle.pack_laws.specs.disk_records.specs.Packs.{Pack, after, carried, is_free_at, sector_at}
use Rattle.pack_laws.specs.disk_records.specs.declared.records.Event.TheVariants.{Wrote}
use Rattle.pack_laws.specs.disk_records.specs.declared.records.Page.{Page}
use Rattle.pack_laws.specs.pack_model.specs.reading.Bytes.{bytes_of}
use Rattle.pack_laws.specs.pack_model.specs.reading.Files.{file_bytes, leader, place}
use Rattle.pack_laws.specs.pack_model.specs.reading.Leaders.{leader_of, leader_words}
use Rattle.pack_laws.specs.pack_model.specs.reading.Model.{read_as}
use Rattle.pack_laws.specs.pack_model.specs.reading.Sights.{Sight, sights}

-- ---- one record write
abbrev pub with_label : Pack → ℕ → List ℕ → Pack
with_label p at label = after p (Wrote at 1 label ∷ [])

abbrev pub with_value : Pack → ℕ → List ℕ → Pack
with_value p at value = after p (Wrote at 2 value ∷ [])

-- A kind of record write is told once, by its premises; what it keeps, from the pack before to the pack after, is named where it is
-- cited: that the pack is read the same, or more.
abbrev pub Relation : Type 1
Relation = Pack → Pack → Type 0

-- the second pack is read as the first
abbrev pub ReadsSame : Relation
ReadsSame p q = read_as q ≡ read_as p

-- ---- what isn't read
-- any value of a free sector
abbrev pub FreeValue : Relation → Type 0
FreeValue Kept = (p : Pack) (at : ℕ) (value : List ℕ) → is_free_at p at ≡ true → Kept p (with_value p at value)

-- the value that stands there
abbrev pub EqualValue : Relation → Type 0
EqualValue Kept = (p : Pack) (at : ℕ) → Kept p (with_value p at (sector_at p at).value)

-- a label with other links, and another blank word
abbrev pub OtherLinks : Relation → Type 0
OtherLinks Kept = (p : Pack) (at : ℕ) (label : List ℕ) → drop 3 label ≡ drop 3 (sector_at p at).label → Kept p (with_label p at label)

-- the bytes that a sector's label counts of a value
abbrev pub counted_of : Pack → ℕ → List ℕ → List ℕ
counted_of p at value = take (tag (sector_at p at).label).bytes (bytes_of value)

-- a data page's value with the same counted bytes
abbrev pub PastCount : Relation → Type 0
PastCount Kept = (p : Pack) (at : ℕ) (page : Page) (value : List ℕ) → carried p at ≡ Some page → 0 < page.number → counted_of p at value ≡ counted_of p at (sector_at p at).value → Kept p (with_value p at value)

-- a leader page's value with the same words before the hints
abbrev pub LeaderHints : Relation → Type 0
LeaderHints Kept = (p : Pack) (at : ℕ) (page : Page) (value : List ℕ) → carried p at ≡ Some page → page.number ≡ 0 → leader_words value ≡ leader_words (sector_at p at).value → Kept p (with_value p at value)

-- a leader page's value that says the same, as where a name that can't be read is written out as the one that stands for it
abbrev pub SameLeader : Relation → Type 0
SameLeader Kept = (p : Pack) (at : ℕ) (page : Page) (value : List ℕ) → carried p at ≡ Some page → page.number ≡ 0 → leader_of page.fid value ≡ leader_of page.fid (sector_at p at).value → Kept p (with_value p at value)

-- ---- pages that aren't read, by the number in their label
-- A data page of a file without a leader, DiskDescriptor's aside; a page after the one that the end of the file's bytes is in.
pub data IsUnread (ss : List Sight) (f : Fid) (n : ℕ) : Type 0 where
  leaderless : leader ss f ≡ None → is_fid f disk_descriptor ≡ false → 0 < n → IsUnread ss f n
  past_end : suc (length (file_bytes ss f) / 512) < n → IsUnread ss f n

-- such a page in the label of a free sector
abbrev pub UnreadClaim : Relation → Type 0
UnreadClaim Kept = (p : Pack) (at : ℕ) (page : Page) (label : List ℕ) → is_free_at p at ≡ true → page_of label ≡ Some page → IsUnread (sights p) page.fid page.number → Kept p (with_label p at label)

-- a free label in the place of such a page
abbrev pub UnreadRelease : Relation → Type 0
UnreadRelease Kept = (p : Pack) (at : ℕ) (page : Page) (label : List ℕ) → carried p at ≡ Some page → is_free (tag label) ≡ true → IsUnread (sights p) page.fid page.number → Kept p (with_label p at label)

-- a free label in the place of one that is neither free nor names a page
abbrev pub StrayRelease : Relation → Type 0
StrayRelease Kept = (p : Pack) (at : ℕ) (label : List ℕ) → carried p at ≡ None → is_free (tag label) ≡ true → Kept p (with_label p at label)

-- ---- pages that are told twice
-- a free label in the place of a page that a lower sector carries
abbrev pub CopyRelease : Relation → Type 0
CopyRelease Kept = (p : Pack) (at lower : ℕ) (page : Page) (label : List ℕ) → carried p at ≡ Some page → carried p lower ≡ Some page → lower < at → is_free (tag label) ≡ true → Kept p (with_label p at label)

-- This label and this value are a copy of the page in a sector: the same page, the same count, the same words.
pub record IsCopyOf (p : Pack) (source : ℕ) (page : Page) (label value : List ℕ) : Type 0 where
  pub page_is : page_of label ≡ Some page
  pub count : (tag label).bytes ≡ (tag (sector_at p source).label).bytes
  pub words : value ≡ (sector_at p source).value

-- a copy of the page that counts, in the label of a free sector that holds its value: it may come to be the one that counts
abbrev pub CopyClaim : Relation → Type 0
CopyClaim Kept = (p : Pack) (at source : ℕ) (page : Page) (label : List ℕ) → is_free_at p at ≡ true → place (sights p) page.fid page.number ≡ Some source → IsCopyOf p source page label (sector_at p at).value → Kept p (with_label p at label)

-- a free label in the place of the page that counts, where the next sector that carries it holds a copy
abbrev pub LowestRelease : Relation → Type 0
LowestRelease Kept = (p : Pack) (at next : ℕ) (page : Page) (label : List ℕ) → place (sights p) page.fid page.number ≡ Some at → carried p next ≡ Some page → at < next → ((k : ℕ) → at < k → k < next → carried p k ≢ Some page) → IsCopyOf p at page (sector_at p next).label (sector_at p next).value → is_free (tag label) ≡ true → Kept p (with_label p at label)

-- ---- a last page that is missing
-- a label of 0 bytes on a free sector for the page that the end of a file's bytes is in, where no sector carries it
abbrev pub LastClaim : Relation → Type 0
LastClaim Kept = (p : Pack) (at : ℕ) (page : Page) (label : List ℕ) → is_free_at p at ≡ true → page_of label ≡ Some page → (tag label).bytes ≡ 0 → page.number ≡ suc (length (file_bytes (sights p) page.fid) / 512) → place (sights p) page.fid page.number ≡ None → Kept p (with_label p at label)
