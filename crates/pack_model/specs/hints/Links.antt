-- True links of pages, and true addresses of entries.
-- Links of labels to the next and the previous page, as hints, are those of the SOSP 1979 paper; the link at an end is this
-- project's choice.
use Rattle.std.specs.Prelude.{◌≡◌, ℕ, suc, true, cond, nat_lt, List, length, get_or, Option, Some, None, All}
use Rattle.disk_records.specs.alto_words.specs.declared.fid.Fid.{Fid}
use Rattle.disk_records.specs.alto_words.specs.Fid.{is_directory}
use Rattle.disk_records.specs.declared.shape.Shape.{Shape}
use Rattle.disk_records.specs.Addresses.{real_of}
use Rattle.disk_records.specs.Words.{word}
use Rattle.disk_records.specs.Packs.{Pack, sector_at}
use Rattle.pack_model.specs.reading.Bytes.{words_of}
use Rattle.pack_model.specs.reading.Sights.{Sight, sights}
use Rattle.pack_model.specs.reading.Sights.Sight.{hidden, free, stray, leads, holds}
use Rattle.pack_model.specs.reading.Files.{lives, file_bytes, place}
use Rattle.pack_model.specs.reading.Slots.{Item, slots}
use Rattle.pack_model.specs.reading.Slots.Item.{space, entry}
use Rattle.pack_model.specs.reading.SlotWords.{SlotAt, slots_at}
use Rattle.pack_model.specs.reading.Model.{dir_items, read_as}
use Rattle.pack_model.specs.states.InUse.{in_use}

-- ---- links of pages: real addresses
-- the link at either end of a file
abbrev pub no_link : ℕ
no_link = 65535

-- the link to the sector at a virtual address; no link where there is none
abbrev pub link_to : Shape → Option ℕ → ℕ
link_to shape None = no_link
link_to shape (Some at) = real_of shape at

-- the next link that a sector has to have: it names the page after its own; the last page has fewer than 512 bytes
abbrev pub next_link : Shape → List Sight → Sight → ℕ
next_link shape ss hidden = no_link
next_link shape ss free = no_link
next_link shape ss stray = no_link
next_link shape ss (leads f readable l) = link_to shape (place ss f 1)
next_link shape ss (holds f n bytes) = cond (nat_lt (length bytes) 512) no_link (link_to shape (place ss f (suc (suc n))))

-- the previous link: it names the page before
abbrev pub previous_link : Shape → List Sight → Sight → ℕ
previous_link shape ss hidden = no_link
previous_link shape ss free = no_link
previous_link shape ss stray = no_link
previous_link shape ss (leads f readable l) = no_link
previous_link shape ss (holds f n bytes) = link_to shape (place ss f n)

-- Words 0 and 1 of the sector's label are these links.
pub record HasLinks (p : Pack) (i : ℕ) : Type 0 where
  pub next : word (sector_at p i).label 0 ≡ next_link p.shape (sights p) (get_or (sights p) i hidden)
  pub previous : word (sector_at p i).label 1 ≡ previous_link p.shape (sights p) (get_or (sights p) i hidden)

-- each link of a page in use is true
abbrev pub PageLinks : Pack → Type 0
PageLinks p = (i : ℕ) → in_use p.shape (sights p) (i, get_or (sights p) i hidden) ≡ true → HasLinks p i

-- ---- addresses of entries: virtual addresses
-- the words of a directory
abbrev pub dir_words : Pack → Fid → List ℕ
dir_words p d = words_of (file_bytes (sights p) d)

-- its slots as they stand, and those with each slot free whose entry isn't kept
abbrev pub dir_slots : Pack → Fid → List SlotAt
dir_slots p d = slots_at (dir_words p d) 0 (slots (dir_words p d))

abbrev pub kept_slots : Pack → Fid → List SlotAt
kept_slots p d = slots_at (dir_words p d) 0 (dir_items (read_as p) d)

-- an entry's address names the sector that bears its file's leader
abbrev pub IsTrueAddress : List Sight → Item → ℕ → Type 0
IsTrueAddress ss (space n) address = Unit {0}
IsTrueAddress ss (entry f name) address = place ss f 0 ≡ Some address

-- each address of a kept entry is true
abbrev pub EntryAddresses : Pack → Type 0
EntryAddresses p = (d : Fid) → lives (sights p) d ≡ true → is_directory d ≡ true → All (λ s. IsTrueAddress (sights p) s.item s.address) (kept_slots p d)

-- All links of pages in use, and all addresses of kept entries, are true.
pub record LinksTrue (p : Pack) : Type 0 where
  pub pages : PageLinks p
  pub entries : EntryAddresses p
