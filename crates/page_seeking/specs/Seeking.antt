-- What a caller sees of pages that are sought: the page in the buffer, the end of a file, the cache, and few sector commands.
use Rattle.std.specs.Prelude.{◌≡◌, ◌≢◌, ◌⊎◌, ℕ, ◌+◌, ◌-◌, ◌*◌, ◌%◌, ◌<◌, ◌≤◌, List, length, map, Some}
use Rattle.alto_words.specs.declared.fid.Fid.{Fid}
use Rattle.disk_records.specs.declared.records.Page.{Page}
use Rattle.disk_records.specs.declared.records.Sector.{Sector}
use Rattle.disk_records.specs.declared.shape.Shape.{Shape}
use Rattle.disk_records.specs.Addresses.{pages_of, real_of}
use Rattle.disk_records.specs.Packs.{Pack, sector_at, carried}
use Rattle.disk_records.specs.Words.{word}
use Rattle.disk_records.specs.Tapes.{Rose}
use Rattle.label_check.specs.declared.errors.PageInfo.{PageInfo}
use Rattle.label_check.specs.Guarded.{HoldsPage, info_of}
use Rattle.hint_cache.specs.declared.cache.Entry.{Entry}
use Rattle.hint_cache.specs.Caches.{Cached, IsHighestBelow, address_in}
use Rattle.pack_model.specs.operations.Committing.{page_of_byte}
use Rattle.pack_model.specs.reading.Files.{file_bytes, place}
use Rattle.pack_model.specs.hints.Handy.{Handy, HandyCache, last_at_word, last_number_word, leader_word, row_word}
use Rattle.pack_model.specs.hints.Links.{LinksTrue}
use Rattle.pack_model.specs.reading.Sights.{sights}
pub use Rattle.pack_model.specs.operations.PageWords.{page_number}
use Rattle.pack_model.specs.states.Whole.{Whole}
use Rattle.page_seeking.specs.declared.ends.LastPage.{LastPage}

-- ---- a page that was found
-- On any disk: the sector is a usable one, and the buffer holds the page, of which the label's words were answered.
pub record Seen (form : Shape) (page : Page) (at : ℕ) (info : PageInfo) (buffer : Sector) : Type 0 where
  pub first : 1 ≤ at
  pub last : at < pages_of form
  pub holds : HoldsPage form at page buffer
  pub tells : info ≡ info_of buffer.label
  pub sized : length buffer.value ≡ 256

-- Where the machine is modelled: the sector carries the page, and the buffer has the whole sector.
pub record Stands (p : Pack) (page : Page) (at : ℕ) (buffer : Sector) : Type 0 where
  pub carries : carried p at ≡ Some page
  pub holds : buffer ≡ sector_at p at

-- ---- the end of a file
-- its length in bytes
abbrev pub file_length : Pack → Fid → ℕ
file_length p f = length (file_bytes (sights p) f)

-- the page is a leader, or it is full: another one comes after it
abbrev pub IsFull : Page → ℕ → Type 0
IsFull page bytes = (page.number ≡ 0) ⊎ (bytes ≡ 512)

-- the length of a file whose last page has this number and counts so many bytes
abbrev pub length_at : ℕ → ℕ → ℕ
length_at number bytes = (number - 1) * 512 + bytes

-- Some sector carries a data page of the file, below this number, that isn't full: the length is the one that it tells.
pub record IsEnd (p : Pack) (f : Fid) (number n : ℕ) : Type 0 where
  pub last : ℕ
  pub at : ℕ
  pub first : 1 ≤ last
  pub below : last < number
  pub carries : carried p at ≡ Some (page_number f last)
  pub short : word (sector_at p at).label 3 < 512
  pub sized : length (sector_at p at).value ≡ 256
  pub tells : n ≡ length_at last (word (sector_at p at).label 3)

-- The length is the file's, and its last page is below this number.
pub record IsLengthBelow (p : Pack) (f : Fid) (number n : ℕ) : Type 0 where
  pub is : n ≡ file_length p f
  pub below : page_of_byte n < number

-- A data page with this number that counts so many bytes ends a file: it isn't full, or its number is the greatest.
pub record EndsAtPage (number bytes : ℕ) : Type 0 where
  pub first : 1 ≤ number
  pub ends : (bytes ≢ 512) ⊎ (number ≡ 65535)

-- The last page of a file: by its length, and where it is.
pub record IsLast (p : Pack) (f : Fid) (last : LastPage) : Type 0 where
  pub number : last.number ≡ page_of_byte (file_length p f)
  pub bytes : last.info.bytes ≡ file_length p f % 512
  pub placed : place (sights p) f last.number ≡ Some last.at

-- ---- the cache
-- a call of `note` was refused
abbrev pub Refused : Cached → Cached → Type 0
Refused old new = Rose old.refused new.refused

-- the page after another one
abbrev pub page_after : Page → Page
page_after page = record { fid = page.fid; number = page.number + 1 }

-- The page is a leader, or it is full; and its number isn't the greatest.
pub record GoesOn (page : Page) (bytes : ℕ) : Type 0 where
  pub full : IsFull page bytes
  pub more : page.number < 65535

-- The link names this usable sector.
pub record Links (form : Shape) (next i : ℕ) : Type 0 where
  pub first : 0 < i
  pub last : i < pages_of form
  pub named : real_of form i ≡ next

-- A page that was seen is listed at its address, and the page after it, if it goes on, at the sector that its link names, unless a `note`
-- was refused.
pub record Lists (form : Shape) (page : Page) (at : ℕ) (info : PageInfo) (old new : Cached) : Type 0 where
  pub here : (address_in new.entries page ≡ Some at) ⊎ Refused old new
  pub next : (i : ℕ) → GoesOn page info.bytes → Links form info.next i → (address_in new.entries (page_after page) ≡ Some i) ⊎ Refused old new

-- the listed pages with their addresses, as pack_model has them
abbrev pub as_listed : Entry → Page × ℕ
as_listed e = (e.page, e.at)

abbrev pub all_listed : Cached → List (Page × ℕ)
all_listed cache = map as_listed cache.entries

-- with true links on a whole pack, a cache that is handy for a file stays so
abbrev pub KeepsHandy : Pack → Cached → Cached → Type 0
KeepsHandy p old new = Whole p → LinksTrue p → (f : Fid) → HandyCache (sights p) f (all_listed old) → HandyCache (sights p) f (all_listed new)

-- ---- few sector commands
-- What bounds on sector commands ask for: true links on a whole pack, and handy hints for this file.
pub record Quick (p : Pack) (f : Fid) (cache : Cached) : Type 0 where
  pub whole : Whole p
  pub links : LinksTrue p
  pub handy : Handy p f (all_listed cache)

-- What bounds on reaching a file's leader and its end ask for: true links on a whole pack, and addresses in the cache that are handy for
-- this file, whatever its leader says of pages.
pub record QuickCache (p : Pack) (f : Fid) (cache : Cached) : Type 0 where
  pub whole : Whole p
  pub links : LinksTrue p
  pub cached : HandyCache (sights p) f (all_listed cache)

-- The flag of a file's leader that its pages lie in a row is set.
pub record IsInARow (p : Pack) (f : Fid) : Type 0 where
  pub leader_at : ℕ
  pub leader : place (sights p) f 0 ≡ Some leader_at
  pub set : leader_word p leader_at row_word ≢ 0

-- The last-page words of a file's leader name its last page, and its place.
pub record LastNamed (p : Pack) (f : Fid) : Type 0 where
  pub leader_at : ℕ
  pub leader : place (sights p) f 0 ≡ Some leader_at
  pub number : leader_word p leader_at last_number_word ≡ page_of_byte (file_length p f)
  pub at : place (sights p) f (page_of_byte (file_length p f)) ≡ Some (leader_word p leader_at last_at_word)

-- They name a data page of it, and its place, and at most so many pages come after that one.
pub record NamedNearEnd (p : Pack) (f : Fid) (more : ℕ) : Type 0 where
  pub leader_at : ℕ
  pub leader : place (sights p) f 0 ≡ Some leader_at
  pub first : 1 ≤ leader_word p leader_at last_number_word
  pub at : place (sights p) f (leader_word p leader_at last_number_word) ≡ Some (leader_word p leader_at last_at_word)
  pub near : page_of_byte (file_length p f) ≤ leader_word p leader_at last_number_word + more

-- The highest page of the file that the cache lists, below the greatest number, is its last page, at its sector.
pub record EndListed (p : Pack) (f : Fid) (cache : Cached) : Type 0 where
  pub at : ℕ
  pub placed : place (sights p) f (page_of_byte (file_length p f)) ≡ Some at
  pub highest : IsHighestBelow cache.entries f 65535 (record { page = page_number f (page_of_byte (file_length p f)); at = at })
