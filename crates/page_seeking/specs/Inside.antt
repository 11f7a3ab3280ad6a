-- What the private functions say.
use Rattle.std.specs.Prelude.{◌≡◌, ◌≢◌, ◌⊎◌, ℕ, ◌+◌, ◌-◌, ◌*◌, ◌<◌, ◌≤◌, Bool, IsTrue, List, [], length, take, All, Contains, Option, Some, None, Result, Ok, Err}
use Rattle.alto_words.specs.declared.fid.Fid.{Fid}
use Rattle.disk_records.specs.declared.records.Page.{Page}
use Rattle.disk_records.specs.declared.records.Place.{Place}
use Rattle.disk_records.specs.declared.records.Sector.{Sector}
use Rattle.disk_records.specs.declared.shape.Shape.{Shape}
use Rattle.disk_records.specs.Addresses.{pages_of}
use Rattle.disk_records.specs.Packs.{Pack, sector_at, carried}
use Rattle.disk_records.specs.Tapes.{Taped, Looks, pack}
use Rattle.disk_records.specs.Words.{word}
use Rattle.hint_cache.specs.declared.cache.Entry.{Entry}
use Rattle.hint_cache.specs.Caches.{Cached, address_in, noted}
use Rattle.label_check.specs.declared.errors.PageInfo.{PageInfo}
use Rattle.label_check.specs.declared.errors.LookError.{LookError}
use Rattle.label_check.specs.declared.errors.LookError.TheVariants as look
use Rattle.label_check.specs.declared.errors.GuardError.{GuardError}
use Rattle.label_check.specs.declared.errors.GuardError.TheVariants as guard
use Rattle.label_check.specs.Guarded.{info_of}
use Rattle.pack_model.specs.hints.Handy.{Handy, IsRightOrIdle, last_at_word, last_number_word, row_word}
use Rattle.pack_model.specs.hints.Links.{LinksTrue}
use Rattle.pack_model.specs.operations.Committing.{page_of_byte}
use Rattle.pack_model.specs.reading.Files.{place}
use Rattle.pack_model.specs.reading.Sights.{Sight, sights}
use Rattle.pack_model.specs.states.Whole.{Whole}
use Rattle.page_seeking.specs.declared.refs.FileError.{FileError}
use Rattle.page_seeking.specs.declared.refs.FileError.TheVariants.{Misled, DiskFault, Memory}
use Rattle.page_seeking.specs.declared.links.Below.{Below}
use Rattle.page_seeking.specs.declared.seek.Found.{Found}
use Rattle.page_seeking.specs.Parts.{ListsNext}
use Rattle.page_seeking.specs.Seeking.{GoesOn, Links, page_after, page_number, Seen, Stands, Lists, Refused}

abbrev pub error_of_look : LookError → FileError
error_of_look look.DiskFault = DiskFault
error_of_look look.Memory = Memory

-- the answer of a guarded call where the hint at this place has this address and means this page
abbrev pub error_at : Place → ℕ → Page → GuardError → FileError
error_at place at wanted (guard.Wrong found) = Misled place at wanted found
error_at place at wanted guard.DiskFault = DiskFault
error_at place at wanted guard.Memory = Memory

-- ---- what is noted
-- An entry for the page after one that was seen, at the sector that its link names.
pub record IsAfter (form : Shape) (page : Page) (info : PageInfo) (e : Entry) : Type 0 where
  pub goes : GoesOn page info.bytes
  pub page_is : e.page ≡ page_after page
  pub named : Links form info.next e.at

-- an entry that stood there, or one that was noted for a page that was seen
abbrev pub IsNoted : Shape → Page → ℕ → PageInfo → List Entry → Entry → Type 0
IsNoted form page at info old e = Contains old e ⊎ ((e ≡ record { page = page; at = at }) ⊎ IsAfter form page info e)

abbrev pub AreNoted : Shape → Page → ℕ → PageInfo → List Entry → List Entry → Type 0
AreNoted form page at info old new = All (IsNoted form page at info old) new

-- A call of `note` whose answer is passed over.
pub record Notes (page : Page) (at : ℕ) (before now : Cached) : Type 0 where
  pub each : All (λ e. Contains before.entries e ⊎ (e ≡ record { page = page; at = at })) now.entries
  pub here : (now.entries ≡ noted page at before.entries) ⊎ Refused before now
  pub grows : before.refused ≤ now.refused

-- The page is listed at this address, among the two entries that were used last, unless a `note` was refused.
abbrev pub IsRecent : Page → ℕ → Cached → Cached → Type 0
IsRecent page at before now = (address_in (take 2 now.entries) page ≡ Some at) ⊎ Refused before now

-- An address that the page had among the two entries that were used last is listed still, unless a `note` was refused.
abbrev pub KeepsRecent : Page → Cached → Cached → Type 0
KeepsRecent page before now = (at : ℕ) → address_in (take 2 before.entries) page ≡ Some at → (address_in now.entries page ≡ Some at) ⊎ Refused before now

-- so it is of each page with a lower number
abbrev pub KeepsLower : Page → Cached → Cached → Type 0
KeepsLower page before now = (other : Page) → other.number < page.number → KeepsRecent other before now

-- ---- a page that was found
-- It is in the buffer, and the cache lists it.
pub record Confirmed (told : Bool) (page : Page) (old : Taped) (before now : Cached) (buffer : Sector) (f : Found) : Type 0 where
  pub seen : Seen old.form page f.at f.info buffer
  pub stands : IsTrue told → Stands (pack old) page f.at buffer
  pub lists : Lists old.form page f.at f.info before now
  pub recent : IsRecent page f.at before now

-- A page that is known by its address and its label's words, whatever the buffer holds.
pub record Known (told : Bool) (p : Pack) (form : Shape) (page : Page) (f : Found) : Type 0 where
  pub first : 1 ≤ f.at
  pub last : f.at < pages_of form
  pub carries : IsTrue told → carried p f.at ≡ Some page
  pub tells : IsTrue told → f.info ≡ info_of (sector_at p f.at).label
  pub sized : IsTrue told → length (sector_at p f.at).value ≡ 256

-- The last page of a file, which isn't full, unless its number is the greatest.
pub record Ends (told : Bool) (p : Pack) (form : Shape) (f : Fid) (last : ℕ) (found : Found) : Type 0 where
  pub first : 1 ≤ last
  pub known : Known told p form (page_number f last) found
  pub ends : (found.info.bytes ≢ 512) ⊎ (last ≡ 65535)

-- No link was followed from a page that is known: it is the answer, and buffer and cache are as they were.
pub record StaysAt (below : Below) (buffer : Sector) (cache : Cached) (last : Below) (after_buffer : Sector) (after_cache : Cached) : Type 0 where
  pub answer : last ≡ below
  pub buffer_is : after_buffer ≡ buffer
  pub cache_is : after_cache ≡ cache

-- Reading ended in the page that it began at, or with it, and the cache is as it was.
pub record StopsAt (below : Below) (end : ℕ) (cache after_cache : Cached) : Type 0 where
  pub from : 512 * (below.number - 1) ≤ end
  pub upto : end ≤ 512 * (below.number - 1) + below.found.info.bytes
  pub cache_is : after_cache ≡ cache

-- Reading ended in a page that was seen, or with it.
pub record Stops (told : Bool) (old : Taped) (f : Fid) (end : ℕ) (before now : Cached) : Type 0 where
  pub number : ℕ
  pub here : Found
  pub buffer : Sector
  pub first : 1 ≤ number
  pub from : 512 * (number - 1) ≤ end
  pub upto : end ≤ 512 * (number - 1) + here.info.bytes
  pub confirmed : Confirmed told (page_number f number) old before now buffer here

-- The last byte that was read is in the page that reading began at, which is listed still if it was used last; or its page is listed.
abbrev pub LastListed : Bool → Taped → Fid → Below → ℕ → Cached → Cached → Type 0
LastListed told old f below end before now = ((page_of_byte (end - 1) ≡ below.number) × KeepsRecent (page_number f below.number) before now) ⊎ ListsNext told (pack old) f (end - 1) before now

-- an entry for a page of this file names its sector, or no sector bears the page
abbrev pub IsHandyEntry : List Sight → Fid → Entry → Type 0
IsHandyEntry ss f e = e.page.fid ≡ f → IsRightOrIdle ss f e.page.number e.at

abbrev pub HandyEntries : Pack → Fid → List Entry → Type 0
HandyEntries p f entries = All (IsHandyEntry (sights p) f) entries

-- with true links on a whole pack, handy entries stay handy, for every file
abbrev pub KeepsEntriesHandy : Bool → Taped → Cached → Cached → Type 0
KeepsEntriesHandy told old before now = IsTrue told → Whole (pack old) → LinksTrue (pack old) → (f : Fid) → HandyEntries (pack old) f before.entries → HandyEntries (pack old) f now.entries

-- entries that were handy on a pack are so still
abbrev pub KeepsEach : Cached → Cached → Type 0
KeepsEach old new = (p : Pack) (f : Fid) → HandyEntries p f old.entries → HandyEntries p f new.entries

-- What each private call that seeks a page leaves: at most so many sector commands that write nothing, and a cache.
pub record Sought (told : Bool) (most : ℕ) (old new : Taped) (before now : Cached) : Type 0 where
  pub looks : Looks told most old new
  pub refused : before.refused ≤ now.refused
  pub handy : KeepsEntriesHandy told old before now

abbrev pub IfFound : Result (Option Found) LookError → (Found → Type 0) → Type 0
IfFound (Ok (Some f)) P = P f
IfFound (Ok None) P = Unit {0}
IfFound (Err e) P = Unit {0}

abbrev pub IfMissed : Result (Option Found) LookError → Type 0 → Type 0
IfMissed (Ok (Some f)) P = Unit {0}
IfMissed (Ok None) P = P
IfMissed (Err e) P = Unit {0}

-- ---- handy hints of a page
-- Page n of the file has this place on a whole pack with true links, and its hints are handy.
pub record Eases (p : Pack) (f : Fid) (n at : ℕ) (cache : Cached) : Type 0 where
  pub whole : Whole p
  pub links : LinksTrue p
  pub hints : Handy p f []
  pub entries : HandyEntries p f cache.entries
  pub placed : place (sights p) f n ≡ Some at

-- The page has this place, and what the cache has of its file is handy.
pub record Finds (p : Pack) (f : Fid) (n at : ℕ) (cache : Cached) : Type 0 where
  pub entries : HandyEntries p f cache.entries
  pub placed : place (sights p) f n ≡ Some at

-- a leader has no pages in a row, or this page as many sectors after it as its number says
abbrev pub LiesAt : Sector → ℕ → ℕ → ℕ → Type 0
LiesAt leader leader_at number at = (word leader.value row_word ≡ 0) ⊎ (at ≡ leader_at + number)

-- a leader doesn't name this page as the last, or names it by its address
abbrev pub EndsAt : Sector → ℕ → ℕ → Type 0
EndsAt leader number at = word leader.value last_number_word ≡ number → word leader.value last_at_word ≡ at

-- What a leader says of the place of a page isn't wrong.
pub record LeadsTo (leader : Sector) (leader_at number at : ℕ) : Type 0 where
  pub small : at < 65536
  pub lies : LiesAt leader leader_at number at
  pub ends : EndsAt leader number at

-- no address, or this one
abbrev pub IsNoneOr : ℕ → Option ℕ → Type 0
IsNoneOr at a = (a ≡ None) ⊎ (a ≡ Some at)

-- The leader names this data page of the file as the last, by its address.
pub record NamesEnd (p : Pack) (f : Fid) (leader : Sector) (n : ℕ) : Type 0 where
  pub first : 1 ≤ n
  pub number : word leader.value last_number_word ≡ n
  pub carries : carried p (word leader.value last_at_word) ≡ Some (page_number f n)

-- The last page is sought from page n, which the leader names, after one sector command; or that page was found full, and it is sought from
-- there or from a later one after two.
pub data Near (told : Bool) (old new : Taped) (f : Fid) (n : ℕ) (below : Below) : Type 0 where
  at_named : below.number ≡ n → new.runs ≤ old.runs + 1 → Near told old new f n below
  after_full : (here : Found) → Known told (pack old) old.form (page_number f n) here → here.info.bytes ≡ 512 → n ≤ below.number → new.runs ≤ old.runs + 2 → Near told old new f n below
