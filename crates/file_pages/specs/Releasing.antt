-- Pages of a file that go one after another. The pack as a call began is p, and q is the one that its record writes have left of it so far.
use Rattle.std.specs.Prelude.{None, Bool, IsErrOf, List, OnOk, Option, Result, Some, false, length, set, suc, take, ℕ, ◌++◌, ◌+◌, ◌<◌, ◌≤◌, ◌∷◌, ◌≡◌, ◌≢◌, ◌⊎◌}
use Rattle.alto_words.specs.declared.fid.Fid.{Fid}
use Rattle.disk_records.specs.Addresses.{pages_of}
use Rattle.disk_records.specs.Commands.{release_writes}
use Rattle.disk_records.specs.Events.{IsFirstOf}
use Rattle.disk_records.specs.Frames.{IsFreeSector}
use Rattle.disk_records.specs.Packs.{Pack, carried, sector_at}
use Rattle.disk_records.specs.Tapes.{Taped, added, pack}
use Rattle.disk_records.specs.declared.records.Event.{Event}
use Rattle.disk_records.specs.declared.records.Page.{Page}
use Rattle.disk_records.specs.declared.records.Place.{Place}
use Rattle.disk_records.specs.declared.records.Tally.{Tally}
use Rattle.hint_cache.specs.Bits.{busy_at}
use Rattle.hint_cache.specs.Caches.{Cached, address_in}
use Rattle.label_check.specs.Guarded.{info_of}
use Rattle.label_check.specs.declared.errors.PageInfo.{PageInfo}
use Rattle.laws_hint.specs.MapChanges.{marked}
use Rattle.laws_operation.specs.ByteLaws.{Bear}
use Rattle.page_seeking.specs.Refs.{IsOwnLink}
use Rattle.pack_model.specs.hints.Handy.{HandyCache}
use Rattle.pack_model.specs.hints.Misled.{Finds, IsOnDisk, Misled}
use Rattle.pack_model.specs.operations.Commands.{releases_writes}
use Rattle.pack_model.specs.operations.Committing.{page_of_byte, units}
use Rattle.pack_model.specs.operations.Operations.Move.{commits, quiet}
use Rattle.pack_model.specs.operations.Operations.{releases_moves}
use Rattle.pack_model.specs.operations.Step.{Operation}
use Rattle.pack_model.specs.reading.Sights.{Sight, sights}
use Rattle.pack_model.specs.sessions.Tallies.{CountsMoves, took_effect}
use Rattle.pack_model.specs.states.Whole.{Whole}
use Rattle.page_seeking.specs.Seeking.{all_listed, file_length, page_after, page_number}
use Rattle.page_seeking.specs.declared.refs.FileError.TheVariants.{DiskFault, Memory}
use Rattle.page_seeking.specs.declared.refs.FileError.{FileError}

-- ---- the pack
-- each page that a sector of q carries it carried on p
abbrev pub OnlyGo : Pack → Pack → Type 0
OnlyGo p q = (i : ℕ) (page : Page) → carried q i ≡ Some page → carried p i ≡ Some page

-- The usable sector carries the page, has a value of 256 words, and these are its label's words.
pub record IsKnown (p : Pack) (page : Page) (at : ℕ) (info : PageInfo) : Type 0 where
  pub first : 1 ≤ at
  pub last : at < pages_of p.shape
  pub carries : carried p at ≡ Some page
  pub tells : info ≡ info_of (sector_at p at).label
  pub sized : length (sector_at p at).value ≡ 256

-- The page was carried by the sector, and these are the words of its label then; each later page of its file is in its sector still.
pub record Follows (p q : Pack) (page : Page) (at : ℕ) (info : PageInfo) : Type 0 where
  pub shape : q.shape ≡ p.shape
  pub known : IsKnown p page at info
  pub later : (i n : ℕ) → page.number < n → carried p i ≡ Some (page_number page.fid n) → sector_at q i ≡ sector_at p i
  pub only : OnlyGo p q

-- All pages of the file after the one with this number are in these sectors.
pub record AreAfter (p : Pack) (f : Fid) (number : ℕ) (pages : List ℕ) : Type 0 where
  pub whole : Whole p
  pub bear : Bear (sights p) f (suc number) pages
  pub count : number + length pages ≡ page_of_byte (file_length p f)

-- A link of the file misled as the call began, and what was found is the label on q.
pub record MisledSince (p q : Pack) (f : Fid) (place : Place) (at : ℕ) (wanted : Page) (found : Option (List ℕ)) : Type 0 where
  pub link : IsOwnLink f place wanted
  pub misled : Misled p place at wanted
  pub on_disk : Whole p → IsOnDisk place
  pub finds : Finds q place at found

-- ---- releases
-- The page after this one was released.
pub record ReleasesNext (p : Pack) (page : Page) (to : ℕ) (next : PageInfo) (old new : Taped) (bits now : List Bool) : Type 0 where
  pub wrote : added old new ≡ release_writes to
  pub table : now ≡ set bits to false
  pub follows : Follows p (pack new) (page_after page) to next

-- For every answer a prefix of the releases of these pages was written; at Ok all of it, and the table has their sectors as free.
pub record ReleasesAll (pages : List ℕ) (old new : Taped) (bits now : List Bool) (result : Result (Unit {0}) FileError) : Type 0 where
  pub some : IsFirstOf (releases_writes pages) (added old new)
  pub all : OnOk result (added old new ≡ releases_writes pages)
  pub table : OnOk result (now ≡ marked false pages bits)
  pub less : IsErrOf result Memory → old.spare < length (releases_writes pages)

-- Of these pages the first ones were released, and the rest come after the page with this number.
pub record Halfway (p : Pack) (f : Fid) (number : ℕ) (pages : List ℕ) (old now : Taped) (bits bits_now : List Bool) : Type 0 where
  pub done : List ℕ
  pub rest : List ℕ
  pub split : pages ≡ done ++ rest
  pub wrote : added old now ≡ releases_writes done
  pub table : bits_now ≡ marked false done bits
  pub left : AreAfter p f number rest

-- ---- the table
-- the bit is as it was, or free as its sector is
abbrev pub KeepsOrFreesAt : Pack → List Bool → List Bool → ℕ → Type 0
KeepsOrFreesAt p old new at = (busy_at new at ≡ busy_at old at) ⊎ ((busy_at new at ≡ false) × IsFreeSector p at)

-- so is each
abbrev pub KeepsOrFrees : Pack → List Bool → List Bool → Type 0
KeepsOrFrees p old new = (at : ℕ) → KeepsOrFreesAt p old new at

-- ---- the record that commits
-- Two record writes, of which the first commits an operation: for every answer a prefix of them was done and counted, at Ok both.
pub record CommitsFirst (part : List Event) (old new : Taped) (t u : Tally) (result : Result (Unit {0}) FileError) : Type 0 where
  pub some : IsFirstOf part (added old new)
  pub all : OnOk result (added old new ≡ part)
  pub counts : (o : Operation) (n : ℕ) → CountsMoves DiskFault old new (take (length (added old new)) (commits o ∷ quiet ∷ releases_moves (units n))) t u result
  pub done : OnOk result (u ≡ took_effect (suc old.writes) t)
  pub less : IsErrOf result Memory → old.spare < 2

-- and then the releases of these pages
pub record CommitsAndReleases (part : List Event) (pages : List ℕ) (old new : Taped) (t u : Tally) (result : Result (Unit {0}) FileError) : Type 0 where
  pub some : IsFirstOf (part ++ releases_writes pages) (added old new)
  pub all : OnOk result (added old new ≡ part ++ releases_writes pages)
  pub counts : (o : Operation) (n : ℕ) → CountsMoves DiskFault old new (take (length (added old new)) (commits o ∷ quiet ∷ releases_moves (units n))) t u result
  pub less : IsErrOf result Memory → old.spare < length (part ++ releases_writes pages)

-- ---- the cache
-- on any pack a cache that was handy for a file is so
abbrev pub KeepsEachHandy : Cached → Cached → Type 0
KeepsEachHandy old new = (ss : List Sight) (f : Fid) → HandyCache ss f (all_listed old) → HandyCache ss f (all_listed new)

-- a page that wasn't listed isn't
abbrev pub ListsNoMore : Cached → Cached → Type 0
ListsNoMore old new = (page : Page) → address_in old.entries page ≡ None → address_in new.entries page ≡ None

-- no page of the file after the one with this number is listed, up to the last
abbrev pub Forgotten : Cached → Fid → ℕ → ℕ → Type 0
Forgotten cache f number last = (n : ℕ) → number < n → n ≤ last → address_in cache.entries (page_number f n) ≡ None

-- each other page is listed as it was
abbrev pub KeepsOthers : Page → Cached → Cached → Type 0
KeepsOthers page old new = (other : Page) → other ≢ page → address_in new.entries other ≡ address_in old.entries other

-- Each page that is listed is still in the sector that carried it: none that went is listed, whatever the answer is.
abbrev pub ListsNoneGone : Pack → Pack → Cached → Type 0
ListsNoneGone p q cache = (page : Page) (i at : ℕ) → address_in cache.entries page ≡ Some at → carried p i ≡ Some page → carried q i ≡ Some page
