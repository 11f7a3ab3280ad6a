-- What a caller sees of a growth and of a widening, and what their private functions say.
use Rattle.std.specs.List.{AllPairs}
use Rattle.std.specs.Prelude.{All, Bool, Contains, IsErrOf, IsTrue, List, None, OnOk, Option, Result, Some, [], cond, get_or, length, min, nat_le, suc, take, true, ℕ, ◌%◌, ◌*◌, ◌+◌, ◌<◌, ◌∷◌, ◌≡◌, ◌≢◌, ◌≤◌, ◌⊎◌}
use Rattle.alto_words.specs.Fid.{is_directory}
use Rattle.alto_words.specs.declared.fid.Fid.{Fid}
use Rattle.disk_records.specs.Addresses.{pages_of, real_of}
use Rattle.disk_records.specs.Commands.{claim_writes}
use Rattle.disk_records.specs.Events.{IsFirstOf}
use Rattle.disk_records.specs.Frames.{IsFreeSector}
use Rattle.disk_records.specs.Labels.{label_of}
use Rattle.disk_records.specs.Packs.{Pack, carried, is_free_at, sector_at}
use Rattle.disk_records.specs.Tapes.{Taped, added, pack}
use Rattle.disk_records.specs.Words.{word}
use Rattle.disk_records.specs.declared.records.Event.{Event}
use Rattle.disk_records.specs.declared.records.Page.{Page}
use Rattle.disk_records.specs.declared.records.Place.{Place}
use Rattle.disk_records.specs.declared.records.Place.TheVariants.{Held}
use Rattle.disk_records.specs.declared.records.Tally.{Tally}
use Rattle.disk_records.specs.declared.shape.Shape.{Shape}
use Rattle.hint_cache.specs.Caches.{Cached, address_in, noted}
use Rattle.hint_cache.specs.declared.cache.Entry.{Entry}
use Rattle.laws_call.specs.Acting.{Around, Operates}
use Rattle.laws_call.specs.Writing.{grown_writes}
use Rattle.laws_lookup.specs.OtherLaws.{KeepsPages, LeavesOthers}
use Rattle.laws_operation.specs.ByteLaws.{Bear, IsOrdinary}
use Rattle.page_seeking.specs.Parts.{IsListed}
use Rattle.page_seeking.specs.Refs.{IsOwnHint}
use Rattle.page_seeking.specs.Seeking.{EndsAtPage, Refused, file_length, page_number}
use Rattle.page_seeking.specs.declared.refs.FileError.{FileError}
use Rattle.page_seeking.specs.declared.refs.FileError.TheVariants.{DiskFault, Memory}
use Rattle.page_seeking.specs.declared.refs.FileRef.{FileRef}
use Rattle.pack_model.specs.operations.Commands.{Claim, past_last}
use Rattle.pack_model.specs.operations.Committing.{page_of_byte, pages_added}
use Rattle.pack_model.specs.operations.PageWords.{link_to_first, page_value, widening_bytes}
use Rattle.pack_model.specs.operations.Step.Operation.{grow, widen}
use Rattle.pack_model.specs.operations.Step.{Operation}
use Rattle.pack_model.specs.reading.Bytes.{bytes_of}
use Rattle.pack_model.specs.reading.Files.{place}
use Rattle.pack_model.specs.reading.Sights.{sights}
use Rattle.pack_model.specs.sessions.Tallies.{Tells, took_effect}
use Rattle.pack_model.specs.states.Whole.{Whole}

-- ---- what is asked of a growth
-- The operation that these bytes are after those of a file: of an ordinary one its growth, and of a directory, where they are the ones of a
-- free slot of a page, its widening.
pub data IsGrowth (f : Fid) (new : List ℕ) : Operation → Type 0 where
  of_file : IsOrdinary f → IsGrowth f new (grow f new)
  of_directory : is_directory f ≡ true → new ≡ widening_bytes → IsGrowth f new (widen f)

-- The file can get these bytes, and these words after them, by this operation: there are as many free sectors as pages come, each of them
-- once, and the words fit in the page that is the last one then.
pub record MayBeGrown (p : Pack) (o : Operation) (f : Fid) (new past fresh : List ℕ) : Type 0 where
  pub growth : IsGrowth f new o
  pub room : (file_length p f + length new) % 512 + length (bytes_of past) ≤ 512
  pub number : length fresh ≡ pages_added (file_length p f) (length new)
  pub free : All (λ i. is_free_at p i ≡ true) fresh
  pub distinct : AllPairs (λ i j. i ≢ j) fresh

-- ---- where the pages are then
-- Pages up to `last` are where they were, with the same leader; those that came, after it, are in these sectors, and end the file; there is
-- no other, and other files are as they were.
pub record Grew (p q : Pack) (f : Fid) (last : ℕ) (fresh : List ℕ) : Type 0 where
  pub there : (n : ℕ) → n ≤ last → place (sights p) f n ≢ None
  pub kept : KeepsPages f last p q
  pub leads : (at : ℕ) → place (sights p) f 0 ≡ Some at → sector_at q at ≡ sector_at p at
  pub comes : Bear (sights q) f (suc last) fresh
  pub ends : page_of_byte (file_length q f) ≡ last + length fresh
  pub none : (n : ℕ) → last + length fresh < n → place (sights q) f n ≡ None
  pub others : LeavesOthers f p q

-- ---- claims of pages in a row
-- The address of a sector that can carry a page.
pub record IsSector (form : Shape) (at : ℕ) : Type 0 where
  pub first : 1 ≤ at
  pub last : at < pages_of form

-- the first claim of `claims_of`: the first of these bytes are in this page, which comes after the one in the sector `previous`
abbrev pub next_claim : Shape → Page → ℕ → List ℕ → List ℕ → ℕ → List ℕ → Claim
next_claim shape page previous bytes past at later = record {
  at = at;
  label = label_of page (min 512 (length bytes)) (link_to_first shape later) (real_of shape previous);
  value = page_value (take 512 bytes) (past_last past later);
}

-- the words after the bytes of that page fit in it
abbrev pub FitsNext : List ℕ → List ℕ → List ℕ → Type 0
FitsNext bytes past later = min 512 (length bytes) + 2 * length (past_last past later) ≤ 512

-- These bytes, and these words after them, can be claimed as pages after page `last`: the sectors are free, each of them once, and
-- the numbers and the words fit.
pub record CanClaim (p : Pack) (last : ℕ) (bytes past fresh : List ℕ) : Type 0 where
  pub free : All (λ i. is_free_at p i ≡ true) fresh
  pub distinct : AllPairs (λ i j. i ≢ j) fresh
  pub few : last + length fresh ≤ 65535
  pub small : 2 * length past ≤ 512
  pub room : 0 < length fresh → length bytes + 2 * length past ≤ 512 * length fresh

-- A call that is to make these record writes, in so many sector commands at most: for every answer it made a prefix of them, at Ok all. Out
-- of memory comes only if fewer events were kept ready.
pub record Makes (writes : List Event) (most : ℕ) (old new : Taped) (result : Result (Unit {0}) FileError) : Type 0 where
  pub some : IsFirstOf writes (added old new)
  pub all : OnOk result (added old new ≡ writes)
  pub out_of_memory : IsErrOf result Memory → old.spare < length writes
  pub runs : new.runs ≤ old.runs + most

-- ---- which hint is answered, on every machine
-- The hint that misled is an address that was given for a page that comes, and a page of this file was wanted.
pub record WasGivenToGrow (f : Fid) (fresh : List ℕ) (place : Place) (at : ℕ) (wanted : Page) (found : Option (List ℕ)) : Type 0 where
  pub held : place ≡ Held at
  pub own : wanted.fid ≡ f
  pub given : Contains fresh at

-- It is the sector in which the call itself found the last page, which is listed there unless a note was refused, and this page was wanted.
pub record WasLast (f : Fid) (old new : Cached) (place : Place) (at : ℕ) (wanted : Page) (found : Option (List ℕ)) : Type 0 where
  pub held : place ≡ Held at
  pub own : wanted.fid ≡ f
  pub data_page : 1 ≤ wanted.number
  pub listed : (address_in new.entries wanted ≡ Some at) ⊎ Refused old new

-- no other address that was checked is answered, and else a hint of the file
abbrev pub IsHintOfGrowth : FileRef → List ℕ → Cached → Cached → Place → ℕ → Page → Option (List ℕ) → Type 0
IsHintOfGrowth file fresh old new place at wanted found = IsOwnHint file place at wanted found ⊎ (WasGivenToGrow file.fid fresh place at wanted found ⊎ WasLast file.fid old new place at wanted found)

-- ---- the record writes
-- for every answer these are a prefix of the record writes, at Ok all of them
pub record WritesAs {T : Type 0} (writes events : List Event) (result : Result T FileError) : Type 0 where
  pub some : IsFirstOf writes events
  pub all : OnOk result (events ≡ writes)

-- all record writes of a growth of the file by these bytes, with these words after them, whose last page is in this sector
abbrev pub growth_writes : Pack → Fid → ℕ → List ℕ → List ℕ → List ℕ → List Event
growth_writes p f at new past fresh = grown_writes p f (file_length p f) at new past fresh

-- The call is to do the operation, by these record writes.
pub record GrowsWith (o : Operation) (f : Fid) (at : ℕ) (new past fresh : List ℕ) (old now : Around) (result : Result (Unit {0}) FileError) : Type 0 where
  pub operates : Operates DiskFault Memory o fresh old now result
  pub writes : WritesAs (growth_writes (pack old.tape) f at new past fresh) (added old.tape now.tape) result

-- ---- the old last page
-- a machine had so many record writes, and then made n ones of which the second commits an operation
abbrev pub counted_second : ℕ → ℕ → Tally → Tally
counted_second writes n t = cond (nat_le 2 n) (took_effect (writes + 2) t) t

-- The value of a page, its label, which commits the operation, and its value again; the operation is counted if the label was written.
pub record Commits (at : ℕ) (label value : List ℕ) (old new : Taped) (before now : Tally) (result : Result (Unit {0}) FileError) : Type 0 where
  pub makes : Makes (claim_writes at label value) 4 old new result
  pub counts : Tells DiskFault new result → now ≡ counted_second old.writes (length (added old new)) before

-- ---- where it writes
-- The sector carries a page of the file that ends one: a data page that isn't full, or whose number is the greatest.
pub record IsEndOf (f : Fid) (p : Pack) (at : ℕ) : Type 0 where
  pub number : ℕ
  pub carries : carried p at ≡ Some (page_number f number)
  pub ends : EndsAtPage number (word (sector_at p at).label 3)

-- it carries such a page, or is free
abbrev pub IsEndOrFree : Fid → Pack → ℕ → Type 0
IsEndOrFree f p at = IsEndOf f p at ⊎ IsFreeSector p at

-- it is this one, or is free
abbrev pub IsHereOrFree : ℕ → Pack → ℕ → Type 0
IsHereOrFree here p at = (at ≡ here) ⊎ IsFreeSector p at

-- ---- hints of the pages that came
-- a note for this page at this sector, which is passed over if it is refused
pub record NotesOne (page : Page) (at : ℕ) (old new : Cached) : Type 0 where
  pub each : All (λ e. Contains old.entries e ⊎ (e ≡ record { page = page; at = at })) new.entries
  pub entries : (new.entries ≡ noted page at old.entries) ⊎ Refused old new
  pub grows : old.refused ≤ new.refused

-- page 1 of a new file was noted in its sector, and then the leader, unless a note was refused
abbrev pub NotesTwo : Fid → ℕ → ℕ → Cached → Cached → Type 0
NotesTwo f leader_at page_at old new = (new.entries ≡ noted (page_number f 0) leader_at (noted (page_number f 1) page_at old.entries)) ⊎ Refused old new

-- the entry is one of these: page n of f in the first of these sectors, page n + 1 in the next, and so on
abbrev pub IsAmong : Fid → ℕ → List ℕ → Entry → Type 0
IsAmong f n [] e = ⊥
IsAmong f n (at ∷ fresh) e = (e ≡ record { page = page_number f n; at = at }) ⊎ IsAmong f (suc n) fresh e

-- it stood there, and is of none of the pages of f after `last` up to `now`
pub record StoodApart (f : Fid) (last now : ℕ) (old : List Entry) (e : Entry) : Type 0 where
  pub stood : Contains old e
  pub apart : e.page.fid ≡ f → (e.page.number ≤ last) ⊎ (now < e.page.number)

-- Each entry is of a page that came, after page `last` of f, and names its sector, or it stood there and is of another page; unless a note
-- was refused.
abbrev pub NotesPages : Fid → ℕ → List ℕ → Cached → Cached → Type 0
NotesPages f last fresh old new = All (λ e. IsAmong f (suc last) fresh e ⊎ StoodApart f last (last + length fresh) old.entries e) new.entries ⊎ Refused old new

-- The last of them are listed with their sectors, as many as a cache has entries, unless a note was refused.
abbrev pub ListsFresh : Fid → ℕ → List ℕ → Cached → Cached → Type 0
ListsFresh f last fresh old new = ((i : ℕ) → i < length fresh → length fresh ≤ i + 48 → address_in new.entries (page_number f (last + 1 + i)) ≡ Some (get_or fresh i 0)) ⊎ Refused old new

-- The page with this number was the last one of the file. If no page came it is listed, and else those that came, as many as a cache has
-- entries.
pub record ListsGrown (told : Bool) (p : Pack) (f : Fid) (fresh : List ℕ) (old new : Cached) : Type 0 where
  pub last : ℕ
  pub bytes : ℕ
  pub ends : EndsAtPage last bytes
  pub is : IsTrue told → Whole p → last ≡ page_of_byte (file_length p f)
  pub stays : fresh ≡ [] → IsListed told p (page_number f last) new ⊎ Refused old new
  pub comes : ListsFresh f last fresh old new
