-- What a caller of a call that writes sees.
use Rattle.std.specs.Prelude.{Bool, List, Option, Some, [], ℕ, ◌≡◌, ◌⊎◌}
use Rattle.disk_records.specs.declared.records.Event.{Event}
use Rattle.disk_records.specs.declared.records.Page.{Page}
use Rattle.disk_records.specs.declared.records.Place.{Place}
use Rattle.disk_records.specs.declared.records.Place.TheVariants.{Held}
use Rattle.alto_words.specs.declared.fid.Fid.{Fid}
use Rattle.disk_records.specs.Packs.{Pack}
use Rattle.pack_model.specs.operations.Committing.{moves_of}
use Rattle.pack_model.specs.operations.Operations.{one_move}
use Rattle.pack_model.specs.operations.Step.Operation.{make, stamp, title}
use Rattle.pack_model.specs.operations.Step.{Operation}
use Rattle.pack_model.specs.reading.Model.{read_as}
use Rattle.pack_model.specs.states.Whole.{Tidy, Whole}
use Rattle.laws_call.specs.Acting.{Acts}
use Rattle.laws_call.specs.Writing.{Written}
use Rattle.laws_operation.specs.FileWords.{CanMake}
use Rattle.hint_cache.specs.Caches.{Cached, address_in}
use Rattle.pack_model.specs.hints.Handy.{HandyCache}
use Rattle.pack_model.specs.hints.Links.{LinksTrue}
use Rattle.pack_model.specs.reading.Sights.{sights}
use Rattle.page_seeking.specs.Parts.{IsListed, ListsLast}
use Rattle.page_seeking.specs.Refs.{IsOwnHint, IsOwnLink}
use Rattle.page_seeking.specs.declared.refs.FileRef.{FileRef}
use Rattle.page_seeking.specs.Seeking.{Refused, all_listed, page_number}

-- ---- make
abbrev pub to_make : Fid → List ℕ → ℕ → Operation
to_make f name moment = make f name moment

-- The pack is whole and tidy, and this file can be made in these sectors.
pub record MayBeMade (p : Pack) (f : Fid) (name : List ℕ) (leader_at page_at : ℕ) : Type 0 where
  pub whole : Whole p
  pub tidy : Tidy p
  pub can : CanMake p f name leader_at page_at

-- Each page of the new file is listed with its sector, unless a note was refused.
abbrev pub ListsTwoPages : Fid → ℕ → ℕ → Cached → Cached → Type 0
ListsTwoPages f leader_at page_at old new = ((address_in new.entries (page_number f 0) ≡ Some leader_at) × (address_in new.entries (page_number f 1) ≡ Some page_at)) ⊎ Refused old new

-- The hint that misled is the address that was given for the leader of this file, or for its page 1, and that page is wanted.
pub record WasGiven (f : Fid) (leader_at page_at : ℕ) (place : Place) (at : ℕ) (wanted : Page) (found : Option (List ℕ)) : Type 0 where
  pub held : place ≡ Held at
  pub given : ((wanted ≡ page_number f 0) × (at ≡ leader_at)) ⊎ ((wanted ≡ page_number f 1) × (at ≡ page_at))

-- ---- addresses that were checked
-- The hint that misled is this address of a sector, which the call was handed or had found before, and this page was wanted.
pub record WasHeld (i : ℕ) (page : Page) (place : Place) (at : ℕ) (wanted : Page) (found : Option (List ℕ)) : Type 0 where
  pub held : place ≡ Held i
  pub address : at ≡ i
  pub page_is : wanted ≡ page

-- The hint that misled is the address of a sector in which the call itself had found a page of this file, and a page of it was wanted.
pub record WasFound (f : Fid) (place : Place) (at : ℕ) (wanted : Page) (found : Option (List ℕ)) : Type 0 where
  pub held : place ≡ Held at
  pub own : wanted.fid ≡ f

-- no hint but one of the file's is answered, or such an address
abbrev pub IsHintOrFound : FileRef → Place → ℕ → Page → Option (List ℕ) → Type 0
IsHintOrFound file place at wanted found = IsOwnHint file place at wanted found ⊎ WasFound file.fid place at wanted found

-- so it is once the page was located
abbrev pub IsLinkOrFound : Fid → Place → ℕ → Page → Option (List ℕ) → Type 0
IsLinkOrFound f place at wanted found = IsOwnLink f place wanted ⊎ WasFound f place at wanted found

-- ---- one value
-- The operation is these record writes, of which there is one, which commits it; they claim and release nothing.
pub record IsOneValue (p : Pack) (o : Operation) (writes : List Event) : Type 0 where
  pub exact : Written p o [] [] writes
  pub acts : Acts p o [] [] writes
  pub moves : moves_of (read_as p) o ≡ one_move o

abbrev pub to_title : Fid → List ℕ → Operation
to_title f name = title f name

abbrev pub to_stamp : Fid → ℕ → Operation
to_stamp f moment = stamp f moment

-- ---- hints
-- the leader is listed, unless a `note` was refused
abbrev pub ListsLeader : Bool → Pack → Fid → Cached → Cached → Type 0
ListsLeader told p f old new = IsListed told p (page_number f 0) new ⊎ Refused old new

-- the last page is listed, unless a `note` was refused
abbrev pub ListsItsEnd : Bool → Pack → Fid → Cached → Cached → Type 0
ListsItsEnd told p f old new = (n : ℕ) × ListsLast told p f old new n

-- with true links before the call, a cache that was handy for a file is handy for it on the pack afterwards, unless a `note` was refused
abbrev pub StaysHandy : Pack → Pack → Cached → Cached → Type 0
StaysHandy p q old new = Whole p → LinksTrue p → (f : Fid) → HandyCache (sights p) f (all_listed old) → HandyCache (sights q) f (all_listed new) ⊎ Refused old new
