-- The record writes of a call that isn't an operation, and DiskDescriptor's pages.
use Rattle.std.specs.Prelude.{◌≡◌, ◌≢◌, ℕ, zero, suc, ◌+◌, ◌<◌, ◌≤◌, List, [], ◌∷◌, get_or, length, Option, Result, Some, OnOk, IsErrOf}
use Rattle.alto_words.specs.Fid.{disk_descriptor}
use Rattle.disk_records.specs.declared.records.Event.{Event}
use Rattle.disk_records.specs.declared.records.Event.TheVariants.{Shown, Wrote}
use Rattle.disk_records.specs.declared.records.Page.{Page}
use Rattle.disk_records.specs.Events.{IsFirstOf}
use Rattle.disk_records.specs.Packs.{Pack, carried, label_found}
use Rattle.disk_records.specs.Tapes.{Taped, added, pack}
use Rattle.disk_descriptor.specs.Answers.{IfHeld}
use Rattle.disk_descriptor.specs.declared.errors.DescError.{DescError}
use Rattle.disk_descriptor.specs.declared.errors.DescError.TheVariants.{Memory}

-- A call on a machine that is modelled that does these record writes, in at most so many sector commands: all of them at Ok, a prefix of
-- them at every answer. It is out of memory only if fewer events are kept ready.
pub record Writes {T E : Type 0} (memory : E) (writes : List Event) (most : ℕ) (old new : Taped) (result : Result T E) : Type 0 where
  pub some : IsFirstOf writes (added old new)
  pub ok : OnOk result (added old new ≡ writes)
  pub want : IsErrOf result memory → old.spare < length writes
  pub runs : new.runs ≤ old.runs + most

-- DiskDescriptor's page with this number
abbrev pub data_page : ℕ → Page
data_page number = record { fid = disk_descriptor; number = number }

-- ---- values that are written by what is kept, whether it fits the pack or not
-- The sector that is found is the one at this address; it doesn't carry DiskDescriptor's page with this number, its label was found, and
-- nothing was written.
pub record FindsOther (p : Pack) (at number : ℕ) (events : List Event) (place : ℕ) (found : Option (List ℕ)) : Type 0 where
  pub here : place ≡ at
  pub other : carried p at ≡ Some (data_page number) → ⊥
  pub label : found ≡ label_found p at
  pub silent : events ≡ []

-- A call for one value that writes only in a sector that carries DiskDescriptor's page with this number. Held comes only of one that
-- doesn't, and out of memory it has written nothing.
pub record GuardsPage {T : Type 0} (at number : ℕ) (old new : Taped) (result : Result T DescError) : Type 0 where
  pub own : added old new ≢ [] → carried (pack old) at ≡ Some (data_page number)
  pub held : IfHeld result (FindsOther (pack old) at number (added old new))
  pub short : IsErrOf result Memory → added old new ≡ []

-- a record write of the value of the nth of these sectors, from 0, which carries DiskDescriptor's page n + 1
abbrev pub IsOwnValue : Pack → List ℕ → ℕ → Event → Type 0
IsOwnValue p pages n (Wrote at part words) = (part ≡ 2) × (at ≡ get_or pages n 0) × (carried p at ≡ Some (data_page (n + 1)))
IsOwnValue p pages n (Shown byte) = ⊥

-- such record writes for page n, for the page before it, and so on; they may end before page 1
abbrev pub AreOwnValues : Pack → List ℕ → ℕ → List Event → Type 0
AreOwnValues p pages n [] = Unit {0}
AreOwnValues p pages zero (e ∷ events) = ⊥
AreOwnValues p pages (suc n) (e ∷ events) = IsOwnValue p pages n e × AreOwnValues p pages n events

-- The sector at this address is the nth of these, from 0, and doesn't carry DiskDescriptor's page n + 1; its label was found. One record
-- write was done for each page after it, and no other.
pub record StopsAt (p : Pack) (pages : List ℕ) (events : List Event) (at : ℕ) (found : Option (List ℕ)) : Type 0 where
  pub n : ℕ
  pub is_kept : at ≡ get_or pages n 0
  pub other : carried p at ≡ Some (data_page (n + 1)) → ⊥
  pub label : found ≡ label_found p at
  pub later : n + 1 + length events ≡ length pages

-- A call that does these record writes as `Writes` says, whatever stands in these sectors: values of DiskDescriptor's pages, from the last
-- to the first, each in its sector, which carried this page as the call began. Held comes only of a sector that didn't, and nothing was
-- written for its page or one before it. Out of memory the first page isn't written.
pub record WritesOwn {T : Type 0} (pages : List ℕ) (wanted : List Event) (most : ℕ) (old new : Taped) (result : Result T DescError) : Type 0 where
  pub writes : Writes Memory wanted most old new result
  pub own : AreOwnValues (pack old) pages (length pages) (added old new)
  pub held : IfHeld result (StopsAt (pack old) pages (added old new))
  pub short : IsErrOf result Memory → length (added old new) < length pages
