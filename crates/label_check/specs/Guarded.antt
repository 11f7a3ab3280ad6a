-- Sector commands that are guarded by the label that stands there.
use Rattle.std.specs.Prelude.{◌≡◌, ◌≢◌, ℕ, ◌+◌, ◌<◌, ◌≤◌, true, cond, List, [], length, Option, Some, None, Result, Ok, Err, OnOk, IsErrOf}
use Rattle.disk_records.specs.declared.records.Page.{Page}
use Rattle.disk_records.specs.declared.records.Sector.{Sector}
use Rattle.disk_records.specs.declared.records.Event.{Event}
use Rattle.disk_records.specs.declared.shape.Shape.{Shape}
use Rattle.disk_records.specs.Words.{word}
use Rattle.disk_records.specs.Addresses.{is_right_header}
use Rattle.disk_records.specs.Labels.{page_of}
use Rattle.disk_records.specs.Packs.{Pack, sector_at, carried, label_found}
use Rattle.disk_records.specs.Events.{IsFirstOf}
use Rattle.disk_records.specs.Tapes.{Taped, pack, added, capped}
use Rattle.label_check.specs.declared.errors.GuardError.{GuardError}
use Rattle.label_check.specs.declared.errors.GuardError.TheVariants.{Wrong, DiskFault, Memory}
use Rattle.label_check.specs.declared.errors.PageInfo.{PageInfo}

-- what a guard asks of a page, that the sector carries it; of a free sector it asks `IsFreeSector`
abbrev pub Carries : ℕ → Page → Pack → Type 0
Carries at page p = carried p at ≡ Some page

abbrev pub IfWrong : {T : Type 0} → Result T GuardError → (Option (List ℕ) → Type 0) → Type 0
IfWrong (Ok x) P = Unit {0}
IfWrong (Err (Wrong found)) P = P found
IfWrong (Err DiskFault) P = Unit {0}
IfWrong (Err Memory) P = Unit {0}

-- the guard held, all record writes are done, and it took so many sector commands
pub record DoneWhole (guard : Pack → Type 0) (writes : List Event) (count : ℕ) (old new : Taped) : Type 0 where
  pub held : guard (pack old)
  pub wrote : added old new ≡ writes
  pub runs : new.runs ≡ capped (old.runs + count)

-- the guard failed, nothing was written, and the label that stands there was found
pub record FoundWrong (guard : Pack → Type 0) (at : ℕ) (old new : Taped) (found : Option (List ℕ)) : Type 0 where
  pub failed : guard (pack old) → ⊥
  pub silent : added old new ≡ []
  pub label : found ≡ label_found (pack old) at

-- the guard held, fewer events were kept ready than the record writes, and the last sector command wrote nothing
pub record WantsRoom (guard : Pack → Type 0) (early writes : List Event) (old new : Taped) : Type 0 where
  pub held : guard (pack old)
  pub less : old.spare < length writes
  pub unwritten : IsFirstOf early (added old new)

-- A call on a modelled disk that does these record writes where its guard holds, in so many sector commands; `early` are those before the
-- last command. For every answer a prefix of them was done, in two sector commands at most.
pub record Guarded {T : Type 0} (guard : Pack → Type 0) (at : ℕ) (early writes : List Event) (count : ℕ) (old new : Taped) (result : Result T GuardError) : Type 0 where
  pub some : IsFirstOf writes (added old new)
  pub guarded : added old new ≢ [] → guard (pack old)
  pub ok : OnOk result (DoneWhole guard writes count old new)
  pub wrong : IfWrong result (FoundWrong guard at old new)
  pub want : IsErrOf result Memory → WantsRoom guard early writes old new
  pub runs : new.runs ≤ old.runs + 2

-- what a page that was read tells: the buffer holds its sector, and the answer its label's words
abbrev pub info_of : List ℕ → PageInfo
info_of label = record { bytes = word label 3; next = word label 0; previous = word label 1 }

pub record IsReadPage (p : Pack) (at : ℕ) (buffer : Sector) (info : PageInfo) : Type 0 where
  pub holds : buffer ≡ sector_at p at
  pub tells : info ≡ info_of (sector_at p at).label

-- ---- what the buffer says on any disk
-- its header is right and its label names the page
pub record HoldsPage (form : Shape) (at : ℕ) (page : Page) (buffer : Sector) : Type 0 where
  pub right : is_right_header form at buffer.header ≡ true
  pub names : page_of buffer.label ≡ Some page

-- it doesn't hold the page, and its label was found where its header is right
pub record HoldsOther (form : Shape) (at : ℕ) (page : Page) (buffer : Sector) (found : Option (List ℕ)) : Type 0 where
  pub differs : HoldsPage form at page buffer → ⊥
  pub label : found ≡ cond (is_right_header form at buffer.header) (Some buffer.label) None
