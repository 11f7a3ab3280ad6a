-- The words `format` and `prepare`: what they show and leave, and their answers.
-- The text is this project's choice.
use Rattle.std.specs.Prelude.{◌≡◌, ◌≤◌, ℕ, ◌+◌, List, [], ◌++◌, codes, Result, OnOk}
use Rattle.std.specs.Fmt.{decimal}
use Rattle.disk_records.specs.Addresses.{pages_of}
use Rattle.disk_records.specs.Events.{IsFirstOf, shown_bytes, shown_events}
use Rattle.disk_records.specs.Packs.{Pack, crash}
use Rattle.disk_records.specs.Tapes.{Taped, pack, added}
use Rattle.pack_model.specs.sessions.Format.{format_writes, free_after_format}
use Rattle.disk_records.specs.declared.records.Event.{Event}
use Rattle.laws_format.specs.Preparing.{HasUnusedDrive, IsPrepared, drive_pages, prepare_writes}
use Rattle.pack_model.specs.showing.Settling.{show}
use Rattle.disk_descriptor.specs.Formatting.{IsFormatted}
use Rattle.session_boot.specs.declared.status.Fault.{Fault}
use Rattle.session_boot.specs.declared.status.Status.{Status}
use Rattle.session_boot.specs.declared.status.Status.TheVariants as status

-- what is shown of a formatted pack with so many free sectors
abbrev pub format_text : ℕ → List ℕ
format_text free = codes "formatted: " ++ decimal free ++ codes " pages free\n"

-- the answers to `format`
abbrev pub AnswersFormat : Status → Type 0
AnswersFormat status.Done = Unit {0}
AnswersFormat status.Usage = ⊥
AnswersFormat status.NeedsScavenge = ⊥
AnswersFormat status.DiskFault = Unit {0}
AnswersFormat status.KeyFault = ⊥
AnswersFormat status.DisplayFault = Unit {0}
AnswersFormat status.Memory = Unit {0}
AnswersFormat status.CannotScavenge = ⊥

-- ---- record writes, and then a text
-- A call that does these record writes, after which the pack is so: a prefix of them at every answer, all of them at Ok.
pub record Rewrites {T : Type 0} (writes : List Event) (leaves_it : Pack → Type 0) (most : ℕ) (old new : Taped) (result : Result T Fault) : Type 0 where
  pub some : IsFirstOf writes (added old new)
  pub ok : OnOk result (added old new ≡ writes)
  pub leaves : OnOk result (leaves_it (pack new))
  pub runs : new.runs ≤ old.runs + most

-- These record writes are done, and then this text is shown. At every answer a prefix of that was done, all of it at Done, and no byte is
-- shown except at Done and where the display failed; then the pack is so.
pub record RewritesAndTells (writes : List Event) (text : List ℕ) (leaves_it : Pack → Type 0) (most : ℕ) (old new : Taped) (answer : Status) : Type 0 where
  pub some : IsFirstOf (writes ++ shown_events text) (added old new)
  pub done : answer ≡ status.Done → added old new ≡ writes ++ shown_events text
  pub leaves : answer ≡ status.Done → leaves_it (pack new)
  pub display : answer ≡ status.DisplayFault → leaves_it (pack new)
  pub disk : answer ≡ status.DiskFault → shown_bytes (added old new) ≡ []
  pub memory : answer ≡ status.Memory → shown_bytes (added old new) ≡ []
  pub runs : new.runs ≤ old.runs + most

-- ---- the word `format`: every sector is written, and then the number of free sectors is shown
abbrev pub FormatsDisk : {T : Type 0} → ℕ → ℕ → Taped → Taped → Result T Fault → Type 0
FormatsDisk number moment old new result = Rewrites (format_writes old.form number moment) (IsFormatted old.form number moment) (pages_of old.form) old new result

abbrev pub FormatsPack : ℕ → ℕ → Taped → Taped → Status → Type 0
FormatsPack number moment old new answer = RewritesAndTells (format_writes old.form number moment) (format_text (free_after_format old.form)) (IsFormatted old.form number moment) (pages_of old.form) old new answer

-- ---- the word `prepare`: every sector of the second drive is made free, and then the number of them is shown
-- what is shown of a drive of so many sectors
abbrev pub prepare_text : ℕ → List ℕ
prepare_text pages = codes "prepared: " ++ decimal pages ++ codes " pages\n"

abbrev pub PreparesDisk : {T : Type 0} → ℕ → Taped → Taped → Result T Fault → Type 0
PreparesDisk number old new result = Rewrites (prepare_writes old.form number) (IsPrepared (pack old)) (pages_of old.form) old new result

abbrev pub PreparesPack : ℕ → Taped → Taped → Status → Type 0
PreparesPack number old new answer = RewritesAndTells (prepare_writes old.form number) (prepare_text (drive_pages old.form)) (IsPrepared (pack old)) (pages_of old.form) old new answer

-- each crash point shows what the pack showed before, where no sector of the second drive carries a page
abbrev pub ShowsThroughout : Taped → Taped → Type 0
ShowsThroughout old new = (k : ℕ) → HasUnusedDrive (pack old) → show (crash (pack old) (added old new) k) ≡ show (pack old)
