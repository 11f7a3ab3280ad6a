-- The word `scavenge`: what it shows and leaves, and its answers.
-- The texts are this project's choice.
use Rattle.std.specs.Prelude.{◌≡◌, ◌⊎◌, ℕ, List, [], ◌++◌, codes, Option, Some, None, Result, Ok, Err, Vec}
use Rattle.std.specs.declared.alloc.Global.{Global}
use Rattle.disk_records.specs.declared.records.Event.{Event}
use Rattle.disk_records.specs.Events.{IsFirstOf, shown_bytes, shown_events}
use Rattle.disk_records.specs.Frames.{IsUsableSector, WritesIn}
use Rattle.disk_records.specs.Packs.{Pack}
use Rattle.disk_records.specs.Tapes.{Taped, added, pack}
use Rattle.exec_words.specs.Texts.{line_of, report_text, spaced, with_number}
use Rattle.pack_model.specs.scavenger.Reports.{Scavenged, report_of}
use Rattle.pack_model.specs.scavenger.Scavenging.{Refusal, Scavengeable, first_refusal}
use Rattle.pack_model.specs.scavenger.Scavenging.Refusal.{root_bad, root_taken, pack_full}
use Rattle.scavenger.specs.declared.errors.ScavError.{ScavError}
use Rattle.scavenger.specs.declared.errors.ScavError.TheVariants as error
use Rattle.scavenger.specs.Answers.{refusal_in}
use Rattle.scavenger.specs.Runs.{EndsIt, OpensMark, ScavengeWrites}
use Rattle.scavenger.specs.Scavenges.{IsSafe}
use Rattle.session_boot.specs.Boots.{NoneRose}
use Rattle.session_boot.specs.declared.status.Fault.{Fault}
use Rattle.session_boot.specs.declared.status.Fault.TheVariants.{Disk, Key, Display, Memory}
use Rattle.session_boot.specs.declared.status.Status.{Status}
use Rattle.session_boot.specs.declared.status.Status.TheVariants as status
use Rattle.alto_top.specs.declared.scavenging.Told.{Told}
use Rattle.alto_top.specs.declared.scavenging.Told.TheVariants as told

-- ---- the texts
-- why a pack can't be scavenged
abbrev pub refusal_text : Refusal → List ℕ
refusal_text (root_bad header) = line_of (codes "root bad:" ++ spaced header)
refusal_text (root_taken label) = line_of (codes "root taken:" ++ spaced label)
refusal_text (pack_full needed free) = line_of (with_number (codes "pack full: needed ") needed ++ with_number (codes " free ") free)

-- of a pack with this refusal, or with none
abbrev pub told_text : Pack → Option Refusal → List ℕ
told_text p None = report_text (report_of p)
told_text p (Some refusal) = refusal_text refusal

-- why it can't be scavenged, or else the report
unfoldable pub scavenge_text : Pack → List ℕ
scavenge_text p = told_text p (first_refusal p)

-- ---- the text of an error: none after a fault, or out of memory
-- no fault of the disk
abbrev pub IsNoDiskFault : ScavError → Type 0
IsNoDiskFault (error.RootBad header) = Unit {0}
IsNoDiskFault (error.RootTaken found) = Unit {0}
IsNoDiskFault (error.PackFull needed free) = Unit {0}
IsNoDiskFault error.DiskFault = ⊥
IsNoDiskFault error.Memory = Unit {0}

abbrev pub FaultOf : ScavError → Fault → Type 0
FaultOf e Disk = e ≡ error.DiskFault
FaultOf e Memory = IsNoDiskFault e
FaultOf e Key = ⊥
FaultOf e Display = ⊥

abbrev pub IsTextOf : Option Refusal → List ℕ → Type 0
IsTextOf None text = ⊥
IsTextOf (Some refusal) text = text ≡ refusal_text refusal

abbrev pub HasRefusal : ScavError → Result (Vec ℕ Global) Fault → Type 0
HasRefusal e (Ok text) = IsTextOf (refusal_in e) text.items
HasRefusal e (Err fault) = FaultOf e fault

-- ---- a scavenge, and the text that tells it
-- it is refused, or it was done by these record writes
abbrev pub IsRefused : Pack → Type 0
IsRefused p = (refusal : Refusal) × (first_refusal p ≡ Some refusal)

pub record IsMended (p : Pack) (writes : List Event) : Type 0 where
  pub taken : first_refusal p ≡ None
  pub ends : EndsIt p writes

-- the text that tells it, and the status then
abbrev pub text_in : Told → List ℕ
text_in (told.Report text) = text.items
text_in (told.Refusal text) = text.items

abbrev pub status_in : Told → Status
status_in (told.Report text) = status.Done
status_in (told.Refusal text) = status.CannotScavenge

-- it is told as what it was
abbrev pub IsToldOf : Pack → List Event → Told → Type 0
IsToldOf p writes (told.Report text) = IsMended p writes
IsToldOf p writes (told.Refusal text) = IsRefused p

abbrev pub TellsOf : Pack → List Event → Result Told Fault → Type 0
TellsOf p writes (Ok tells) = IsToldOf p writes tells × (text_in tells ≡ scavenge_text p)
TellsOf p writes (Err fault) = Unit {0}

-- The record writes, whatever is answered: those of a scavenge, none of a pack that is refused, and each crash point is safe. The first one
-- opens the mark as a session does. Each is of a label or a value in a sector that was usable: sector 0, sectors with a wrong header and all
-- headers stay.
pub record WritesScavenge (p : Pack) (writes : List Event) : Type 0 where
  pub does : ScavengeWrites p writes
  pub silent : (refusal : Refusal) → first_refusal p ≡ Some refusal → writes ≡ []
  pub safe : (k : ℕ) → IsSafe p writes k
  pub opens : OpensMark p writes
  pub frame : WritesIn (IsUsableSector p) writes

-- of a call that is given the disk alone
pub record ScavengesDisk (old new : Taped) (result : Result Told Fault) : Type 0 where
  pub writes : WritesScavenge (pack old) (added old new)
  pub tells : TellsOf (pack old) (added old new) result

-- ---- the call
-- the answers to `scavenge`
abbrev pub AnswersScavenge : Status → Type 0
AnswersScavenge status.Done = Unit {0}
AnswersScavenge status.Usage = ⊥
AnswersScavenge status.NeedsScavenge = ⊥
AnswersScavenge status.DiskFault = Unit {0}
AnswersScavenge status.KeyFault = ⊥
AnswersScavenge status.DisplayFault = Unit {0}
AnswersScavenge status.Memory = Unit {0}
AnswersScavenge status.CannotScavenge = Unit {0}

-- What an answer says of the record writes and of the bytes shown after them: Done of a scavenge that was done, CannotScavenge of a pack that is
-- refused, each with the whole text; DisplayFault of either; and nothing is shown where the disk failed or no memory was left.
abbrev pub TellsScavenge : Pack → List Event → List ℕ → Status → Type 0
TellsScavenge p writes shown status.Done = IsMended p writes × (shown ≡ scavenge_text p)
TellsScavenge p writes shown status.Usage = ⊥
TellsScavenge p writes shown status.NeedsScavenge = ⊥
TellsScavenge p writes shown status.DiskFault = shown ≡ []
TellsScavenge p writes shown status.KeyFault = ⊥
TellsScavenge p writes shown status.DisplayFault = IsMended p writes ⊎ IsRefused p
TellsScavenge p writes shown status.Memory = shown ≡ []
TellsScavenge p writes shown status.CannotScavenge = IsRefused p × (shown ≡ scavenge_text p)

-- On a machine that is modelled: record writes are done, of which each crash point is safe, also while the text is shown; then a prefix of the
-- text is shown; and what both are the answer says. At Done the pack is scavenged. One that can be is, unless a device fails or no memory is
-- left.
pub record ScavengesPack (old new : Taped) (answer : Status) : Type 0 where
  pub writes : List Event
  pub shown : List ℕ
  pub split : added old new ≡ writes ++ shown_events shown
  pub apart : shown_bytes writes ≡ []
  pub scavenge : WritesScavenge (pack old) writes
  pub some : IsFirstOf (shown_events (scavenge_text (pack old))) (shown_events shown)
  pub tells : TellsScavenge (pack old) writes shown answer
  pub leaves : answer ≡ status.Done → Scavenged (pack old) (pack new)
  pub safe : (k : ℕ) → IsSafe (pack old) (added old new) k
  pub complete : Scavengeable (pack old) → NoneRose old new → (answer ≡ status.Done) ⊎ (answer ≡ status.Memory)
