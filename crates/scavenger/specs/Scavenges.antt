-- What a scavenge says of a machine that is modelled.
use Rattle.std.specs.Prelude.{◌≡◌, ℕ, ◌<◌, List, [], take, Some, None, Result, Ok, Err, OnOk, IfOk}
use Rattle.disk_records.specs.declared.records.Event.{Event}
use Rattle.disk_records.specs.Events.{writes_in}
use Rattle.disk_records.specs.Packs.{Pack, crash}
use Rattle.disk_records.specs.Tapes.{Taped, added, pack}
use Rattle.pack_model.specs.reading.Sights.{sights}
use Rattle.pack_model.specs.scavenger.Reports.{adopted_files, freed_sectors}
use Rattle.pack_model.specs.scavenger.Scavenging.{Refusal, Scavengeable, first_refusal}
use Rattle.pack_model.specs.showing.Settling.{show}
use Rattle.pack_model.specs.states.Sound.{Clean, Sound}
use Rattle.scavenger.specs.declared.counts.Counts.{Counts}
use Rattle.scavenger.specs.declared.errors.Report.{Report}
use Rattle.scavenger.specs.declared.errors.ScavError.{ScavError}
use Rattle.scavenger.specs.Answers.{Answers, refusal_in, report_in}
use Rattle.scavenger.specs.Runs.{EndsIt, OpensMark, ScavengeWrites}

-- ---- crash points
-- At the crash point after k of the events: what is shown is as before; a pack that could be scavenged can be; with a record write it is
-- clean only if it is sound.
pub record IsSafe (p : Pack) (events : List Event) (k : ℕ) : Type 0 where
  pub shown : show (crash p events k) ≡ show p
  pub scavengeable : Scavengeable p → Scavengeable (crash p events k)
  pub clean : 0 < writes_in (take k events) → Clean (crash p events k) → Sound (crash p events k)

-- ---- the call
-- The answer is that of the pack; a pack that is refused isn't written; every crash point is safe; the mark is opened first, as a session does it;
-- the record writes are those of a scavenge, at Ok all of them.
pub record Scavenges (old new : Taped) (result : Result Report ScavError) : Type 0 where
  pub answers : Answers (pack old) result
  pub silent : (r : Refusal) → first_refusal (pack old) ≡ Some r → added old new ≡ []
  pub safe : (k : ℕ) → IsSafe (pack old) (added old new) k
  pub opens : OpensMark (pack old) (added old new)
  pub writes : ScavengeWrites (pack old) (added old new)
  pub done : OnOk result (EndsIt (pack old) (added old new))

-- no refusal is answered
abbrev pub IsUnrefused : Result Report ScavError → Type 0
IsUnrefused (Ok report) = Unit {0}
IsUnrefused (Err error) = refusal_in error ≡ None

-- Its work on a pack that can be scavenged, of which these are the counts, and of which so many sectors are bad.
pub record MendsAll (counts : Counts) (bad : ℕ) (old new : Taped) (result : Result Report ScavError) : Type 0 where
  pub opens : OpensMark (pack old) (added old new)
  pub writes : ScavengeWrites (pack old) (added old new)
  pub done : OnOk result (EndsIt (pack old) (added old new))
  pub unrefused : IsUnrefused result
  pub report : IfOk result (λ report. report_in report ≡ record { files = counts.files; freed = freed_sectors (pack old).shape (sights (pack old)); bad = bad; adopted = adopted_files (pack old) })
