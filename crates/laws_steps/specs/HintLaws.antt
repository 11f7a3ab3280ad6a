-- Hints on the disk: the files that they mean, and one hint over a part of a line.
use Rattle.std.specs.Prelude.{List, Option, false, true, ℕ, ◌++◌, ◌≡◌}
use Rattle.laws_call.specs.alto_words.specs.Fid.{is_fid}
use Rattle.laws_call.specs.alto_words.specs.declared.fid.Fid.{Fid}
use Rattle.laws_call.specs.disk_records.specs.Packs.{Pack, after}
use Rattle.laws_call.specs.disk_records.specs.declared.records.Event.{Event}
use Rattle.laws_call.specs.disk_records.specs.declared.records.Page.{Page}
use Rattle.laws_call.specs.disk_records.specs.declared.records.Place.{Place}
use Rattle.laws_call.specs.laws_lookup.specs.StayLaws.{MisledBefore}
use Rattle.laws_call.specs.laws_operation.specs.LifeLaws.{MayDrop}
use Rattle.laws_call.specs.pack_model.specs.hints.Misled.{AnswersMisled, IsOnDisk, Misled, StandsAt}
use Rattle.laws_call.specs.pack_model.specs.operations.Operations.{release_file_writes}
use Rattle.laws_call.specs.pack_model.specs.reading.Files.{lives}
use Rattle.laws_call.specs.pack_model.specs.reading.Sights.{sights}
use Rattle.laws_call.specs.pack_model.specs.states.Whole.{Tidy, Whole}

-- ---- the files that are meant
-- on a whole and tidy pack each entry and each next link means a page of a file that lives: no hint means one of a file to come
abbrev pub NoHintMeansAnAbsentFile : Type 0
NoHintMeansAnAbsentFile = (p : Pack) (place : Place) (at : ℕ) (wanted : Page) → Whole p → Tidy p → IsOnDisk place → StandsAt p place at wanted → lives (sights p) wanted.fid ≡ true

-- ---- one hint
-- this one, if it misleads after these record writes, misled before them
abbrev pub OneMisledBefore : Pack → List Event → Place → ℕ → Page → Type 0
OneMisledBefore p events place at wanted = Misled (after p events) place at wanted → Misled p place at wanted

-- so it did before two lists of record writes, if it did so over each of them
abbrev pub OneLaterMisledBefore : Type 0
OneLaterMisledBefore = (p : Pack) (a b : List Event) (place : Place) (at : ℕ) (wanted : Page) → OneMisledBefore p a place at wanted → OneMisledBefore (after p a) b place at wanted → OneMisledBefore p (a ++ b) place at wanted

-- a call that answers after the record writes of earlier ones that it misled answers so for the line as a whole
abbrev pub OneLaterAnswerMisledBefore : Type 0
OneLaterAnswerMisledBefore = (p : Pack) (a b : List Event) (place : Place) (at : ℕ) (wanted : Page) (found : Option (List ℕ))
    → OneMisledBefore p a place at wanted → Whole (after p a) → AnswersMisled (after p a) b place at wanted found → AnswersMisled p (a ++ b) place at wanted found

-- ---- between the two calls of a drop
-- each hint for another file than this one, if it misleads after these record writes, misled before them
abbrev pub OthersMisledBefore : Fid → Pack → List Event → Type 0
OthersMisledBefore f p events = (place : Place) (at : ℕ) (wanted : Page) → IsOnDisk place → is_fid wanted.fid f ≡ false → OneMisledBefore p events place at wanted

-- so it is once the sectors of this one are released, after calls over which each hint did so: its entry alone may mislead now
abbrev pub ReleasedOthersMisledBefore : Type 0
ReleasedOthersMisledBefore = (p : Pack) (events : List Event) (f : Fid) (at : ℕ) (pages : List ℕ)
    → MisledBefore p events → Whole (after p events) → Tidy (after p events) → MayDrop (after p events) f at pages → OthersMisledBefore f p (events ++ release_file_writes at pages)

-- and a call that answers there that a hint for another file misled answers so for the line as a whole
abbrev pub ReleasedAnswerMisledBefore : Type 0
ReleasedAnswerMisledBefore = (p : Pack) (events later : List Event) (f : Fid) (at : ℕ) (pages : List ℕ) (place : Place) (bt : ℕ) (wanted : Page) (found : Option (List ℕ))
    → MisledBefore p events → Whole (after p events) → Tidy (after p events) → MayDrop (after p events) f at pages → is_fid wanted.fid f ≡ false
    → AnswersMisled (after p (events ++ release_file_writes at pages)) later place bt wanted found → AnswersMisled p ((events ++ release_file_writes at pages) ++ later) place bt wanted found
