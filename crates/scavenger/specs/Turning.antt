-- A scavenge that a line of a session asks for, as the turn over that line.
use Rattle.std.specs.Prelude.{◌≡◌, ℕ, true, false, List, [], Result, IfOk}
use Rattle.disk_records.specs.declared.records.Event.{Event}
use Rattle.disk_records.specs.Events.{shown_bytes}
use Rattle.disk_records.specs.Packs.{Pack, after}
use Rattle.disk_records.specs.Tapes.{Taped, added, pack}
use Rattle.pack_model.specs.reading.Model.{read_as}
use Rattle.pack_model.specs.sessions.Meanings.{SessionCut, session}
use Rattle.pack_model.specs.sessions.Moves.{Obeys}
use Rattle.pack_model.specs.states.Sound.{Sound}
use Rattle.laws_session.specs.session_model.specs.exec_words.specs.declared.line.Line.TheVariants as line
use Rattle.laws_session.specs.session_model.specs.exec_words.specs.Texts.{report_text}
use Rattle.laws_session.specs.session_model.specs.Turning.{Cue, State, TurnMade, asks_scavenge, opening, scavenge_moves, turn_of, typed}
use Rattle.laws_session.specs.AnswerLaws.{BreaksOff}
use Rattle.laws_session.specs.ScavengeLaws.{mended_state}
use Rattle.scavenger.specs.declared.errors.Report.{Report}
use Rattle.scavenger.specs.declared.errors.ScavError.{ScavError}
use Rattle.scavenger.specs.Answers.{report_in}
use Rattle.scavenger.specs.Scavenges.{IsUnrefused, Scavenges}

-- The session isn't over, the line asks for a scavenge, and the pack stands for the model of the session.
pub record AsksOn (p : Pack) (s : State) (cue : Cue) : Type 0 where
  pub goes_on : s.over ≡ false
  pub asks : asks_scavenge s cue ≡ true
  pub cut : SessionCut s.model p

-- These record writes are the moves of the whole turn, whose text tells the report; after it the session has the model of the mended pack.
pub record IsWholeScavenge (p : Pack) (s : State) (cue : Cue) (wrote : List Event) (report : Report) : Type 0 where
  pub quiets : ℕ
  pub each : Obeys session s.model p wrote (scavenge_moves quiets (read_as (after p wrote)))
  pub made : TurnMade p s cue wrote (turn_of (scavenge_moves quiets (read_as (after p wrote))) (report_text (report_in report))) (mended_state s (read_as (after p wrote)))

-- At Ok the turn is made, up to its text; the pack isn't refused; and whatever is answered, the turn broke off there if nothing is shown.
pub record IsTurnOf (p : Pack) (s : State) (cue : Cue) (wrote : List Event) (result : Result Report ScavError) : Type 0 where
  pub done : IfOk result (IsWholeScavenge p s cue wrote)
  pub unrefused : IsUnrefused result
  pub broke : BreaksOff p s cue wrote

abbrev pub ScavengeIsATurn : Type 0
ScavengeIsATurn = (old new : Taped) (s : State) (cue : Cue) (result : Result Report ScavError) → AsksOn (pack old) s cue → shown_bytes (added old new) ≡ [] → Scavenges old new result → IsTurnOf (pack old) s cue (added old new) result

-- so it may be with the first line of a session on a sound pack
abbrev pub FirstLineMayScavenge : Type 0
FirstLineMayScavenge = (p : Pack) (moment : ℕ) → Sound p → AsksOn p (opening p moment) (typed line.Scavenge)
