-- A scavenge as a turn of a session.
use Rattle.std.specs.Prelude.{◌≡◌, ℕ, true, false, List, [], ◌∷◌, ◌++◌, length}
use Rattle.laws_line.specs.disk_records.specs.declared.records.Event.{Event}
use Rattle.laws_line.specs.disk_records.specs.declared.records.Event.TheVariants.{Wrote}
use Rattle.laws_line.specs.disk_records.specs.Events.{shown_bytes}
use Rattle.laws_line.specs.disk_records.specs.Packs.{Pack, after}
use Rattle.laws_line.specs.pack_model.specs.hints.Tables.{HintsTrue}
use Rattle.laws_line.specs.pack_model.specs.operations.Committing.{units, EndsScavenge}
use Rattle.laws_line.specs.pack_model.specs.operations.Operations.{Move, quiet_moves}
use Rattle.laws_line.specs.pack_model.specs.reading.Model.{Model, read_as}
use Rattle.laws_line.specs.pack_model.specs.scavenger.Reports.{report_of, Scavenged}
use Rattle.laws_line.specs.pack_model.specs.scavenger.Scavenging.{Mends, Throughout}
use Rattle.laws_line.specs.pack_model.specs.sessions.Meanings.{session, SessionCut}
use Rattle.laws_line.specs.pack_model.specs.sessions.Moves.{IsStartOf, Obeys}
use Rattle.laws_line.specs.pack_model.specs.sessions.Turns.{Turn}
use Rattle.laws_line.specs.pack_model.specs.showing.Settling.{settle}
use Rattle.laws_line.specs.pack_model.specs.showing.View.{view}
use Rattle.laws_line.specs.pack_model.specs.states.Sound.{Sound}
use Rattle.session_model.specs.exec_words.specs.Texts.{report_text}
use Rattle.session_model.specs.Histories.{WholeTurn}
use Rattle.session_model.specs.Turning.{State, Cue, TurnMade, turn_of, scavenge_moves, asks_scavenge}
use Rattle.session_model.specs.Worlds.{mended_world}
use Rattle.laws_session.specs.AnswerLaws.{BreaksOff}

-- ---- its record writes
-- what a scavenge keeps at each crash point, a session's crash points keep
abbrev pub CrashesOfAScavenge : Type 0
CrashesOfAScavenge = (m : Model) (p q : Pack) → SessionCut m p → Mends p q → SessionCut m q

-- record writes that keep it are quiet
abbrev pub QuietWritesObey : Type 0
QuietWritesObey = (m : Model) (p : Pack) (events : List Event) → shown_bytes events ≡ [] → Throughout (SessionCut m) p events → Obeys session m p events (quiet_moves (units (length events)))

-- and then the last one, which ends it
abbrev pub ScavengesObey : Type 0
ScavengesObey = (m n : Model) (p : Pack) (events : List Event) (at part : ℕ) (words : List ℕ) → let q : Pack = after (after p events) (Wrote at part words ∷ []) in
    shown_bytes events ≡ [] → Throughout (SessionCut m) p events → SessionCut m (after p events) → EndsScavenge (after p events) q n → SessionCut n q → Obeys session m p (events ++ Wrote at part words ∷ []) (scavenge_moves (length events) n)

-- ---- the turn
-- it goes on with the model of the mended pack
abbrev pub mended_state : State → Model → State
mended_state s n = record { model = n; world = mended_world s.world; over = false }

abbrev pub ScavengesAreTurns : Type 0
ScavengesAreTurns = (p : Pack) (s : State) (cue : Cue) (wrote : List Event) (k : ℕ) (n : Model) → asks_scavenge s cue ≡ true → Scavenged p (after p wrote) → read_as (after p wrote) ≡ n → TurnMade p s cue wrote (turn_of (scavenge_moves k n) (report_text (report_of p))) (mended_state s n)

-- One without an answer broke off, after any prefix of its moves, all of them too.
abbrev pub ScavengesBreakOff : Type 0
ScavengesBreakOff = (p : Pack) (s : State) (cue : Cue) (wrote : List Event) (k : ℕ) (n : Model) (moves : List Move) → s.over ≡ false → asks_scavenge s cue ≡ true → IsStartOf moves (scavenge_moves k n) → Obeys session s.model p wrote moves → BreaksOff p s cue wrote

-- After a scavenge that wasn't refused the pack is sound and read as the new model, which is viewed as what was shown before, so that no
-- file is lost; no hint misleads, and no scavenge is needed.
pub record Cured (q : Pack) (s u : State) : Type 0 where
  pub sound : Sound q
  pub reads : read_as q ≡ u.model
  pub views : view u.model ≡ settle (view s.model)
  pub hints : HintsTrue q
  pub need : u.world.need ≡ false

abbrev pub ScavengesCure : Type 0
ScavengesCure = (says : List ℕ → List ℕ) (p : Pack) (s u : State) (cue : Cue) (events : List Event) (made : Turn Move) → WholeTurn says p s cue events made u → asks_scavenge s cue ≡ true → Cured (after p events) s u
