-- What a history leaves, as it goes on and at its end; and what one begins with.
use Rattle.std.specs.Prelude.{◌≡◌, ℕ, true, false, List, []}
use Rattle.laws_line.specs.disk_records.specs.declared.records.Event.{Event}
use Rattle.laws_line.specs.disk_records.specs.Packs.{Pack, after}
use Rattle.laws_line.specs.pack_model.specs.operations.Operations.{Move}
use Rattle.laws_line.specs.pack_model.specs.reading.Model.{Model, read_as}
use Rattle.laws_line.specs.pack_model.specs.sessions.Meanings.{session, SessionCut}
use Rattle.laws_line.specs.pack_model.specs.sessions.Moves.{Obeys, steps}
use Rattle.laws_line.specs.pack_model.specs.sessions.Turns.{Turn, ops_of}
use Rattle.laws_line.specs.pack_model.specs.states.Sound.{Sound, Clean}
use Rattle.laws_lookup.specs.HintLaws.{HasFullValues}
use Rattle.session_model.specs.exec_words.specs.declared.line.Line.{Line}
use Rattle.session_model.specs.Histories.{LinksTrueThroughout, NoneFailed, TurnsOf, begun, then, aloud}
use Rattle.session_model.specs.Keeping.{Kept, Keeping}
use Rattle.session_model.specs.Replies.{next}
use Rattle.session_model.specs.Turning.{State, Cue, StandsOn, opening}
use Rattle.session_model.specs.Worlds.{World, failed_world}

-- ---- the beginning: a sound pack stands for what is read of it
abbrev pub SoundPacksBegin : Type 0
SoundPacksBegin = (p : Pack) (moment : ℕ) → Sound p → StandsOn p (opening p moment) × SessionCut (opening p moment).model p

-- ---- as it goes on
-- the state after some turns stands on the pack that they leave
abbrev pub TurnsStand : Type 0
TurnsStand = (says : List ℕ → List ℕ) (p : Pack) (s u : State) (events : List Event) (cues : List Cue) (turns : List (Turn Move)) → StandsOn p s → TurnsOf says p s events cues turns u → StandsOn (after p events) u

-- What is kept after a hint failed: the moment, the level and the memory, no stream, and the need of a scavenge. Of the rest nothing is
-- asked.
pub record KeptInNeed (one two : Kept) : Type 0 where
  pub moment : two.moment ≡ one.moment
  pub level : two.level ≡ one.level
  pub memory : two.memory ≡ one.memory
  pub streams : two.streams ≡ []
  pub need : two.need ≡ true

abbrev pub failed_state : State → List Move → State
failed_state s moves = record { model = steps session s.model moves; world = failed_world s.world; over = false }

abbrev pub FailedTurnsKeep : Type 0
FailedTurnsKeep = (p : Pack) (k : Kept) (s : State) (wrote : List Event) (moves : List Move) (two : Kept) → Keeping p k s → KeptInNeed k two → Obeys session s.model p wrote moves → Keeping (after p wrote) two (failed_state s moves)

-- no line changes whether a scavenge is needed
abbrev pub LinesKeepNeed : Type 0
LinesKeepNeed = (l : Line) (m : Model) (w : World) → (next l m w).need ≡ w.need

-- ---- the end
-- The pack is sound and clean, and read as the last model, which is the one after all moves.
pub record LeavesClosed (q : Pack) (m n : Model) (turns : List (Turn Move)) : Type 0 where
  pub sound : Sound q
  pub clean : Clean q
  pub reads : read_as q ≡ n
  pub model : n ≡ steps session m (ops_of turns)

abbrev pub SessionsLeaveClosed : Type 0
SessionsLeaveClosed = (p : Pack) (s u : State) (events : List Event) (cues : List Cue) (turns : List (Turn Move)) → SessionCut s.model p → StandsOn p s → s.over ≡ false → TurnsOf aloud p s events cues turns u → u.over ≡ true → u.world.need ≡ false
    → LeavesClosed (after p events) s.model u.model turns

-- ---- true hints
-- each page's value has 256 words as each turn begins, as on every machine
abbrev pub FullThroughout : {says : List ℕ → List ℕ} {p : Pack} {s u : State} {events : List Event} {cues : List Cue} {turns : List (Turn Move)} → TurnsOf says p s events cues turns u → Type 0
FullThroughout begun = Unit {0}
FullThroughout {p = p} (then {events = events} so_far turn) = FullThroughout so_far × HasFullValues (after p events)

-- where links and addresses are true as each turn begins, no turn fails, and no scavenge is needed then
abbrev pub NoneFailsWithTrueLinks : Type 0
NoneFailsWithTrueLinks = (says : List ℕ → List ℕ) (p : Pack) (s u : State) (events : List Event) (cues : List Cue) (turns : List (Turn Move)) → StandsOn p s → s.world.need ≡ false → (h : TurnsOf says p s events cues turns u) → FullThroughout h → LinksTrueThroughout h
    → NoneFailed h × (u.world.need ≡ false)
