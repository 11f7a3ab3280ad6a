-- The history of a session: its turns, one after another.
-- How a session and its turns are stated is this project's choice.
use Rattle.std.specs.Prelude.{◌≡◌, ℕ, zero, suc, Bool, false, List, [], ◌∷◌, ◌++◌, Option, Some, None}
use Rattle.exec_words.specs.disk_records.specs.declared.records.Event.{Event}
use Rattle.exec_words.specs.disk_records.specs.Events.{shown_events}
use Rattle.exec_words.specs.disk_records.specs.Packs.{Pack, after, crash}
use Rattle.exec_words.specs.pack_model.specs.hints.Links.{LinksTrue}
use Rattle.exec_words.specs.pack_model.specs.operations.Operations.{Move, weight_of}
use Rattle.exec_words.specs.pack_model.specs.operations.Operations.Move.{quiet, commits, mends}
use Rattle.exec_words.specs.pack_model.specs.reading.Model.{Model}
use Rattle.exec_words.specs.pack_model.specs.sessions.Meanings.{session}
use Rattle.exec_words.specs.pack_model.specs.sessions.Moves.{Obeys, steps}
use Rattle.exec_words.specs.pack_model.specs.sessions.Turns.{Turn, BrokeOff, ops_of, ruler}
use Rattle.exec_words.specs.pack_model.specs.showing.Settling.{settle, show}
use Rattle.exec_words.specs.pack_model.specs.showing.View.{view}
use Rattle.session_model.specs.Worlds.{World}
use Rattle.session_model.specs.Turning.{State, Cue, TurnKind, plain, failed, scavenged, TurnMade, IsTakenUp}

-- ---- one turn
-- The record writes of a turn make its moves, and then its text is shown as `says` has it: all of it, or none where a session shows one
-- summary.
pub record Run (says : List ℕ → List ℕ) (p : Pack) (s : State) (events : List Event) (made : Turn Move) : Type 0 where
  pub goes_on : s.over ≡ false
  pub wrote : List Event
  pub each : Obeys session s.model p wrote made.ops
  pub split : events ≡ wrote ++ shown_events (says made.text)

-- A whole turn.
pub record WholeTurn (says : List ℕ → List ℕ) (p : Pack) (s : State) (cue : Cue) (events : List Event) (made : Turn Move) (u : State) : Type 0 where
  pub run : Run says p s events made
  pub finished : TurnMade p s cue run.wrote made u

-- A turn that broke off; whole it would have been of one of the kinds.
pub record BrokenTurn (says : List ℕ → List ℕ) (p : Pack) (s : State) (cue : Cue) (events : List Event) (made : Turn Move) : Type 0 where
  pub run : Run says p s events made
  pub wanted : Turn Move
  pub world : World
  pub over : Bool
  pub kind : TurnKind p s cue run.wrote wanted world over
  pub off : BrokeOff made wanted

-- ---- one after another
-- From the pack p and the state s these events are these turns over these cues, and they leave the session in the last state.
pub data TurnsOf (says : List ℕ → List ℕ) (p : Pack) (s : State) : List Event → List Cue → List (Turn Move) → State → Type 0 where
  begun : TurnsOf says p s [] [] [] s
  then : {events more : List Event} {cues : List Cue} {turns : List (Turn Move)} {t u : State} {cue : Cue} {made : Turn Move} → TurnsOf says p s events cues turns t → WholeTurn says (after p events) t cue more made u → TurnsOf says p s (events ++ more) (cues ++ cue ∷ []) (turns ++ made ∷ []) u

-- The same where the last turn may have broken off; there is no state after it then.
pub data HistoryOf (says : List ℕ → List ℕ) (p : Pack) (s : State) : List Event → List Cue → List (Turn Move) → Option State → Type 0 where
  whole : {events : List Event} {cues : List Cue} {turns : List (Turn Move)} {u : State} → TurnsOf says p s events cues turns u → HistoryOf says p s events cues turns (Some u)
  broken : {events more : List Event} {cues : List Cue} {turns : List (Turn Move)} {t : State} {cue : Cue} {made : Turn Move} → TurnsOf says p s events cues turns t → BrokenTurn says (after p events) t cue more made → HistoryOf says p s (events ++ more) (cues ++ cue ∷ []) (turns ++ made ∷ []) None

-- a session whose texts are shown as they are, and one that shows none of them
abbrev pub aloud : List ℕ → List ℕ
aloud text = text

abbrev pub silently : List ℕ → List ℕ
silently text = []

-- what a turn that broke off has shown; nothing where none did
abbrev pub broken_text : {says : List ℕ → List ℕ} {p : Pack} {s : State} {events : List Event} {cues : List Cue} {turns : List (Turn Move)} {end : Option State} → HistoryOf says p s events cues turns end → List ℕ
broken_text (whole h) = []
broken_text {says = says} (broken {made = made} h turn) = says made.text

-- the turn that broke off has made all its moves, if one did
abbrev pub MadeAll : {says : List ℕ → List ℕ} {p : Pack} {s : State} {events : List Event} {cues : List Cue} {turns : List (Turn Move)} {end : Option State} → HistoryOf says p s events cues turns end → Type 0
MadeAll (whole h) = Unit {0}
MadeAll (broken {made = made} h turn) = made.ops ≡ turn.wanted.ops

-- the turn that broke off is over a line that isn't refused by itself, if one did
abbrev pub BrokenIsTakenUp : {says : List ℕ → List ℕ} {p : Pack} {s : State} {events : List Event} {cues : List Cue} {turns : List (Turn Move)} {end : Option State} → HistoryOf says p s events cues turns end → Type 0
BrokenIsTakenUp (whole h) = Unit {0}
BrokenIsTakenUp (broken {t = t} {cue = cue} h turn) = IsTakenUp t cue

-- ---- the model after so many operations
-- the moves before operation j + 1, with the ends of scavenges that stand there
abbrev pub moves_up_to : ℕ → List Move → List Move
moves_up_to j [] = []
moves_up_to j (quiet ∷ moves) = quiet ∷ moves_up_to j moves
moves_up_to j (mends n ∷ moves) = mends n ∷ moves_up_to j moves
moves_up_to zero (commits o ∷ moves) = []
moves_up_to (suc j) (commits o ∷ moves) = commits o ∷ moves_up_to j moves

abbrev pub model_after : Model → List (Turn Move) → ℕ → Model
model_after m turns j = steps session m (moves_up_to j (ops_of turns))

-- the crash after k events shows the model after as many operations as the ruler says there
abbrev pub ShowsRuled : Model → Pack → List Event → List (Turn Move) → ℕ → Type 0
ShowsRuled m p events turns k = show (crash p events k) ≡ settle (view (model_after m turns (ruler weight_of turns events k)))

-- ---- where no hint misled
abbrev pub IsUnfailed : {p : Pack} {s : State} {cue : Cue} {wrote : List Event} {made : Turn Move} {world : World} {over : Bool} → TurnKind p s cue wrote made world over → Type 0
IsUnfailed (plain asks) = Unit {0}
IsUnfailed (failed moves failing start) = ⊥
IsUnfailed (scavenged quiets n asks) = Unit {0}

-- no turn failed
abbrev pub NoneFailed : {says : List ℕ → List ℕ} {p : Pack} {s u : State} {events : List Event} {cues : List Cue} {turns : List (Turn Move)} → TurnsOf says p s events cues turns u → Type 0
NoneFailed begun = Unit {0}
NoneFailed (then so_far turn) = NoneFailed so_far × IsUnfailed turn.finished.kind

-- nor the one that broke off, if one did
abbrev pub NoneFailedIn : {says : List ℕ → List ℕ} {p : Pack} {s : State} {events : List Event} {cues : List Cue} {turns : List (Turn Move)} {end : Option State} → HistoryOf says p s events cues turns end → Type 0
NoneFailedIn (whole h) = NoneFailed h
NoneFailedIn (broken h turn) = NoneFailed h × IsUnfailed turn.kind

-- links and addresses are true as each turn begins
abbrev pub LinksTrueThroughout : {says : List ℕ → List ℕ} {p : Pack} {s u : State} {events : List Event} {cues : List Cue} {turns : List (Turn Move)} → TurnsOf says p s events cues turns u → Type 0
LinksTrueThroughout begun = Unit {0}
LinksTrueThroughout {p = p} (then {events = events} so_far turn) = LinksTrueThroughout so_far × LinksTrue (after p events)
