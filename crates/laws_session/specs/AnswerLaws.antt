-- The answer of a call, and then its text, as a turn.
use Rattle.std.specs.Prelude.{◌≡◌, ℕ, false, List, ◌++◌}
use Rattle.laws_line.specs.disk_records.specs.declared.records.Event.{Event}
use Rattle.laws_line.specs.disk_records.specs.Events.{IsFirstOf, shown_events}
use Rattle.laws_line.specs.disk_records.specs.Packs.{Pack}
use Rattle.laws_line.specs.pack_model.specs.operations.Operations.{Move}
use Rattle.laws_line.specs.pack_model.specs.sessions.Meanings.{session}
use Rattle.laws_line.specs.pack_model.specs.sessions.Moves.{IsStartOf, Obeys}
use Rattle.laws_line.specs.pack_model.specs.sessions.Turns.{Turn}
use Rattle.session_model.specs.exec_words.specs.declared.reply.Reply.{Reply}
use Rattle.session_model.specs.exec_words.specs.declared.reply.Reply.TheVariants as reply
use Rattle.session_model.specs.exec_words.specs.Texts.{reply_text}
use Rattle.session_model.specs.Answering.{Answered, StopsEarly}
use Rattle.session_model.specs.Histories.{BrokenTurn, WholeTurn, aloud}
use Rattle.session_model.specs.Turning.{State, Cue, TurnMade, turn_of, cue_moves}

-- ---- a turn that is made, and its text
-- all of the text is shown, in any way
abbrev pub TextMakesATurn : Type 0
TextMakesATurn = (says : List ℕ → List ℕ) (p : Pack) (s : State) (cue : Cue) (wrote : List Event) (made : Turn Move) (u : State) → s.over ≡ false → Obeys session s.model p wrote made.ops → TurnMade p s cue wrote made u → WholeTurn says p s cue (wrote ++ shown_events (says made.text)) made u

-- A turn that broke off, and what it made.
pub record BreaksOff (p : Pack) (s : State) (cue : Cue) (events : List Event) : Type 0 where
  pub made : Turn Move
  pub turn : BrokenTurn aloud p s cue events made

-- One whose text broke off has made all its moves.
pub record TextBreaks (p : Pack) (s : State) (cue : Cue) (events : List Event) : Type 0 where
  pub broke : BreaksOff p s cue events
  pub all : broke.made.ops ≡ broke.turn.wanted.ops

-- a prefix of it is
abbrev pub TextBreaksOff : Type 0
TextBreaksOff = (p : Pack) (s : State) (cue : Cue) (wrote shown : List Event) (made : Turn Move) (u : State) → s.over ≡ false → Obeys session s.model p wrote made.ops → TurnMade p s cue wrote made u → IsFirstOf (shown_events made.text) shown → TextBreaks p s cue (wrote ++ shown)

-- a fault, or out of memory, before there is a text
abbrev pub CallBreaksOff : Type 0
CallBreaksOff = (p : Pack) (s : State) (cue : Cue) (wrote : List Event) (moves : List Move) → s.over ≡ false → StopsEarly s cue moves → Obeys session s.model p wrote moves → IsStartOf moves (cue_moves p s cue) → BreaksOff p s cue wrote

-- ---- an answer
-- the reply has a text of its own
abbrev pub HasText : Reply → Type 0
HasText (reply.Done text) = Unit {0}
HasText (reply.Refused r) = Unit {0}
HasText reply.Quit = Unit {0}
HasText reply.Scavenge = ⊥
HasText reply.DiskFault = ⊥
HasText reply.Memory = ⊥

-- What comes of an answer: with a text, a whole turn once all of it is shown, and one that broke off after all its moves where a prefix is;
-- with a fault or out of memory, one that broke off.
pub record AnswerTurns (p : Pack) (s : State) (cue : Cue) (wrote : List Event) (r : Reply) (u : State) (moves : List Move) : Type 0 where
  pub whole : HasText r → WholeTurn aloud p s cue (wrote ++ shown_events (reply_text r)) (turn_of moves (reply_text r)) u
  pub cut_short : HasText r → (shown : List Event) → IsFirstOf (shown_events (reply_text r)) shown → TextBreaks p s cue (wrote ++ shown)
  pub fault : r ≡ reply.DiskFault → BreaksOff p s cue wrote
  pub memory : r ≡ reply.Memory → BreaksOff p s cue wrote

abbrev pub AnswersAreTurns : Type 0
AnswersAreTurns = (p : Pack) (s : State) (cue : Cue) (wrote : List Event) (r : Reply) (u : State) → s.over ≡ false → (a : Answered p s cue wrote r u) → AnswerTurns p s cue wrote r u a.moves
