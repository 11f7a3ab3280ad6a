-- A line, by what its operations do to the pack, as the answer of a call.
use Rattle.std.specs.Prelude.{◌≡◌, ℕ, true, false, List, [], Option}
use Rattle.laws_line.specs.disk_records.specs.declared.records.Event.{Event}
use Rattle.laws_line.specs.disk_records.specs.declared.records.Page.{Page}
use Rattle.laws_line.specs.disk_records.specs.declared.records.Place.{Place}
use Rattle.laws_line.specs.disk_records.specs.Packs.{Pack}
use Rattle.laws_line.specs.pack_model.specs.operations.Operations.{Move}
use Rattle.laws_line.specs.pack_model.specs.sessions.Meanings.{session, SessionCut}
use Rattle.laws_line.specs.pack_model.specs.sessions.Moves.{IsStartOf, Obeys, steps}
use Rattle.session_model.specs.exec_words.specs.declared.line.Line.{Line}
use Rattle.session_model.specs.exec_words.specs.declared.reply.Refusal.TheVariants as refusal
use Rattle.session_model.specs.exec_words.specs.declared.reply.Reply.TheVariants as reply
use Rattle.laws_line.specs.EndLaws.{EndsSession}
use Rattle.laws_line.specs.SoundLines.{LineOnSound}
use Rattle.laws_line.specs.SoundParts.{BreaksOnSound}
use Rattle.session_model.specs.Answering.{Answered, plain_reply}
use Rattle.session_model.specs.Replies.{ops}
use Rattle.session_model.specs.Turning.{State, Cue, typed, StandsOn, HintFailing, cue_moves, cue_ops, cue_world, cue_files, closes, asks_scavenge, is_ended, IsTakenUp}
use Rattle.session_model.specs.Worlds.{failed_world}

-- ---- the states after a turn
-- after a plain one
abbrev pub plain_state : Pack → State → Cue → State
plain_state p s cue = record { model = steps session s.model (cue_moves p s cue); world = cue_world s cue; over = closes s cue }

-- after one whose hint failed
abbrev pub state_in_need : State → Cue → List Move → State
state_in_need s cue moves = record { model = steps session s.model moves; world = failed_world s.world; over = is_ended cue }

-- A line that goes on with the session, and asks for no scavenge.
pub record GoesOnWith (s : State) (l : Line) : Type 0 where
  pub stays : closes s (typed l) ≡ false
  pub asks : asks_scavenge s (typed l) ≡ false

-- ---- plain answers
-- a line without operations, or one that is refused, writes nothing
abbrev pub SilentLinesAnswer : Type 0
SilentLinesAnswer = (p : Pack) (s : State) (l : Line) → GoesOnWith s l → SessionCut s.model p → StandsOn p s → ops l s.model s.world ≡ [] → Answered p s (typed l) [] (plain_reply s (typed l)) (plain_state p s (typed l))

-- a line whose operations are all done on a sound pack
abbrev pub LinesOnASoundPackAnswer : Type 0
LinesOnASoundPackAnswer = (p : Pack) (s : State) (l : Line) (wrote : List Event) → GoesOnWith s l → s.world.need ≡ false → StandsOn p s → LineOnSound p wrote (ops l s.model s.world) → Answered p s (typed l) wrote (plain_reply s (typed l)) (plain_state p s (typed l))

-- ---- the end of a session: a `quit` that isn't refused, or the end of the keys
-- its last operations and closing, all done on a sound pack
abbrev pub EndsOnASoundPackAnswer : Type 0
EndsOnASoundPackAnswer = (p : Pack) (s : State) (cue : Cue) (wrote : List Event) → closes s cue ≡ true → s.world.need ≡ false → StandsOn p s → EndsSession p wrote (cue_ops s cue) → Answered p s cue wrote (plain_reply s cue) (plain_state p s cue)

-- nothing, where a scavenge is needed
abbrev pub EndsInNeedAnswer : Type 0
EndsInNeedAnswer = (p : Pack) (s : State) (cue : Cue) → closes s cue ≡ true → s.world.need ≡ true → SessionCut s.model p → Answered p s cue [] (plain_reply s cue) (plain_state p s cue)

-- ---- answers of turns that don't do all
-- What a prefix of the record writes of a turn may be answered: a fault, out of memory, or a hint that misled.
pub record PrefixAnswers (p : Pack) (s : State) (cue : Cue) (wrote : List Event) (moves : List Move) : Type 0 where
  pub fault : (u : State) → asks_scavenge s cue ≡ false → IsTakenUp s cue → Answered p s cue wrote reply.DiskFault u
  pub memory : (u : State) → asks_scavenge s cue ≡ false → Answered p s cue wrote reply.Memory u
  pub hint : (place : Place) (at : ℕ) (wanted : Page) (found : Option (List ℕ)) → HintFailing p wrote (cue_files s cue) place at wanted found → Answered p s cue wrote (reply.Refused (refusal.HintFailed place at wanted found)) (state_in_need s cue moves)

abbrev pub PrefixesAnswer : Type 0
PrefixesAnswer = (p : Pack) (s : State) (cue : Cue) (wrote : List Event) (moves : List Move) → Obeys session s.model p wrote moves → IsStartOf moves (cue_moves p s cue) → PrefixAnswers p s cue wrote moves

-- so it is of a line that broke off on a sound pack
abbrev pub BrokenLinesAnswer : Type 0
BrokenLinesAnswer = (p : Pack) (s : State) (l : Line) (wrote : List Event) → GoesOnWith s l → s.world.need ≡ false → StandsOn p s → (broken : BreaksOnSound p wrote (ops l s.model s.world)) → PrefixAnswers p s (typed l) wrote broken.moves
