-- Histories as turns that are spoken one after another.
use Rattle.std.proofs.Common.{List, [], ◌∷◌, ◌++◌, Option}
use Rattle.laws_line.specs.disk_records.specs.declared.records.Event.{Event}
use Rattle.laws_line.specs.disk_records.specs.Packs.{Pack, after}
use Rattle.laws_line.specs.pack_model.specs.operations.Operations.{Move, weight_of}
use Rattle.laws_line.specs.pack_model.specs.reading.Model.{Model}
use Rattle.laws_line.specs.pack_model.specs.sessions.Meanings.{session, SessionCut}
use Rattle.laws_line.specs.pack_model.specs.sessions.Moves.{steps}
use Rattle.laws_line.specs.pack_model.specs.sessions.Turns.{Turn, Talks, spoken, begun as none_yet}
use Rattle.laws_line.specs.pack_laws.proofs.turns.Laws.{crash_of_turns, turns_are_shown}
use Rattle.laws_line.specs.pack_laws.proofs.tallies.Laws.{tally_is_the_ruler}
use Rattle.laws_session.specs.HistoryLaws.{IsTalk, HistoriesAreTurns, HistoriesAreShown, CrashesOfAHistory, TallyOfAHistory}
use Rattle.session_model.specs.Histories.{WholeTurn, BrokenTurn, TurnsOf, begun, then, HistoryOf, whole, broken, aloud}
use Rattle.session_model.specs.Turning.{State, Cue}

-- ---- a turn on what the earlier ones leave
speaks : (m : Model) {p : Pack} {t : State} {events more : List Event} {turns : List (Turn Move)} {cue : Cue} {made : Turn Move} {u : State} → Talks session m p events turns t.model → WholeTurn aloud (after p events) t cue more made u → Talks session m p (events ++ more) (turns ++ made ∷ []) u.model
speaks m {p} {t} {events} {more} {turns} {cue} {made} {u} so_far turn = rw (turn.run.split, turn.finished.model) (spoken made so_far turn.run.each)

breaks : (m : Model) {p : Pack} {t : State} {events more : List Event} {turns : List (Turn Move)} {cue : Cue} {made : Turn Move} → Talks session m p events turns t.model → BrokenTurn aloud (after p events) t cue more made → Talks session m p (events ++ more) (turns ++ made ∷ []) (steps session t.model made.ops)
breaks m {p} {t} {events} {more} {turns} {cue} {made} so_far turn = rw turn.run.split (spoken made so_far turn.run.each)

pub turns_talk : {p : Pack} {s : State} {events : List Event} {cues : List Cue} {turns : List (Turn Move)} {u : State} → SessionCut s.model p → TurnsOf aloud p s events cues turns u → Talks session s.model p events turns u.model
turns_talk start begun = none_yet start
turns_talk {s = s} start (then so_far turn) = speaks s.model (turns_talk start so_far) turn

-- ---- the laws
pub histories_are_turns : HistoriesAreTurns
histories_are_turns p s events cues turns end start h = by h where
  by : {events : List Event} {cues : List Cue} {turns : List (Turn Move)} {end : Option State} → HistoryOf aloud p s events cues turns end → IsTalk s.model p events turns
  by (whole {u = u} so_far) = record { model = u.model; talks = turns_talk start so_far }
  by (broken {t = t} {made = made} so_far turn) = record { model = steps session t.model made.ops; talks = breaks s.model (turns_talk start so_far) turn }

pub histories_are_shown : HistoriesAreShown
histories_are_shown p s events cues turns end start h =
    let t = histories_are_turns p s events cues turns end start h in
    let says = turns_are_shown session s.model t.model p events turns t.talks in record { shown = says.shown; writes = says.writes }

pub crashes_of_a_history : CrashesOfAHistory
crashes_of_a_history p s events cues turns end start h k =
    let t = histories_are_turns p s events cues turns end start h in
    crash_of_turns weight_of session s.model t.model p events turns t.talks k

pub tally_of_a_history : TallyOfAHistory
tally_of_a_history limit p s events cues turns end start h =
    let t = histories_are_turns p s events cues turns end start h in
    tally_is_the_ruler session s.model t.model p events turns limit t.talks
