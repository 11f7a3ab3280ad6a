-- Histories as turns one after another, and what each crash point of one is.
use Rattle.std.specs.Prelude.{◌≡◌, ℕ, List, length, Option}
use Rattle.laws_line.specs.disk_records.specs.declared.records.Event.{Event}
use Rattle.laws_line.specs.disk_records.specs.Events.{shown_bytes, writes_in}
use Rattle.laws_line.specs.disk_records.specs.Packs.{Pack}
use Rattle.laws_line.specs.pack_model.specs.operations.Operations.{Move, weight_of}
use Rattle.laws_line.specs.pack_model.specs.reading.Model.{Model}
use Rattle.laws_line.specs.pack_model.specs.sessions.Meanings.{session, SessionCut}
use Rattle.laws_line.specs.pack_model.specs.sessions.Turns.{CutAt, Talks, Turn, ops_of, texts_of}
use Rattle.laws_line.specs.pack_model.specs.showing.Settling.{settle}
use Rattle.laws_line.specs.pack_model.specs.showing.View.{View}
use Rattle.laws_line.specs.pack_laws.specs.TallyLaws.{RulesTurns}
use Rattle.session_model.specs.Histories.{HistoryOf, aloud, ShowsRuled}
use Rattle.session_model.specs.Turning.{State, Cue}

-- what holds of each history that shows its texts, from a pack that stands for the model
abbrev pub OfHistories : (State → Pack → List Event → List (Turn Move) → Type 0) → Type 0
OfHistories P = (p : Pack) (s : State) (events : List Event) (cues : List Cue) (turns : List (Turn Move)) (end : Option State) → SessionCut s.model p → HistoryOf aloud p s events cues turns end → P s p events turns

-- ---- turns, with the model after all of them, also after one that broke off
pub record IsTalk (m : Model) (p : Pack) (events : List Event) (turns : List (Turn Move)) : Type 0 where
  pub model : Model
  pub talks : Talks session m p events turns model

abbrev pub HistoriesAreTurns : Type 0
HistoriesAreTurns = OfHistories (λ s p events turns. IsTalk s.model p events turns)

-- the shown bytes are the texts, and there are as many record writes as moves
pub record SaysHistory (events : List Event) (turns : List (Turn Move)) : Type 0 where
  pub shown : shown_bytes events ≡ texts_of turns
  pub writes : writes_in events ≡ length (ops_of turns)

abbrev pub HistoriesAreShown : Type 0
HistoriesAreShown = OfHistories (λ s p events turns. SaysHistory events turns)

-- ---- crash points
-- each stands for the model after as many moves, can be mended, and has every acknowledged operation
abbrev pub CrashesOfAHistory : Type 0
CrashesOfAHistory = OfHistories (λ s p events turns. (k : ℕ) → CutAt weight_of session s.model p events turns k)

-- each shows the model after as many operations as the ruler says there
abbrev pub CrashesShowTheRuledModel : Type 0
CrashesShowTheRuledModel = OfHistories (λ s p events turns. (k : ℕ) → ShowsRuled s.model p events turns k)

-- settling again changes nothing
abbrev pub SettledOnceIsSettled : Type 0
SettledOnceIsSettled = (v : View) → settle (settle v) ≡ settle v

-- ---- the tally, from nothing, on a machine that had no record write: the number of operations, and the ruler at the limit
abbrev pub TallyOfAHistory : Type 0
TallyOfAHistory = (limit : ℕ) → OfHistories (λ s p events turns. RulesTurns events turns limit)
