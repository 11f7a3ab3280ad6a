-- The calls of a session one after another, and true hints from its beginning to its end.
use Rattle.std.specs.Prelude.{◌≡◌, ℕ, true, false, List, [], Option, Some}
use Rattle.laws_line.specs.disk_records.specs.Packs.{Pack}
use Rattle.laws_line.specs.disk_records.specs.Tapes.{Taped, added, pack}
use Rattle.laws_line.specs.disk_records.specs.declared.records.Event.{Event}
use Rattle.laws_line.specs.disk_records.specs.declared.records.Page.{Page}
use Rattle.laws_line.specs.disk_records.specs.declared.records.Place.{Place}
use Rattle.session_model.specs.exec_words.specs.declared.line.Line.{Line}
use Rattle.session_model.specs.exec_words.specs.declared.reply.Refusal.TheVariants as refusal
use Rattle.session_model.specs.exec_words.specs.declared.reply.Reply.{Reply}
use Rattle.session_model.specs.exec_words.specs.declared.reply.Reply.TheVariants as reply
use Rattle.laws_line.specs.pack_model.specs.hints.Tables.{HintsTrue}
use Rattle.laws_line.specs.pack_model.specs.hints.Truth.{Truthful}
use Rattle.laws_line.specs.pack_model.specs.operations.Operations.{Move}
use Rattle.laws_line.specs.pack_model.specs.reading.Model.{Model}
use Rattle.session_model.specs.Answering.{Answers, IsAnswer, ReadsOnly, Replied, TakesTurn}
use Rattle.session_model.specs.Histories.{IsUnfailed}
use Rattle.session_model.specs.Keeping.{Kept, Keeping}
use Rattle.session_model.specs.Opening.{Begun, Renewed, goes_on}
use Rattle.session_model.specs.Replies.{refusal as refusal_to}
use Rattle.session_model.specs.Turning.{State, Cue, HintFailing, cue_files, opening}
use Rattle.session_model.specs.Worlds.{World, failed_world}
use Rattle.laws_lookup.specs.HintLaws.{HasFullValues}

-- ---- calls
-- From a machine, what is kept and the state of a session, to those after some calls. Each begins on the pack that the one before it left,
-- whatever was shown and typed between them, while the session isn't over. It takes a turn and answers, neither with a fault nor out of
-- memory; or it reads only; or the session goes on after a scavenge that it asked for.
pub data Calls (first : Taped) (k : Kept) (s : State) : Taped → Kept → State → Type 0 where
  uncalled : Calls first k s first k s
  takes : {last old new : Taped} {one two : Kept} {t : State} {cue : Cue} {r : Reply} → Calls first k s last one t → pack old ≡ pack last → t.over ≡ false → (turn : TakesTurn old new one two t cue r) → IsAnswer r → Calls first k s new two turn.state
  reads : {last old new : Taped} {one two : Kept} {t : State} {l : Line} → Calls first k s last one t → pack old ≡ pack last → t.over ≡ false → ReadsOnly old new one two t l → Calls first k s new two t
  renews : {last new : Taped} {one two : Kept} {t : State} → Calls first k s last one t → t.over ≡ false → t.world.streams ≡ [] → Renewed (pack new) one two → Calls first k s new two (goes_on (pack new) t)

-- what is kept is right after them, until the session is over
abbrev pub CallsKeep : Type 0
CallsKeep = (first last : Taped) (k kept : Kept) (s t : State) → Keeping (pack first) k s → Calls first k s last kept t → t.over ≡ false → Keeping (pack last) kept t

-- ---- true hints
-- Links and the table are true while the session goes on, and all hints are once it is over, where no scavenge is needed.
pub record TrueAfterCalls (last : Taped) (kept : Kept) (t : State) : Type 0 where
  pub between : t.over ≡ false → Truthful (pack last) kept.busy
  pub closed : t.over ≡ true → t.world.need ≡ false → HintsTrue (pack last)

-- so it is if they were true as it began
abbrev pub HintsStayTrue : Type 0
HintsStayTrue = (first last : Taped) (k kept : Kept) (s t : State) → s.over ≡ false → Truthful (pack first) k.busy → Calls first k s last kept t → TrueAfterCalls last kept t

-- ---- hints that failed
-- no line is refused by the model for a hint
abbrev pub RefusalsNameNoHint : Type 0
RefusalsNameNoHint = (l : Line) (m : Model) (w : World) (place : Place) (at : ℕ) (wanted : Page) (found : Option (List ℕ)) → refusal_to l m w ≡ Some (refusal.HintFailed place at wanted found) → ⊥

-- so an answer that names one says that it misled, and a scavenge is needed then
abbrev pub AnswersNameAFailedHint : Type 0
AnswersNameAFailedHint = (p : Pack) (s u : State) (cue : Cue) (wrote : List Event) (moves : List Move) (place : Place) (at : ℕ) (wanted : Page) (found : Option (List ℕ))
    → Replied p s cue wrote moves (reply.Refused (refusal.HintFailed place at wanted found)) u → HintFailing p wrote (cue_files s cue) place at wanted found × (u.world ≡ failed_world s.world)

-- ---- where no turn failed
abbrev pub IsUnfailedAnswer : (p : Pack) (s : State) (cue : Cue) (wrote : List Event) (moves : List Move) (u : State) (r : Reply) → Answers p s cue wrote moves r u → Type 0
IsUnfailedAnswer p s cue wrote moves u (reply.Done text) answers = IsUnfailed answers.made.kind
IsUnfailedAnswer p s cue wrote moves u (reply.Refused r) answers = IsUnfailed answers.made.kind
IsUnfailedAnswer p s cue wrote moves u reply.Quit answers = IsUnfailed answers.made.kind
IsUnfailedAnswer p s cue wrote moves u reply.Scavenge answers = Unit {0}
IsUnfailedAnswer p s cue wrote moves u reply.DiskFault answers = Unit {0}
IsUnfailedAnswer p s cue wrote moves u reply.Memory answers = Unit {0}

-- none since the last scavenge, or at all where there was none
abbrev pub NoneFails : {first : Taped} {k : Kept} {s : State} {last : Taped} {kept : Kept} {t : State} → Calls first k s last kept t → Type 0
NoneFails uncalled = Unit {0}
NoneFails (takes {old = old} {new = new} {t = t} {cue = cue} {r = r} so_far same going turn answer) = NoneFails so_far × IsUnfailedAnswer (pack old) t cue (added old new) turn.answered.moves turn.state r turn.answered.answers
NoneFails (reads so_far same going read) = NoneFails so_far
NoneFails (renews so_far going closed renewed) = Unit {0}

-- then no scavenge is needed, where none was as it began
abbrev pub CallsKeepNeed : Type 0
CallsKeepNeed = (first last : Taped) (k kept : Kept) (s t : State) → s.world.need ≡ false → (calls : Calls first k s last kept t) → NoneFails calls → t.world.need ≡ false

-- each page's value has 256 words as each turn begins, as on every machine
abbrev pub FullAtCalls : {first : Taped} {k : Kept} {s : State} {last : Taped} {kept : Kept} {t : State} → Calls first k s last kept t → Type 0
FullAtCalls uncalled = Unit {0}
FullAtCalls (takes {old = old} so_far same going turn answer) = FullAtCalls so_far × HasFullValues (pack old)
FullAtCalls (reads so_far same going read) = FullAtCalls so_far
FullAtCalls (renews so_far going closed renewed) = FullAtCalls so_far

-- and where hints are true as it begins no turn fails
abbrev pub TrueHintsFailNoCall : Type 0
TrueHintsFailNoCall = (first last : Taped) (k kept : Kept) (s t : State) → Keeping (pack first) k s → s.world.need ≡ false → Truthful (pack first) k.busy → (calls : Calls first k s last kept t) → FullAtCalls calls → NoneFails calls

-- ---- a whole session
-- of a pack whose hints are true as it begins: they are true when it is over, and with the table until then
pub record EndsTrue (last : Taped) (kept : Kept) (t : State) : Type 0 where
  pub between : t.over ≡ false → Truthful (pack last) kept.busy
  pub hints : t.over ≡ true → HintsTrue (pack last)

abbrev pub SessionsEndWithTrueHints : Type 0
SessionsEndWithTrueHints = (first last : Taped) (k kept : Kept) (moment limit : ℕ) (t : State) → Begun (pack first) k moment limit → HintsTrue (pack first) → (calls : Calls first k (opening (pack first) moment) last kept t) → NoneFails calls → EndsTrue last kept t
