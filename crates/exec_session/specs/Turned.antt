-- What a line owes as a turn, and how a line is answered that writes nothing.
-- How the turn of a line is put together is this project's choice.
use Rattle.std.specs.Prelude.{◌≡◌, ◌-◌, false, All, List, [], Some, Err}
use Rattle.disk_records.specs.Packs.{Pack}
use Rattle.disk_records.specs.Tapes.{DiskAlone, Taped, added, pack}
use Rattle.exec_words.specs.declared.line.Line.{Line}
use Rattle.exec_words.specs.declared.reply.Refusal.{Refusal}
use Rattle.exec_words.specs.declared.reply.Reply.{Reply}
use Rattle.exec_words.specs.declared.reply.Reply.TheVariants as reply
use Rattle.directory.specs.laws_lookup.specs.HintLaws.{HasFullValues}
use Rattle.laws_session.specs.LineAnswers.{GoesOnWith}
use Rattle.laws_session.specs.StreamLaws.{StreamsFit}
use Rattle.pack_model.specs.hints.Sources.{IsFrom}
use Rattle.pack_model.specs.hints.Tables.{TableTrue}
use Rattle.pack_model.specs.hints.Truth.{Truthful}
use Rattle.pack_model.specs.operations.Step.{Operation}
use Rattle.pack_model.specs.sessions.Tallies.{counted}
use Rattle.session_model.specs.Answering.{Answered, IsAnswer, NoneRefused, TakesTurn, TellsWrites, plain_reply}
use Rattle.session_model.specs.Bounds.{AllHandy, RunsWithin}
use Rattle.session_model.specs.Keeping.{Kept, Keeping, world_of}
use Rattle.session_model.specs.Replies.{next, ops, refusal}
use Rattle.session_model.specs.Turning.{HintFailing, IsTakenUp, State, cue_files, typed}
use Rattle.exec_session.specs.Meant.{IfHint, IfRefused, kept_stopped, stopped}
use Rattle.exec_session.specs.declared.stop.Stop.{Stop}

-- ---- as a line begins
-- It isn't refused by itself, no scavenge is needed, and it goes on with the session; what is kept is right for the pack and the state; and
-- each page has a value of 256 words, as on every modelled machine.
pub record Begins (old : Taped) (one : Kept) (s : State) (l : Line) : Type 0 where
  pub keeping : Keeping (pack old) one s
  pub unneeded : one.need ≡ false
  pub stays : GoesOnWith s l
  pub taken_up : IsTakenUp s (typed l)
  pub full : HasFullValues (pack old)

-- the operations of the line
abbrev pub line_ops : State → Line → List Operation
line_ops s l = ops l s.model s.world

-- ---- what a turn owes, except its sector commands
pub record Turned (old new : Taped) (one two : Kept) (s : State) (l : Line) (r : Reply) : Type 0 where
  pub state : State
  pub goes_on : state.over ≡ false
  pub answered : Answered (pack old) s (typed l) (added old new) r state
  pub need : IsAnswer r → two.need ≡ state.world.need
  pub keeping : IsAnswer r → Keeping (pack new) two state
  pub tally : TellsWrites r new → two.tally ≡ counted old.writes answered.moves one.tally
  pub truthful : Truthful (pack old) one.busy → IsAnswer r → Truthful (pack new) two.busy

-- few of these, where hints are handy and the cache refused no address
abbrev pub FewRuns : Taped → Taped → Kept → Kept → State → Line → Reply → Type 0
FewRuns old new one two s l r = AllHandy (pack old) one.busy one.cache (cue_files s (typed l)) → NoneRefused one two → RunsWithin (pack old) s.model l r (new.runs - old.runs)

-- with them it is a turn
abbrev pub TurnedIsATurn : Type 0
TurnedIsATurn = (old new : Taped) (one two : Kept) (s : State) (l : Line) (r : Reply) → Turned old new one two s l r → FewRuns old new one two s l r → TakesTurn old new one two s (typed l) r

-- ---- what is kept
-- The same world, with its streams, as of a line that changes files alone.
pub record SameWorld (one two : Kept) : Type 0 where
  pub moment : two.moment ≡ one.moment
  pub level : two.level ≡ one.level
  pub memory : two.memory ≡ one.memory
  pub streams : two.streams ≡ one.streams
  pub need : two.need ≡ one.need

-- the model's line leaves the world as it is
abbrev pub LeavesWorld : State → Line → Type 0
LeavesWorld s l = next l s.model s.world ≡ s.world

-- The world is the model's after the line, and the files of its streams are found by their addresses.
pub record EndsAs (q : Pack) (two : Kept) (s : State) (l : Line) : Type 0 where
  pub world : world_of two ≡ next l s.model s.world
  pub refs : All (λ o. IsFrom q o.ref.fid o.ref.leader_at o.ref.place) two.streams

-- The same of DiskDescriptor, the same tally, and a table that is true if it was.
pub record SameHeld (old new : Taped) (one two : Kept) : Type 0 where
  pub shape : two.shape ≡ one.shape
  pub last : two.last ≡ one.last
  pub mark : two.mark ≡ one.mark
  pub pages : two.pages ≡ one.pages
  pub tally : two.tally ≡ one.tally
  pub table : TableTrue (pack old) one.busy → TableTrue (pack new) two.busy

-- And the same world.
pub record SameBut (old new : Taped) (one two : Kept) : Type 0 where
  pub world : SameWorld one two
  pub shape : two.shape ≡ one.shape
  pub last : two.last ≡ one.last
  pub mark : two.mark ≡ one.mark
  pub pages : two.pages ≡ one.pages
  pub tally : two.tally ≡ one.tally
  pub table : TableTrue (pack old) one.busy → TableTrue (pack new) two.busy

-- ---- a line that writes nothing
-- the plain reply of one that has no operations: it is refused, or it reads
abbrev pub LineWritesNothing : Type 0
LineWritesNothing = (old new : Taped) (one two : Kept) (s : State) (l : Line) → Keeping (pack old) one s → GoesOnWith s l → LeavesWorld s l → line_ops s l ≡ [] → DiskAlone old new → added old new ≡ [] → SameBut old new one two → Turned old new one two s l (plain_reply s (typed l))

-- one that leaves another world, as of a line on the memory or on a stream: each stream fits the model then
abbrev pub LineLeavesAnotherWorld : Type 0
LineLeavesAnotherWorld = (old new : Taped) (one two : Kept) (s : State) (l : Line) → Keeping (pack old) one s → GoesOnWith s l → StreamsFit s.model (next l s.model s.world) → line_ops s l ≡ [] → DiskAlone old new → added old new ≡ [] → SameHeld old new one two → EndsAs (pack new) two s l
    → Turned old new one two s l (plain_reply s (typed l))

-- one that the model refuses
abbrev pub LineIsRefused : Type 0
LineIsRefused = (old new : Taped) (one two : Kept) (s : State) (l : Line) (r : Refusal) → Keeping (pack old) one s → refusal l s.model s.world ≡ Some r → DiskAlone old new → added old new ≡ [] → SameBut old new one two → Turned old new one two s l (reply.Refused r)

-- one that stopped before it wrote: a fault, out of memory, or a hint that misled, of a file that the line touches
abbrev pub LineStopsUnwritten : Type 0
LineStopsUnwritten = (old new : Taped) (one two : Kept) (s : State) (l : Line) (error : Stop) → Keeping (pack old) one s → GoesOnWith s l → IsTakenUp s (typed l) → DiskAlone old new → added old new ≡ [] → SameBut old new one two
    → IfRefused {T = Unit {0}} (Err error) (λ r. ⊥) → IfHint {T = Unit {0}} (Err error) (HintFailing (pack old) [] (cue_files s (typed l))) → Turned old new one (kept_stopped error two) s l (stopped error)
