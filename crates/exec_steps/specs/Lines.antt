-- What a line is that has done all of its steps, or broke off.
use Rattle.std.specs.Prelude.{◌≡◌, ℕ, List, [], ◌++◌, Result, Err}
use Rattle.alto_words.specs.declared.fid.Fid.{Fid}
use Rattle.disk_records.specs.Tapes.{DiskAlone, Taped, added, pack}
use Rattle.exec_words.specs.declared.line.Line.{Line}
use Rattle.exec_session.specs.laws_call.specs.SoundCalls.{LineFits}
use Rattle.pack_model.specs.operations.Committing.{line_moves}
use Rattle.pack_model.specs.operations.Operations.{Move}
use Rattle.pack_model.specs.operations.Step.{Operation}
use Rattle.pack_model.specs.reading.Sights.{sights}
use Rattle.pack_model.specs.sessions.Meanings.{session}
use Rattle.pack_model.specs.sessions.Moves.{IsStartOf, Obeys}
use Rattle.pack_model.specs.sessions.Tallies.{Tells, counted}
use Rattle.pack_model.specs.states.Sound.{mark_of}
use Rattle.session_model.specs.Answering.{plain_reply}
use Rattle.disk_records.specs.declared.shape.Shape.{Shape}
use Rattle.exec_session.specs.laws_steps.specs.LineKeepingLaws.{KeepsFound}
use Rattle.session_model.specs.Keeping.{Formed, Kept}
use Rattle.session_model.specs.Turning.{HintFailing, State, cue_files, typed}
use Rattle.exec_session.specs.Meant.{IfHint, IfRefused, kept_stopped, stopped}
use Rattle.exec_steps.specs.Streamed.{StreamsFound}
use Rattle.exec_session.specs.Turned.{Begins, EndsAs, LeavesWorld, SameWorld, Turned, line_ops}
use Rattle.exec_session.specs.declared.stop.Stop.{Stop}
use Rattle.exec_session.specs.declared.stop.Stop.TheVariants as stop
use Rattle.exec_steps.specs.Midway.{Midway, Started, Stepped}

-- ---- the streams of a line that is done
-- it ends as the model's does if it leaves the world, and files that were found, those of its streams among them, are found over it
abbrev pub LineKeepsItsStreams : Type 0
LineKeepsItsStreams = (old new : Taped) (one two : Kept) (s : State) (l : Line) → Begins old one s l → LeavesWorld s l → SameWorld one two → KeepsFound (pack old) (pack new) (line_ops s l) → StreamsFound (pack old) (line_ops s l) one.streams → EndsAs (pack new) two s l

-- ---- a line whose operations are all done
-- on a sound pack, and no sector is reserved any more
abbrev pub LineIsDone : Type 0
LineIsDone = (form : Shape) (old new : Taped) (one two : Kept) (s : State) (l : Line) (at : ℕ) → Begins old one s l → Formed form one → EndsAs (pack new) two s l → LineFits (pack old) at (line_ops s l) → Midway old new one two at (line_ops s l) (line_ops s l) [] → Turned old new one two s l (plain_reply s (typed l))

-- ---- a line that broke off
-- Its record writes make a prefix of its moves, which the tally counts.
pub record BrokeOff {T : Type 0} (old new : Taped) (one two : Kept) (s : State) (l : Line) (result : Result T Stop) : Type 0 where
  pub moves : List Move
  pub each : Obeys session s.model (pack old) (added old new) moves
  pub start : IsStartOf moves (line_moves (mark_of (sights (pack old))) s.model (line_ops s l))
  pub tally : Tells stop.DiskFault new result → two.tally ≡ counted old.writes moves one.tally

-- Before it wrote anything; as it opened the mark; in a step; and once its steps so far are done.
pub record BreaksOff (T : Type 0) (old : Taped) (one : Kept) (s : State) (l : Line) : Type 0 where
  pub first : (new : Taped) (two : Kept) (result : Result T Stop) → added old new ≡ [] → two.tally ≡ one.tally → BrokeOff old new one two s l result
  pub opening : (new : Taped) (two : Kept) (at : ℕ) (reserved : List ℕ) (error : Stop) → LineFits (pack old) at (line_ops s l) → Started {T = T} old new one two at reserved (Err error) → BrokeOff {T = T} old new one two s l (Err error)
  pub step : (now new : Taped) (two : Kept) (at : ℕ) (done own more : List Operation) (reserved : List ℕ) (files : List Fid) (error : Stop) → LineFits (pack old) at (line_ops s l) → (done ++ own) ++ more ≡ line_ops s l
      → Stepped {T = T} old now new one two at done own (line_ops s l) reserved files (Err error) → BrokeOff {T = T} old new one two s l (Err error)
  pub later : (new : Taped) (two : Kept) (at : ℕ) (done more : List Operation) (reserved : List ℕ) (result : Result T Stop) → LineFits (pack old) at (line_ops s l) → done ++ more ≡ line_ops s l
      → Midway old new one two at done (line_ops s l) reserved → BrokeOff old new one two s l result

abbrev pub LinesBreakOff : Type 0 → Type 0
LinesBreakOff T = (old : Taped) (one : Kept) (s : State) (l : Line) → Begins old one s l → BreaksOff T old one s l

-- it is answered by a fault, by out of memory, or by a hint that misled, of a file that the line touches
abbrev pub LineStops : Type 0
LineStops = (old new : Taped) (one two : Kept) (s : State) (l : Line) (error : Stop) → Begins old one s l → SameWorld one two → DiskAlone old new → BrokeOff {T = Unit {0}} old new one two s l (Err error)
    → IfRefused {T = Unit {0}} (Err error) (λ r. ⊥) → IfHint {T = Unit {0}} (Err error) (HintFailing (pack old) (added old new) (cue_files s (typed l))) → Turned old new one (kept_stopped error two) s l (stopped error)
