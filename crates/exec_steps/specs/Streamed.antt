-- The files of open streams stay found over a line.
use Rattle.std.specs.Prelude.{ℕ, All, List}
use Rattle.disk_records.specs.declared.shape.Shape.{Shape}
use Rattle.disk_records.specs.Packs.{Pack}
use Rattle.disk_records.specs.Tapes.{Taped, pack}
use Rattle.exec_words.specs.declared.line.Line.{Line}
use Rattle.pack_model.specs.operations.Step.{Operation}
use Rattle.pack_model.specs.reading.Model.{read_as}
use Rattle.exec_session.specs.laws_call.specs.SoundCalls.{LineFits}
use Rattle.exec_session.specs.laws_steps.specs.LineKeepingLaws.{StaysFoundOver}
use Rattle.session_model.specs.Keeping.{Formed, Kept, OpenFile}
use Rattle.session_model.specs.Turning.{State}
use Rattle.exec_session.specs.Turned.{Begins, line_ops}

-- the files of these streams stay found over the operations
abbrev pub StreamsFound : Pack → List Operation → List OpenFile → Type 0
StreamsFound p ops streams = All (λ o. StaysFoundOver (read_as p) ops o.ref.fid o.ref.place) streams

-- so it is of what is kept as a line begins that fits the pack
abbrev pub StreamsStayFound : Type 0
StreamsStayFound = (form : Shape) (old : Taped) (one : Kept) (s : State) (l : Line) (at : ℕ) → Begins old one s l → Formed form one → LineFits (pack old) at (line_ops s l) → StreamsFound (pack old) (line_ops s l) one.streams
