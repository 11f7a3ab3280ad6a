-- The part of a line that writes: the mark, and its operations one after another.
use Rattle.std.specs.Prelude.{◌≡◌, ℕ, List, [], Result, OnErr, OnOk}
use Rattle.alto_words.specs.declared.fid.Fid.{Fid}
use Rattle.disk_records.specs.Tapes.{Taped, added, pack}
use Rattle.exec_words.specs.declared.line.Line.{Line}
use Rattle.exec_session.specs.laws_call.specs.SoundCalls.{LineFits}
use Rattle.pack_model.specs.operations.Step.{Operation}
use Rattle.session_model.specs.Keeping.{Kept}
use Rattle.session_model.specs.Turning.{HintFailing, State}
use Rattle.exec_session.specs.Meant.{IfHint}
use Rattle.exec_session.specs.Turned.{Begins, line_ops}
use Rattle.exec_session.specs.declared.stop.Stop.{Stop}
use Rattle.exec_steps.specs.Lines.{BrokeOff}
use Rattle.exec_session.specs.laws_steps.specs.LineKeepingLaws.{KeepsFound}
use Rattle.exec_steps.specs.Midway.{MayStart, Midway}

-- From a machine on which a line has only looked: at Ok its operations are all done, no sector is reserved any more, and files that were found
-- are found still; an error breaks off each line that has these operations; a hint that misled is of one of these files.
pub record Wrote {T : Type 0} (old new : Taped) (one two : Kept) (at : ℕ) (ops : List Operation) (files : List Fid) (result : Result T Stop) : Type 0 where
  pub done : OnOk result (Midway old new one two at ops ops [])
  pub found : OnOk result (KeepsFound (pack old) (pack new) ops)
  pub broke : OnErr result ((s : State) (l : Line) → Begins old one s l → line_ops s l ≡ ops → LineFits (pack old) at ops → BrokeOff old new one two s l result)
  pub failing : IfHint result (HintFailing (pack old) (added old new) files)

-- so it is where the mark may be opened with these sectors reserved, whatever was kept as the line began
abbrev pub WritesAll : {T : Type 0} → Taped → Taped → Kept → Kept → List Operation → List ℕ → List Fid → Result T Stop → Type 0
WritesAll old new before after ops reserved files result = (one : Kept) (at : ℕ) → MayStart (pack old) one before at reserved → Wrote old new one after at ops files result
