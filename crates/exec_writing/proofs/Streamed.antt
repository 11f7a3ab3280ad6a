-- Open streams, and lines that leave them: whether one has a file, and that their files are found still once a line is done.
use Rattle.std.proofs.Common.{◌≡◌, ◌∙◌, ℕ, true, false, List, [], Some, Result, Ok, Err, OnOk, sym, ap}
use Rattle.alto_words.specs.declared.fid.Fid.{Fid}
use Rattle.disk_records.specs.Tapes.{Taped, pack}
use Rattle.disk_records.specs.declared.shape.Shape.{Shape}
use Rattle.exec_words.specs.declared.line.Line.{Line}
use Rattle.exec_words.specs.declared.reply.Refusal.TheVariants as refusal
use Rattle.exec_session.specs.laws_call.specs.SoundCalls.{LineFits}
use Rattle.exec_session.specs.laws_steps.proofs.lines.Laws.{later_keeps_found}
use Rattle.exec_session.specs.laws_steps.specs.LineKeepingLaws.{KeepsFound}
use Rattle.pack_model.specs.operations.Step.{Operation}
use Rattle.pack_model.specs.reading.Model.{read_as}
use Rattle.session_model.specs.Answering.{plain_reply}
use Rattle.session_model.specs.Keeping.{Formed, Kept, world_of}
use Rattle.session_model.specs.Refusals.{is_streamed}
use Rattle.session_model.specs.Turning.{State, typed}
use Rattle.exec_steps.proofs.Frames.{works_looked, world_worked}
use Rattle.exec_session.proofs.OrdinaryFiles.{by_test, ok_test}
use Rattle.exec_session.proofs.Turning.{same_world}
use Rattle.exec_steps.proofs.laws.Laws.{line_is_done, line_keeps_its_streams, streams_stay_found}
use Rattle.exec_session.specs.Meant.{Looked, kept}
use Rattle.exec_steps.specs.Midway.{Midway}
use Rattle.exec_session.specs.Stops.{refused_if}
use Rattle.exec_session.specs.Turned.{Begins, LeavesWorld, SameWorld, Turned, line_ops}
use Rattle.exec_session.specs.declared.session.Session.{Session}
use Rattle.exec_session.specs.declared.stop.Stop.{Stop}
use Rattle.exec_session.specs.declared.stop.Stop.TheVariants as stop

-- ---- the test whether a stream has a file, in a session that has looked
module _ {a b : Session} (looked : Looked a b) (f : Fid) where
  pub same_test : is_streamed (world_of (kept a)) (Some f) ≡ is_streamed (world_of (kept b)) (Some f)
  same_test = ap (λ w. is_streamed w (Some f)) (sym (same_world (kept a) (kept b) (world_worked (works_looked looked))))

  -- none has
  pub none_has : (u : Unit {0}) → ◌≡◌ {A = Result (Unit {0}) Stop} (Ok u) (refused_if (is_streamed (world_of (kept b)) (Some f)) refusal.StreamsOpen) → is_streamed (world_of (kept a)) (Some f) ≡ false
  none_has u e = same_test ∙ ok_test (is_streamed (world_of (kept b)) (Some f)) u refusal.StreamsOpen e

  -- one has
  pub one_has : (x : Stop) → ◌≡◌ {A = Result (Unit {0}) Stop} (Err x) (refused_if (is_streamed (world_of (kept b)) (Some f)) refusal.StreamsOpen) → (is_streamed (world_of (kept a)) (Some f) ≡ true) × (x ≡ stop.Refused refusal.StreamsOpen)
  one_has x e = let t = by_test (is_streamed (world_of (kept b)) (Some f)) x refusal.StreamsOpen e in (same_test ∙ t.0, t.1)

-- ---- files that were found, over the opening of the mark and the steps
pub found_later : {T : Type 0} (old mid new : Taped) (own : List Operation) (result : Result T Stop) → read_as (pack mid) ≡ read_as (pack old) → KeepsFound (pack old) (pack mid) [] → OnOk result (KeepsFound (pack mid) (pack new) own) → OnOk result (KeepsFound (pack old) (pack new) own)
found_later old mid new own (Ok x) reads first next = later_keeps_found (pack old) (pack mid) (pack new) [] own reads first next
found_later old mid new own (Err e) reads first next = tt

-- ---- a line that leaves the world is done
module _ (old new : Taped) (one two : Kept) (s : State) (l : Line) (at : ℕ) (begins : Begins old one s l) (leaves : LeavesWorld s l) (same : SameWorld one two) (form : Shape) (formed : Formed form one) (fits : LineFits (pack old) at (line_ops s l)) where
  pub line_ends : KeepsFound (pack old) (pack new) (line_ops s l) → Midway old new one two at (line_ops s l) (line_ops s l) [] → Turned old new one two s l (plain_reply s (typed l))
  line_ends found midway = line_is_done form old new one two s l at begins formed (line_keeps_its_streams old new one two s l begins leaves same found (streams_stay_found form old one s l at begins formed fits)) fits midway
