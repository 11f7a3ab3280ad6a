-- A line that drops one file: what it says then, and what the call answers that finds the file.
use Rattle.std.specs.Prelude.{◌≡◌, Contains, [], ◌∷◌, None, Some, Result, IfOk}
use Rattle.disk_records.specs.Packs.{Pack}
use Rattle.exec_words.specs.Texts.{done_text}
use Rattle.exec_words.specs.declared.line.Line.{Line}
use Rattle.exec_words.specs.declared.reply.Reply.TheVariants as reply
use Rattle.pack_model.specs.reading.Model.{read_as}
use Rattle.session_model.specs.Answering.{plain_reply}
use Rattle.session_model.specs.Effects.{effect}
use Rattle.session_model.specs.Replies.{refusal}
use Rattle.session_model.specs.Touched.{files_touched}
use Rattle.session_model.specs.Turning.{HintFailing, State, cue_files, typed}
use Rattle.session_model.specs.Worlds.{World}
use Rattle.exec_session.specs.Meant.{IfHint, IfRefused}
use Rattle.exec_session.specs.Turned.{LeavesWorld, line_ops}
use Rattle.exec_session.specs.declared.operands.Found.{Found}
use Rattle.exec_session.specs.declared.stop.Stop.{Stop}
use Rattle.exec_writing.specs.Dropping.{MayDropFound, to_drop}

-- ---- the line
-- To this state it drops the file that was found and does nothing else, leaves the world, and says that it is done; the file and its directory
-- are among those that it touches.
pub record DropsFound (s : State) (l : Line) (found : Found) : Type 0 where
  pub ops : line_ops s l ≡ to_drop found.file.fid ∷ []
  pub leaves : LeavesWorld s l
  pub says : plain_reply s (typed l) ≡ reply.Done done_text
  pub file : Contains (cue_files s (typed l)) found.file.fid
  pub dir : Contains (cue_files s (typed l)) found.dir.fid

-- ---- its operand
-- The line isn't refused, and the file that was found is the one that it drops; it may be dropped.
pub record IsDropped (p : Pack) (l : Line) (w : World) (found : Found) : Type 0 where
  pub unrefused : refusal l (read_as p) w ≡ None
  pub ops : (effect l (read_as p) w).ops ≡ to_drop found.file.fid ∷ []
  pub file : Contains (files_touched l (read_as p) w) found.file.fid
  pub dir : Contains (files_touched l (read_as p) w) found.dir.fid
  pub may : MayDropFound p found

-- What is answered of a line that isn't refused by itself: that file, the refusal of the line, or a hint that misled, of a file that the line touches.
pub record FindsDropped (p : Pack) (l : Line) (w : World) (result : Result Found Stop) : Type 0 where
  pub found : IfOk result (IsDropped p l w)
  pub refused : IfRefused result (λ r. refusal l (read_as p) w ≡ Some r)
  pub misled : IfHint result (HintFailing p [] (files_touched l (read_as p) w))
