-- What a call owes that does the operations of a line, whose text isn't made yet.
use Rattle.std.specs.Prelude.{◌≡◌, None, Result, Ok, Err}
use Rattle.disk_records.specs.Tapes.{Taped}
use Rattle.disk_records.specs.declared.shape.Shape.{Shape}
use Rattle.exec_words.specs.declared.line.Line.{Line}
use Rattle.exec_words.specs.declared.reply.Reply.TheVariants as reply
use Rattle.session_model.specs.Answering.{plain_reply}
use Rattle.session_model.specs.Keeping.{Formed, Kept}
use Rattle.session_model.specs.Replies.{refusal}
use Rattle.session_model.specs.Turning.{State, typed}
use Rattle.exec_session.specs.Meant.{kept_stopped, stopped}
use Rattle.exec_session.specs.Turned.{Turned}
use Rattle.exec_session.specs.declared.stop.Stop.{Stop}

-- The line isn't refused, and its operations are done: by its plain reply it is a turn, where what was kept is formed, and so it is out of
-- memory, if none is left for its text.
pub record IsWritten (old new : Taped) (one two : Kept) (s : State) (l : Line) : Type 0 where
  pub unrefused : refusal l s.model s.world ≡ None
  pub plain : (form : Shape) → Formed form one → Turned old new one two s l (plain_reply s (typed l))
  pub memory : Turned old new one two s l reply.Memory

-- done, or stopped
abbrev pub WritesLine : {T : Type 0} → Taped → Taped → Kept → Kept → State → Line → Result T Stop → Type 0
WritesLine old new one two s l (Ok x) = IsWritten old new one two s l
WritesLine old new one two s l (Err stop) = Turned old new one (kept_stopped stop two) s l (stopped stop)
