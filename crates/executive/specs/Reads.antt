-- What the call of a line that only reads answers, by the model of a sound pack.
use Rattle.std.specs.Prelude.{◌≡◌, ℕ, List, [], None, Some, Result, IfOk}
use Rattle.alto_words.specs.declared.fid.Fid.{Fid}
use Rattle.disk_records.specs.Packs.{Pack, carried, sector_at}
use Rattle.exec_words.specs.declared.line.Line.{Line}
use Rattle.exec_session.specs.Meant.{IfHint, IfRefused, IsTakenUpBy}
use Rattle.exec_session.specs.declared.stop.Stop.{Stop}
use Rattle.page_seeking.specs.Seeking.{page_number}
use Rattle.pack_model.specs.reading.Leaders.{Leader, leader_of}
use Rattle.pack_model.specs.reading.Model.{read_as}
use Rattle.session_model.specs.Effects.{effect}
use Rattle.session_model.specs.Replies.{refusal}
use Rattle.session_model.specs.Touched.{files_touched}
use Rattle.session_model.specs.Turning.{HintFailing}
use Rattle.session_model.specs.Worlds.{World}

-- The file's leader is in a sector that carries it, and says this.
pub record IsLeaderOf (p : Pack) (f : Fid) (l : Leader) : Type 0 where
  pub at : ℕ
  pub carries : carried p at ≡ Some (page_number f 0)
  pub says : l ≡ leader_of f (sector_at p at).value

-- ---- a line
-- it isn't refused, and says this
pub record IsSaid (p : Pack) (l : Line) (w : World) (text : List ℕ) : Type 0 where
  pub unrefused : refusal l (read_as p) w ≡ None
  pub text_is : text ≡ (effect l (read_as p) w).text

-- What is answered, of which a text is made: the line's own text, its refusal, or a hint that misled, of a file that the line touches.
pub record ReadsAs {T : Type 0} (p : Pack) (l : Line) (w : World) (says : T → List ℕ) (result : Result T Stop) : Type 0 where
  pub said : IfOk result (λ x. IsSaid p l w (says x))
  pub refused : IfRefused result (λ r. refusal l (read_as p) w ≡ Some r)
  pub misled : IfHint result (HintFailing p [] (files_touched l (read_as p) w))

-- so it is in each world that doesn't refuse the line by itself
abbrev pub ReadsRight : {T : Type 0} → Pack → Line → (T → List ℕ) → Result T Stop → Type 0
ReadsRight p l says result = (w : World) → IsTakenUpBy w l → ReadsAs p l w says result
