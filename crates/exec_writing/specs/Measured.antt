-- An ordinary file that was found, and its length.
use Rattle.std.specs.Prelude.{◌≡◌, None}
use Rattle.disk_records.specs.Packs.{Pack}
use Rattle.exec_session.specs.laws_operation.specs.ByteLaws.{IsOrdinary}
use Rattle.page_seeking.specs.Seeking.{file_length}
use Rattle.exec_words.specs.declared.line.Target.{Target}
use Rattle.session_model.specs.Operands.{no_directory}
use Rattle.exec_session.specs.Found.{IsAt, operand, operand_refusal}
use Rattle.exec_writing.specs.declared.measuring.Measured.{Measured}

-- The file is the one that the operand means, an ordinary one that no test of operands refuses; and this is its length.
pub record IsMeasured (p : Pack) (target : Target) (m : Measured) : Type 0 where
  pub at : IsAt p target m.file
  pub taken : operand_refusal p (operand target no_directory) ≡ None
  pub ordinary : IsOrdinary m.file.fid
  pub length : m.length ≡ file_length p m.file.fid
