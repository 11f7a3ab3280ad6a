-- A session on the pack that formatting writes: its first line and its end may come.
use Rattle.std.specs.Prelude.{Bool, List, [], set, true, ℕ, ◌∷◌}
use Rattle.laws_steps.specs.alto_words.specs.Fid.{sys_dir}
use Rattle.laws_steps.specs.disk_records.specs.Packs.{Pack}
use Rattle.laws_steps.specs.disk_records.specs.declared.shape.Shape.{Shape}
use Rattle.laws_steps.specs.pack_model.specs.hints.Truth.{Truthful}
use Rattle.laws_steps.specs.pack_model.specs.operations.Step.Operation.{widen}
use Rattle.laws_steps.specs.pack_model.specs.sessions.Format.{format_table, formatted, sectors_used}
use Rattle.laws_steps.specs.laws_call.specs.SoundCalls.{LineFits}
use Rattle.laws_steps.specs.laws_hint.specs.TableLaws.{TableReserves}
use Rattle.laws_steps.specs.laws_line.specs.EndLaws.{LastLine}

-- Hints are true with this table; with the first free sector marked it has that one reserved; a line may widen SysDir; and the session may
-- end without an operation.
pub record FirstLine (p : Pack) (busy : List Bool) : Type 0 where
  pub truthful : Truthful p busy
  pub reserves : TableReserves p (set busy (sectors_used p.shape) true) (sectors_used p.shape ∷ [])
  pub line : LineFits p 4 (widen sys_dir ∷ [])
  pub end : LastLine p [] []

-- so it is with the table of free sectors
abbrev pub FormattedPackTakesALine : Type 0
FormattedPackTakesALine = (shape : Shape) (number moment : ℕ) → FirstLine (formatted shape number moment) (format_table shape)
