-- A call that only looks while a line is midway, and one that does several operations, as steps of the line.
use Rattle.std.specs.Prelude.{List, [], ℕ, Contains, Result, Ok, Err}
use Rattle.alto_words.specs.declared.fid.Fid.{Fid}
use Rattle.disk_records.specs.Tapes.{Grown, Taped, added, pack}
use Rattle.pack_model.specs.hints.Misled.{AnswersMisled}
use Rattle.pack_model.specs.operations.Step.{Operation}
use Rattle.exec_session.specs.laws_call.specs.Acting.{Around, IsQuiet, around}
use Rattle.exec_session.specs.laws_call.specs.CountLaws.{CountsOn}
use Rattle.exec_session.specs.laws_call.specs.Several.{Does}
use Rattle.session_model.specs.Keeping.{Kept}
use Rattle.exec_session.specs.Meant.{IfHint}
use Rattle.exec_steps.specs.Midway.{StepsOn}
use Rattle.exec_steps.specs.Steps.{KeepsFitting}
use Rattle.exec_session.specs.declared.stop.Stop.{Stop}
use Rattle.exec_session.specs.declared.stop.Stop.TheVariants as stop

-- ---- a call that only looks
-- Nothing was written and nothing counted, by a machine that counts its record writes, and what is kept of DiskDescriptor fits where it fitted.
pub record LooksMidway (now new : Taped) (two three : Kept) : Type 0 where
  pub grown : Grown now new
  pub quiet : IsQuiet (around now two.busy two.tally) (around new three.busy three.tally)
  pub counts : CountsOn now new
  pub keeps : KeepsFitting two three

-- a hint that misled a call is of one of these files, and did so as that call began
abbrev pub MisleadsIn : List Fid → Around → Around → Stop → Type 0
MisleadsIn files old new stop = IfHint {T = Unit {0}} (Err stop) (λ place at wanted found. Contains files wanted.fid × AnswersMisled (pack old.tape) (added old.tape new.tape) place at wanted found)

-- it is a step with no operation
abbrev pub QuietIsAStep : Type 0 → Type 0
QuietIsAStep T = (now new : Taped) (two three : Kept) (files : List Fid) (x : T) → LooksMidway now new two three → StepsOn now new two three [] [] files (Ok x)

-- and one that isn't done, where it answers an error
abbrev pub LooksMidwayStop : Type 0 → Type 0
LooksMidwayStop T = (now new : Taped) (two three : Kept) (files : List Fid) (stop : Stop) → LooksMidway now new two three → MisleadsIn files (around now two.busy two.tally) (around new three.busy three.tally) stop
    → StepsOn {T = T} now new two three [] [] files (Err stop)

-- ---- a call that does several operations
-- it is a step with all of them, whatever it answers
abbrev pub DoesIsAStep : Type 0 → Type 0
DoesIsAStep T = (now new : Taped) (two three : Kept) (ops : List Operation) (claimed : List ℕ) (files : List Fid) (result : Result T Stop) → KeepsFitting two three
    → Does stop.DiskFault stop.Memory (MisleadsIn files) ops claimed (around now two.busy two.tally) (around new three.busy three.tally) result → StepsOn now new two three ops claimed files result
