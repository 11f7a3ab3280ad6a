-- What stops a run that has no session, and how a run ends.
use Rattle.std.specs.Prelude.{◌≡◌, ℕ, List, drop, Bool, true, false, Option, Some, None, is_some, if◌then◌else◌, IfSome, Result, Ok, Err}
use Rattle.session_boot.specs.declared.status.Status.{Status}
use Rattle.session_boot.specs.declared.status.Status.TheVariants as status
use Rattle.alto_top.specs.Top.{AnswersTo}
use Rattle.disk_image.specs.declared.error.ReachError.{ReachError}
use Rattle.disk_image.specs.Machines.{IsReaching, IsReachingTwo, IsMaking}
use Rattle.disk_image.specs.Starts.{start_of}
use Rattle.alto.specs.CommandLines.{asks_help}
use Rattle.alto.specs.declared.end.Stop.{Stop}
use Rattle.alto.specs.declared.end.Stop.TheVariants as stop

-- why no machine was made: over a file that is there, over two, or over new ones
abbrev pub IsRefusal : Option ℕ → Bool → ReachError → Type 0
IsRefusal None false error = IsReaching error
IsRefusal None true error = IsReachingTwo error
IsRefusal (Some cylinders) has_second error = IsMaking error

-- a command line is stopped by its pack files alone
abbrev pub IsCallStop : Option ℕ → Bool → Stop → Type 0
IsCallStop cylinders has_second stop.Words = ⊥
IsCallStop cylinders has_second (stop.Pack error) = IsRefusal cylinders has_second error
IsCallStop cylinders has_second stop.Display = ⊥
IsCallStop cylinders has_second stop.Memory = ⊥

-- what stops the help
abbrev pub IsHelpStop : Stop → Type 0
IsHelpStop stop.Words = ⊥
IsHelpStop (stop.Pack error) = ⊥
IsHelpStop stop.Display = Unit {0}
IsHelpStop stop.Memory = Unit {0}

-- how the help ends
abbrev pub IsHelpEnd : Result Status Stop → Type 0
IsHelpEnd (Ok answer) = answer ≡ status.Done
IsHelpEnd (Err stop) = IsHelpStop stop

-- the drives of a pack, with a PACK2 or without
abbrev pub drives : Bool → ℕ
drives has_second = if has_second then 2 else 1

-- how a command line with these words after PACK ends, with a PACK2 or without
abbrev pub IsCallEnd : Option ℕ → Bool → List (List ℕ) → Result Status Stop → Type 0
IsCallEnd cylinders has_second words (Ok answer) = AnswersTo words (drives has_second) answer
IsCallEnd cylinders has_second words (Err stop) = IsCallStop cylinders has_second stop

-- how a run ends whose words ask for the help, and one whose words are a command line
pub record IsEnd (words : List (List ℕ)) (end : Result Status Stop) : Type 0 where
  pub help : asks_help words ≡ true → IsHelpEnd end
  pub call : asks_help words ≡ false → IfSome (start_of words) (λ start. IsCallEnd start.cylinders (is_some start.second) (drop start.rest words) end)
