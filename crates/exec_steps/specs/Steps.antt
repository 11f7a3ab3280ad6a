-- A call that is a step of a line, and how steps join.
use Rattle.std.specs.Prelude.{ℕ, List, [], ◌∷◌, ◌++◌, ◌≡◌, ◌<◌, ◌^◌, Contains, Result, Ok, Err}
use Rattle.alto_words.specs.declared.fid.Fid.{Fid}
use Rattle.disk_records.specs.Packs.{Pack}
use Rattle.disk_records.specs.Tapes.{Grown, Taped, added, pack}
use Rattle.pack_model.specs.hints.Misled.{AnswersMisled}
use Rattle.pack_model.specs.operations.Committing.{serial_moves}
use Rattle.pack_model.specs.operations.Step.{Operation}
use Rattle.pack_model.specs.sessions.Descriptor.{DescriptorFits}
use Rattle.exec_session.specs.laws_call.specs.Acting.{Operates, around}
use Rattle.exec_session.specs.laws_call.specs.CountLaws.{CountsOn}
use Rattle.session_model.specs.Keeping.{Kept}
use Rattle.exec_steps.specs.Midway.{Arrived, StepsOn}
use Rattle.exec_session.specs.Meant.{IfHint}
use Rattle.exec_session.specs.declared.stop.Stop.{Stop}
use Rattle.exec_session.specs.declared.stop.Stop.TheVariants as stop

-- ---- a call
-- what is kept of DiskDescriptor fits where it fitted
abbrev pub KeepsFitting : Kept → Kept → Type 0
KeepsFitting two three = (q : Pack) → DescriptorFits q two.shape two.last two.mark two.pages → DescriptorFits q three.shape three.last three.mark three.pages

-- The call is to do the operation, on a machine that counts its record writes; a hint that misled is one of these files.
pub record Calls {T : Type 0} (now new : Taped) (two three : Kept) (o : Operation) (claimed : List ℕ) (files : List Fid) (result : Result T Stop) : Type 0 where
  pub operates : Operates stop.DiskFault stop.Memory o claimed (around now two.busy two.tally) (around new three.busy three.tally) result
  pub grown : Grown now new
  pub counts : CountsOn now new
  pub low : two.tally.limit < 2 ^ 64
  pub keeps : KeepsFitting two three
  pub hints : IfHint result (λ place at wanted found. Contains files wanted.fid × AnswersMisled (pack now) (added now new) place at wanted found)

-- it is a step of each line that is midway, unless the operation needs a new serial first
abbrev pub CallIsAStep : Type 0 → Type 0
CallIsAStep T = (now new : Taped) (two three : Kept) (o : Operation) (claimed : List ℕ) (files : List Fid) (result : Result T Stop) → serial_moves o ≡ [] → Calls now new two three o claimed files result
    → StepsOn now new two three (o ∷ []) claimed files result

-- ---- two steps, one after the other
-- the second from what is known once the first is done
abbrev pub StepsJoin : Type 0 → Type 0 → Type 0
StepsJoin T U = (a b c : Taped) (one two three : Kept) (first second : List Operation) (claimed more : List ℕ) (files others : List Fid) (x : U) (result : Result T Stop)
    → StepsOn a b one two first claimed files (Ok x) → ((left : List ℕ) → Arrived (pack a) (pack b) two first (more ++ left) → StepsOn b c two three second more others result)
    → StepsOn a c one three (first ++ second) (claimed ++ more) (files ++ others) result

-- a step that isn't done ends what was to come after it, too
abbrev pub StepStops : Type 0 → Type 0 → Type 0
StepStops T U = (a b : Taped) (one two : Kept) (first second : List Operation) (claimed more : List ℕ) (files others : List Fid) (stop : Stop)
    → StepsOn {T = U} a b one two first claimed files (Err stop) → StepsOn {T = T} a b one two (first ++ second) (claimed ++ more) (files ++ others) (Err stop)
