-- What a command line asks for.
use Rattle.std.specs.Prelude.{◌≡◌, ℕ, ◌≤◌, Bool, true, false, nat_eq, List, [], ◌∷◌, drop, map, slice_index_or, string_bytes, Option, Some, None, IfSome, codes}
use Rattle.std.specs.Option.{option_map}
use Rattle.std.specs.Cmp.Lexicographic.{pointwise}
use Rattle.disk_image.specs.declared.start.Start.{Start}
use Rattle.disk_image.specs.Starts.{start_of}
use Rattle.alto.specs.declared.command_line.CommandLine.{CommandLine}
use Rattle.alto.specs.declared.command_line.CommandLine.TheVariants.{Help, Machine, Nothing}
use Rattle.alto.specs.declared.command_line.Call.{Call}

-- the word `--help`
abbrev pub is_help : List ℕ → Bool
is_help word = pointwise nat_eq word (codes "--help")

-- whether the words are `--help` alone
abbrev pub asks_help : List (List ℕ) → Bool
asks_help [] = false
asks_help (word ∷ []) = is_help word
asks_help (word ∷ other ∷ words) = false

-- the path at an index among the words, where there is one
abbrev pub path_at : List (List ℕ) → Option ℕ → Option (List ℕ)
path_at words at = option_map (λ i. slice_index_or words i []) at

-- a command line `[--cylinders C] [--second PACK2] PACK WORDS`
pub record IsCall (words : List (List ℕ)) (call : Call) : Type 0 where
  pub start : Start
  pub starts : start_of words ≡ Some start
  pub cylinders : call.cylinders ≡ start.cylinders
  pub second : option_map (λ path. path.now) call.second ≡ path_at words start.second
  pub pack : call.path.now ≡ slice_index_or words start.pack []
  pub rest : map string_bytes call.words.now ≡ drop start.rest words

-- no command line
abbrev pub IsFaulty : List (List ℕ) → Type 0
IsFaulty words = (asks_help words ≡ false) × (start_of words ≡ None)

-- what the words after the program's name ask for
abbrev pub IsCommandLine : List (List ℕ) → CommandLine → Type 0
IsCommandLine words Help = asks_help words ≡ true
IsCommandLine words (Machine call) = (asks_help words ≡ false) × IsCall words call
IsCommandLine words Nothing = IsFaulty words

-- a new pack has 2 to 406 cylinders to a drive
abbrev pub HasRange : Call → Type 0
HasRange call = IfSome call.cylinders (λ cylinders. (2 ≤ cylinders) × (cylinders ≤ 406))

-- a command line that has a machine has it in this range
abbrev pub InRange : CommandLine → Type 0
InRange Help = Unit {0}
InRange (Machine call) = HasRange call
InRange Nothing = Unit {0}
