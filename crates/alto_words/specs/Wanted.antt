-- Which file an operand of a command means.
use Rattle.std.specs.Prelude.{ℕ, List, Option, Some, None}
use Rattle.std.specs.Option.{option_map}
use Rattle.alto_words.specs.declared.wanted.Wanted.{Wanted}
use Rattle.alto_words.specs.declared.wanted.Wanted.TheVariants.{Exact, Newest}
use Rattle.alto_words.specs.Names.{base_of, after_mark, name_in}

-- this name where a version is stated, and otherwise the newest version of this base
abbrev pub wanted_by : Option (List ℕ) → List ℕ → Wanted
wanted_by None name = Newest name
wanted_by (Some after) name = Exact name

-- what an operand means, if it stands for a name
abbrev pub wanted_in : List ℕ → Option Wanted
wanted_in text = option_map (wanted_by (after_mark text)) (name_in text)

-- the base of what is meant
abbrev pub base_wanted : Wanted → List ℕ
base_wanted (Exact name) = base_of name
base_wanted (Newest base) = base
