-- A check whose error is the first word that fails it.
use Rattle.std.specs.Prelude.{ℕ, Option, Some, None, Result, Ok, Err}

abbrev pub checked : Option ℕ → Result (Unit {0}) ℕ
checked None = Ok tt
checked (Some at) = Err at
