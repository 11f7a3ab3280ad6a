-- How operations are counted: by the moves that were made, and by how many record writes the machine had before them.
-- That operations are counted up to a limit of record writes is this project's choice.
use Rattle.std.specs.Prelude.{◌≡◌, ℕ, suc, ◌+◌, ◌-◌, ◌<◌, ◌^◌, ◌&&◌, Bool, cond, nat_le, nat_lt, List, [], ◌∷◌, Result, IsErrOf}
use Rattle.disk_records.specs.declared.records.Tally.{Tally}
use Rattle.disk_records.specs.Tapes.{Taped, capped}
use Rattle.pack_model.specs.operations.Operations.{Move}
use Rattle.pack_model.specs.operations.Operations.Move.{quiet, commits, mends}

-- nothing is counted yet
abbrev pub no_tally : ℕ → Tally
no_tally limit = record { limit = limit; passed = 0; all = 0 }

-- an operation took effect by this record write of the machine, counted from 1
abbrev pub took_effect : ℕ → Tally → Tally
took_effect k t = record { limit = t.limit; passed = cond (nat_le k t.limit) (capped (t.passed + 1)) t.passed; all = capped (t.all + 1) }

-- these moves were made, one a record write, by a machine that had so many record writes before them
abbrev pub counted : ℕ → List Move → Tally → Tally
counted writes [] t = t
counted writes (quiet ∷ moves) t = counted (suc writes) moves t
counted writes (commits o ∷ moves) t = counted (suc writes) moves (took_effect (suc writes) t)
counted writes (mends m ∷ moves) t = counted (suc writes) moves t

-- The machine's count says how many record writes a call made: at every answer, except a fault of the disk with the count at its end.
abbrev pub Tells : {T E : Type 0} → E → Taped → Result T E → Type 0
Tells fault new result = IsErrOf result fault → new.writes < 2 ^ 64 - 1

-- A call that made these moves leaves this tally of that one. At a fault of the disk with the machine's count at its end nothing is said.
abbrev pub CountsMoves : {T E : Type 0} → E → Taped → Taped → List Move → Tally → Tally → Result T E → Type 0
CountsMoves fault old new moves one two result = Tells fault new result → two ≡ counted old.writes moves one

-- whether the nth record write since the machine's count was `before` is among those that it has counted now
abbrev pub is_among : ℕ → ℕ → ℕ → Bool
is_among before nth now = nat_lt (before + nth) (2 ^ 64) && nat_le (before + nth) now
