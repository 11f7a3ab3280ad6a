-- The record writes of the guarded sector commands.
use Rattle.std.specs.Prelude.{ℕ, List, [], ◌∷◌, replicate}
use Rattle.disk_records.specs.declared.records.Event.{Event}
use Rattle.disk_records.specs.declared.records.Event.TheVariants.{Wrote}

-- the value alone
abbrev pub value_writes : ℕ → List ℕ → List Event
value_writes at value = Wrote at 2 value ∷ []

-- another label, and a value
abbrev pub relabel_writes : ℕ → List ℕ → List ℕ → List Event
relabel_writes at label value = Wrote at 1 label ∷ Wrote at 2 value ∷ []

-- a free sector is taken: its value while it is still free, then its label, and the equal value again
abbrev pub claim_writes : ℕ → List ℕ → List ℕ → List Event
claim_writes at label value = Wrote at 2 value ∷ relabel_writes at label value

abbrev pub ones : ℕ → List ℕ
ones n = replicate n 65535

-- a sector becomes free: ones in its label and its value
abbrev pub release_writes : ℕ → List Event
release_writes at = relabel_writes at (ones 8) (ones 256)
