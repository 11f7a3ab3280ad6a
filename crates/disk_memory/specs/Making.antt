-- Making a machine of some sectors.
use Rattle.std.specs.Prelude.{◌≡◌, ◌≢◌, ℕ, List, [], take}
use Rattle.disk_records.specs.declared.shape.Shape.{Shape}
use Rattle.disk_records.specs.declared.records.Sector.{Sector}
use Rattle.disk_records.specs.Events.{writes_in}
use Rattle.disk_records.specs.Tapes.{Taped, capped}
use Rattle.disk_memory.specs.declared.error.NewError.{NewError}
use Rattle.disk_memory.specs.declared.error.NewError.TheVariants.{WrongCount, Memory}

-- the error of a shape of so many sectors and of so many that were given
abbrev pub IsNewErrorAt : ℕ → ℕ → NewError → Type 0
IsNewErrorAt wanted got (WrongCount w g) = (w ≡ wanted) × (g ≡ got) × (got ≢ wanted)
IsNewErrorAt wanted got Memory = got ≡ wanted

-- a machine before its first call
abbrev pub first_tape : Shape → List Sector → List ℕ → Taped
first_tape shape sectors keys = record { form = shape; base = sectors; events = []; keys = keys; disk_faults = 0; key_faults = 0; show_faults = 0; runs = 0; writes = 0; spare = 0 }

-- a machine as another stood after its first `count` events
pub record IsCut (old : Taped) (count : ℕ) (new : Taped) : Type 0 where
  pub form : new.form ≡ old.form
  pub base : new.base ≡ old.base
  pub events : new.events ≡ take count old.events
  pub keys : new.keys ≡ []
  pub disk_faults : new.disk_faults ≡ 0
  pub key_faults : new.key_faults ≡ 0
  pub show_faults : new.show_faults ≡ 0
  pub runs : new.runs ≡ 0
  pub writes : new.writes ≡ capped (writes_in (take count old.events))
