-- A call on a machine that is modelled that never goes astray: neither does one that passes its error on.
use Rattle.std.proofs.Common.{◌≡◌, ℕ, List, Result, Ok, Err, ap}
use Rattle.std.specs.Prelude.{IsErrAnd, IsErrOf}
use Rattle.disk_records.specs.declared.records.Event.{Event}
use Rattle.disk_records.specs.Packs.{Pack}
use Rattle.disk_records.specs.Tapes.{Taped, pack}
use Rattle.label_check.specs.declared.errors.GuardError.{GuardError}
use Rattle.label_check.specs.declared.errors.GuardError.TheVariants as guard_error
use Rattle.label_check.specs.Guarded.{Guarded}
use Rattle.scav_pages.specs.declared.errors.Stop.{Stop}
use Rattle.scav_pages.specs.declared.errors.Stop.TheVariants.{Memory, Astray}
use Rattle.scav_pages.specs.Stops.{stop_of_guard}

-- the error of a part
pub found_part : {S T : Type 0} (e : Stop) (result : Result T Stop) → (IsErrOf {T = S} (Err e) Astray → ⊥) → IsErrAnd result (λ s. s ≡ e) → IsErrOf result Astray → ⊥
found_part e (Ok x) found is astray = is
found_part e (Err s) found is astray = (let same : e ≡ Astray = cc in found (ap Err same))

-- want of memory
pub found_memory : {T : Type 0} (result : Result T Stop) → IsErrAnd result (λ s. s ≡ Memory) → IsErrOf result Astray → ⊥
found_memory (Ok x) is astray = is
found_memory (Err s) is astray = cc

-- a guarded command whose guard holds
held : {T : Type 0} {b c : Taped} {guard : Pack → Type 0} {at count : ℕ} {early writes : List Event} (e : GuardError) → Guarded {T = T} guard at early writes count b c (Err e) → guard (pack b) → stop_of_guard e ≡ Astray → ⊥
held (guard_error.Wrong found) g here is = g.wrong.failed here
held guard_error.DiskFault g here is = cc
held guard_error.Memory g here is = cc

pub found_guarded : {S T : Type 0} {b c : Taped} {guard : Pack → Type 0} {at count : ℕ} {early writes : List Event} (e : GuardError) (result : Result T Stop) → Guarded {T = S} guard at early writes count b c (Err e) → guard (pack b) → IsErrAnd result (λ s. s ≡ stop_of_guard e) → IsErrOf result Astray → ⊥
found_guarded e (Ok x) g here is astray = is
found_guarded e (Err s) g here is astray = (let same : stop_of_guard e ≡ Astray = cc in held e g here same)
