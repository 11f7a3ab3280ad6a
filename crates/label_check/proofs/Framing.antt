-- Where the record writes of guarded commands go.
use Rattle.std.proofs.Common.{◌≡◌, ◌≢◌, ℕ, Bool, IsTrue, List, [], ◌∷◌, Result}
use Rattle.disk_records.specs.declared.records.Event.{Event}
use Rattle.disk_records.specs.declared.records.Page.{Page}
use Rattle.disk_records.specs.Commands.{claim_writes, relabel_writes, release_writes, value_writes}
use Rattle.disk_records.specs.Frames.{IsFreeSector, IsUsableSector, WritesIn, WritesUsable}
use Rattle.disk_records.specs.Packs.{Pack}
use Rattle.disk_records.specs.Tapes.{Taped, added, pack}
use Rattle.disk_records.proofs.Framing.{carried_usable, free_usable, writes_some}
use Rattle.label_check.specs.Guarded.{Carries, Guarded}
use Rattle.label_check.specs.declared.errors.GuardError.{GuardError}

-- some of these record writes were made, and any only where the guard held
some_held : (Here : ℕ → Type 0) (Held : Type 0) (writes events : List Event) → (events ≢ [] → Held) → (Held → WritesIn Here writes) → (WritesIn Here writes → WritesIn Here events) → WritesIn Here events
some_held Here Held writes [] held all some = tt
some_held Here Held writes (e ∷ events) held all some = some (all (held (λ z. cc)))

-- the record writes that a guarded command made, where those of all of it are so if its guard holds
pub guarded_writes : {T : Type 0} (Here : ℕ → Type 0) {guard : Pack → Type 0} {at : ℕ} {early writes : List Event} {count : ℕ} {a b : Taped} {result : Result T GuardError}
    → Guarded guard at early writes count a b result → (guard (pack a) → WritesIn Here writes) → WritesIn Here (added a b)
guarded_writes Here {guard} {at} {early} {writes} {count} {a} {b} call all = some_held Here (guard (pack a)) writes (added a b) call.guarded all (writes_some Here writes (added a b) call.some)

-- ---- each command writes labels and values of its own sector alone
module _ (Here : ℕ → Type 0) (at : ℕ) (here : Here at) where
  pub value_here : (value : List ℕ) → WritesIn Here (value_writes at value)
  value_here value = ((λ z. cc), (here, tt))

  pub relabel_here : (label value : List ℕ) → WritesIn Here (relabel_writes at label value)
  relabel_here label value = ((λ z. cc), (here, value_here value))

  pub claim_here : (label value : List ℕ) → WritesIn Here (claim_writes at label value)
  claim_here label value = ((λ z. cc), (here, relabel_here label value))

  pub release_here : WritesIn Here (release_writes at)
  release_here = ((λ z. cc), (here, ((λ z. cc), (here, tt))))

-- ---- none of them writes sector 0, a sector with a wrong header, or a header
module _ {told : Bool} {at count : ℕ} {early : List Event} {a b : Taped} {result : Result (Unit {0}) GuardError} where
  pub usable_value : {page : Page} {value : List ℕ} → (IsTrue told → Guarded (Carries at page) at early (value_writes at value) count a b result) → WritesUsable told a b
  usable_value {page} {value} call = λ h. guarded_writes (IsUsableSector (pack a)) (call h) (λ held. value_here (IsUsableSector (pack a)) at (carried_usable (pack a) at page held) value)

  pub usable_relabel : {page : Page} {label value : List ℕ} → (IsTrue told → Guarded (Carries at page) at early (relabel_writes at label value) count a b result) → WritesUsable told a b
  usable_relabel {page} {label} {value} call = λ h. guarded_writes (IsUsableSector (pack a)) (call h) (λ held. relabel_here (IsUsableSector (pack a)) at (carried_usable (pack a) at page held) label value)

  pub usable_release : {page : Page} → (IsTrue told → Guarded (Carries at page) at early (release_writes at) count a b result) → WritesUsable told a b
  usable_release {page} call = λ h. guarded_writes (IsUsableSector (pack a)) (call h) (λ held. release_here (IsUsableSector (pack a)) at (carried_usable (pack a) at page held))

  pub usable_claim : {label value : List ℕ} → (IsTrue told → Guarded (λ p. IsFreeSector p at) at early (claim_writes at label value) count a b result) → WritesUsable told a b
  usable_claim {label} {value} call = λ h. guarded_writes (IsUsableSector (pack a)) (call h) (λ free. claim_here (IsUsableSector (pack a)) at (free_usable (pack a) at free) label value)
