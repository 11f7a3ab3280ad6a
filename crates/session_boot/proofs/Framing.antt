-- Where the record writes of turns go: in usable sectors, and none is of a header.
use Rattle.std.proofs.Common.{◌≡◌, ◌∙◌, ◌∷◌, ℕ, Bool, IsTrue, List, Result, [], ap, arith, drop, length, subst, sym}
use Rattle.disk_records.proofs.Framing.{usable_by_sector, writes_then}
use Rattle.disk_records.proofs.Growing.{nothing_added}
use Rattle.disk_records.specs.declared.records.Event.{Event}
use Rattle.disk_records.specs.declared.records.Event.TheVariants.{Shown, Wrote}
use Rattle.disk_records.specs.Events.{writes_in}
use Rattle.disk_records.specs.Frames.{IsUsableSector, WritesIn, WritesUsable}
use Rattle.disk_records.specs.Tapes.{Grown, KeysAlone, Taped, added, pack}
use Rattle.session_boot.specs.declared.status.Fault.{Fault}
use Rattle.session_boot.specs.Keys.{ShownAll}
use Rattle.session_boot.proofs.Unread.{first_shown}

-- where there are none
pub writes_none : (Here : ℕ → Type 0) (events : List Event) → writes_in events ≡ 0 → WritesIn Here events
writes_none Here [] none = tt
writes_none Here (Wrote at part words ∷ events) none = absurd (omega (arith, none))
writes_none Here (Shown byte ∷ events) none = writes_none Here events none

module _ {told : Bool} {a b : Taped} where
  -- a call that makes none, one that shows, and one that takes keys
  pub usable_none : Grown a b → (IsTrue told → writes_in (added a b) ≡ 0) → WritesUsable told a b
  usable_none grown none = λ h. writes_none (IsUsableSector (pack a)) (added a b) (none h)

  pub usable_shown : {bytes : List ℕ} {result : Result (Unit {0}) Fault} → (IsTrue told → ShownAll bytes a b result) → WritesUsable told a b
  usable_shown {bytes} shown = λ h. writes_none (IsUsableSector (pack a)) (added a b) (first_shown bytes (added a b) (shown h).some)

  pub usable_keys : KeysAlone a b → WritesUsable told a b
  usable_keys keys = usable_none keys.grown (λ h. ap writes_in (ap (drop (length a.events)) keys.events ∙ nothing_added a.events))

module _ {told : Bool} {a b c : Taped} where
  -- two calls one after the other
  pub usable_grown : Grown a b → Grown b c → WritesUsable told a b → WritesUsable told b c → WritesUsable told a c
  usable_grown x y first second = λ h. writes_then IsUsableSector usable_by_sector x y (first h) (second h)

  -- after the first one, or before the second, the machine is as it was
  pub usable_still : Grown a b → (IsTrue told → c ≡ b) → WritesUsable told a b → WritesUsable told a c
  usable_still grown still first = λ h. subst (λ t. WritesIn (IsUsableSector (pack a)) (added a t)) (sym (still h)) (first h)

  pub still_usable : Grown b c → (IsTrue told → b ≡ a) → WritesUsable told b c → WritesUsable told a c
  still_usable grown still second = λ h. subst (λ t. WritesIn (IsUsableSector (pack t)) (added t c)) (still h) (second h)
