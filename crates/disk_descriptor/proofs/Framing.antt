-- Where values of DiskDescriptor's pages are written: in sectors that carry them.
use Rattle.std.proofs.Common.{Bool, IsTrue, List, Result, [], length, suc, zero, ℕ, ◌+◌, ◌∷◌, arith}
use Rattle.disk_records.proofs.Framing.{carried_usable}
use Rattle.disk_records.specs.Frames.{IsUsableSector, WritesIn, WritesUsable}
use Rattle.disk_records.specs.Packs.{Pack}
use Rattle.disk_records.specs.Tapes.{Taped, added, pack}
use Rattle.disk_records.specs.declared.records.Event.{Event}
use Rattle.disk_records.specs.declared.records.Event.TheVariants.{Shown, Wrote}
use Rattle.disk_descriptor.specs.Writing.{AreOwnValues, WritesOwn, data_page}
use Rattle.disk_descriptor.specs.declared.errors.DescError.{DescError}

own_usable : (p : Pack) (pages : List ℕ) (n : ℕ) (events : List Event) → AreOwnValues p pages n events → WritesIn (IsUsableSector p) events
own_usable p pages n [] own = tt
own_usable p pages zero (e ∷ events) own = absurd own
own_usable p pages (suc n) (Shown byte ∷ events) own = absurd own.0
own_usable p pages (suc n) (Wrote at part words ∷ events) own =
    let value = own.0.0 in
    ((λ is. omega (arith, is, value)), (carried_usable p at (data_page (n + 1)) own.0.2, own_usable p pages n events own.1))

-- such a call leaves sector 0, each sector with a wrong header and every header alone
pub usable_own : {told : Bool} {T : Type 0} {pages : List ℕ} {wanted : List Event} {most : ℕ} {a b : Taped} {result : Result T DescError} → (IsTrue told → WritesOwn pages wanted most a b result) → WritesUsable told a b
usable_own {pages = pages} {a = a} {b = b} call = λ told. own_usable (pack a) pages (length pages) (added a b) (call told).own
