-- Where record writes go.
use Rattle.std.specs.Prelude.{◌≡◌, ◌≢◌, ℕ, true, Bool, IsTrue, List, [], ◌∷◌, Some}
use Rattle.alto_words.specs.declared.fid.Fid.{Fid}
use Rattle.disk_records.specs.declared.records.Event.{Event}
use Rattle.disk_records.specs.declared.records.Event.TheVariants.{Wrote, Shown}
use Rattle.disk_records.specs.Packs.{Pack, carried, is_free_at, is_usable, sector_at}
use Rattle.disk_records.specs.Tapes.{Taped, added, pack}

-- Each of these record writes is of a label or a value, none of a header, and in a sector of which this holds.
abbrev pub WritesIn : (ℕ → Type 0) → List Event → Type 0
WritesIn Here [] = Unit {0}
WritesIn Here (Wrote at part words ∷ events) = (part ≢ 0) × (Here at × WritesIn Here events)
WritesIn Here (Shown byte ∷ events) = WritesIn Here events

-- ---- what a sector is on a pack
-- it isn't sector 0, and its header is right
abbrev pub IsUsableSector : Pack → ℕ → Type 0
IsUsableSector p at = is_usable p.shape at (sector_at p at) ≡ true

-- it is free
abbrev pub IsFreeSector : Pack → ℕ → Type 0
IsFreeSector p at = is_free_at p at ≡ true

-- it carries a page of this file
pub record IsPageOf (f : Fid) (p : Pack) (at : ℕ) : Type 0 where
  pub number : ℕ
  pub carries : carried p at ≡ Some (record { fid = f; number = number })

-- ---- what a call leaves alone
-- Where the machine is modelled sector 0 and each sector with a wrong header keep all of their records, and every other sector its header.
abbrev pub WritesUsable : Bool → Taped → Taped → Type 0
WritesUsable told old new = IsTrue told → WritesIn (IsUsableSector (pack old)) (added old new)
