-- Record writes each of which changes what stands.
use Rattle.std.specs.Prelude.{◌≡◌, ◌≢◌, ◌==◌, ℕ, false, cond, List, [], ◌∷◌, Option, Some, None}
use Rattle.disk_records.specs.declared.records.Event.{Event}
use Rattle.disk_records.specs.declared.records.Event.TheVariants.{Shown, Wrote}
use Rattle.disk_records.specs.Packs.{Pack, after, is_free_at, sector_at}
use Rattle.laws_mend.specs.Tending.{AllTends}

-- the sector whose label this record write is, if it is one of a label
abbrev pub labelled_by : ℕ → ℕ → Option ℕ
labelled_by at part = cond (part == 1) (Some at) None

-- A label that is written isn't the one that stands. Neither is a value, unless its sector is free or got its label just before.
pub record Changes (labelled : Option ℕ) (p : Pack) (at part : ℕ) (words : List ℕ) : Type 0 where
  pub label : part ≡ 1 → words ≢ (sector_at p at).label
  pub value : part ≡ 2 → is_free_at p at ≡ false → labelled ≢ Some at → words ≢ (sector_at p at).value

-- so it is with each of these record writes, before which this sector got its label, or none
abbrev pub ChangeAfter : Option ℕ → Pack → List Event → Type 0
ChangeAfter labelled p [] = Unit {0}
ChangeAfter labelled p (Wrote at part words ∷ events) = Changes labelled p at part words × ChangeAfter (labelled_by at part) (after p (Wrote at part words ∷ [])) events
ChangeAfter labelled p (Shown byte ∷ events) = ChangeAfter labelled p events

abbrev pub AllChange : Pack → List Event → Type 0
AllChange p events = ChangeAfter None p events

-- each crash point of these record writes keeps what a mending keeps, and each of them changes what stands
pub record AllMend (p : Pack) (events : List Event) : Type 0 where
  pub tends : AllTends p events
  pub changes : AllChange p events
