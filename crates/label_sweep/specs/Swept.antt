-- What a sweep of all sectors hands to a visitor.
use Rattle.std.specs.Prelude.{◌≡◌, ℕ, ◌+◌, Bool, IsTrue, List, ◌∷◌, length}
use Rattle.std.specs.List.{FoldsTo}
use Rattle.disk_records.specs.Addresses.{pages_of}
use Rattle.disk_records.specs.Tapes.{Taped, pack}
use Rattle.pack_model.specs.reading.Files.{numbered}
use Rattle.pack_model.specs.reading.Sights.{Sight, sights}
use Rattle.pack_model.specs.reading.Sights.Sight.{hidden}

-- one sector was seen and so handed on; where the machine is modelled, as what it shows
pub record HasSeen (told : Bool) (shows : Sight) (Step : Sight → Type 0) : Type 0 where
  pub seen : Sight
  pub is : IsTrue told → seen ≡ shows
  pub step : Step seen

-- Each sector from 1 on was handed on, in rising order, with what was seen there. Where the machine is modelled that is what the pack
-- shows: sector 0 shows nothing.
pub record Swept {V : Type 0} (told : Bool) (step : V → ℕ → Sight → V → Type 0) (t : Taped) (before after : V) : Type 0 where
  pub seen : List Sight
  pub count : 1 + length seen ≡ pages_of t.form
  pub shows : IsTrue told → hidden ∷ seen ≡ sights (pack t)
  pub folds : FoldsTo (λ v e w. step v e.0 e.1 w) before (numbered 1 seen) after
