-- What one sweep of all labels leaves in a window.
use Rattle.std.specs.Prelude.{◌≡◌, ℕ, ◌+◌, Bool, IsTrue, List, length, Option, None}
use Rattle.disk_records.specs.Tapes.{Taped, pack}
use Rattle.pack_model.specs.reading.Sights.{sights}
use Rattle.pack_model.specs.states.InUse.{bad_sectors}
use Rattle.scav_table.specs.declared.row.Row.{Row}
use Rattle.scav_table.specs.Rows.{Rises, IsLow, AreLow, above, padded, rows}

-- The window holds the least rows above the bound of those that were seen. Where the machine is modelled these are the pack's.
pub record Filled (told : Bool) (t : Taped) (bound : Option Row) (bad : ℕ) (list : List Row) : Type 0 where
  pub seen : List Row
  pub rises : Rises None seen
  pub low : AreLow 65536 seen
  pub holds : list ≡ padded (length list) (above bound seen)
  pub shows : IsTrue told → seen ≡ rows (pack t)
  pub wrong : IsTrue told → bad ≡ bad_sectors (sights (pack t))

-- the row of the sector at this address, of any pack
pub record IsRowAt (at : ℕ) (r : Row) : Type 0 where
  pub here : r.at ≡ at
  pub low : IsLow (at + 1) r
