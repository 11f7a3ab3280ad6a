-- A table, as its contracts see it.
use Rattle.std.specs.Prelude.{◌≡◌, ℕ, ◌≤◌, ◌==◌, Bool, IsTrue, cond, List, [], ◌∷◌, length, Option, None}
use Rattle.disk_records.specs.Tapes.{Taped, pack}
use Rattle.pack_model.specs.reading.Sights.{sights}
use Rattle.pack_model.specs.states.InUse.{bad_sectors}
use Rattle.scav_table.specs.declared.row.Row.{Row}
use Rattle.scav_table.specs.Rows as pack_rows
use Rattle.scav_table.specs.Rows.{Rises, AreLow}

-- the rows of the window, the last row that was given, and the number of sectors with a wrong header
pub record Window : Type 0 where
  pub rows : List Row
  pub bound : Option Row
  pub bad : ℕ

-- those of a list before the first without an address
abbrev pub given : List Row → List Row
given [] = []
given (r ∷ rs) = cond (r.at == 0) [] (r ∷ given rs)

-- so many items: rows that rise, and no rows after them
pub record IsWindow (n : ℕ) (list : List Row) : Type 0 where
  pub size : length list ≡ n
  pub rises : Rises None (given list)
  pub low : AreLow 65536 (given list)
  pub padded : list ≡ pack_rows.padded n (given list)

-- The first rows above a bound. Where the machine is modelled these are the pack's, and so is the number of bad sectors.
pub record IsFilled (told : Bool) (t : Taped) (bound : Option Row) (list : List Row) (bad : ℕ) : Type 0 where
  pub rows : IsTrue told → list ≡ pack_rows.window (pack t) bound
  pub rises : Rises bound list
  pub low : AreLow 65536 list
  pub most : length list ≤ 1024
  pub wrong : IsTrue told → bad ≡ bad_sectors (sights (pack t))
