-- A pass along all rows, window by window.
use Rattle.std.specs.Prelude.{◌≡◌, ◌≤◌, ◌==◌, Bool, true, false, cond, IsTrue, List, [], ◌∷◌, ◌++◌, length, drop, Option, Some, None}
use Rattle.disk_records.specs.Packs.{Pack}
use Rattle.scav_table.specs.declared.pass.Pass.{Pass as RowPass}
use Rattle.scav_table.specs.declared.row.Row.{Row}
use Rattle.scav_table.specs.Rows.{is_above, is_below, no_row, Rises, AreLow, last_or, rows_above}
use Rattle.scav_table.specs.Windows.{Window}

-- the first of a list
abbrev pub first_of : List Row → Option Row
first_of [] = None
first_of (x ∷ xs) = Some x

-- what comes after a window: where it is full the rows above its bound, else nothing
abbrev pub after_window : Bool → Pack → Option Row → List Row
after_window full p bound = cond full (rows_above p bound) []

-- A pass stands in its table: the rows of the window that it hasn't given rise above the row in hand, and where the machine is modelled
-- the rows above the row in hand are these and what comes after the window. The bound isn't below the window's last row.
pub record Stands (told : Bool) (p : Pack) (table : Window) (pass : RowPass) : Type 0 where
  pub within : pass.place ≤ length table.rows
  pub most : length table.rows ≤ 1024
  pub low : AreLow 65536 table.rows
  pub rises : Rises pass.last (drop pass.place table.rows)
  pub higher : (x : Row) → is_above table.bound x ≡ true → is_above (last_or pass.last (drop pass.place table.rows)) x ≡ true
  pub left : IsTrue told → rows_above p pass.last ≡ drop pass.place table.rows ++ after_window (length table.rows == 1024) p table.bound

-- a row that comes next is above the row in hand, and below no row: so a pass ends
abbrev pub IsNext : Option Row → Option Row → Type 0
IsNext last None = Unit {0}
IsNext last (Some r) = (is_above last r ≡ true) × (is_below r no_row ≡ true)

-- no row, or one at or below the row in hand
abbrev pub IsPassed : Option Row → Option Row → Type 0
IsPassed last None = Unit {0}
IsPassed last (Some r) = is_above last r ≡ false
