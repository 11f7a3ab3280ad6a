-- What holds of rows and passes.
use Rattle.std.specs.Prelude.{◌≡◌, ◌≢◌, ◌↔◌, ℕ, ◌≤◌, ◌==◌, true, false, Any, Bool, List, [], ◌∷◌, ◌++◌, length, Option, Some, None}
use Rattle.disk_records.specs.declared.records.Event.TheVariants.{Wrote}
use Rattle.disk_records.specs.Packs.{Pack, after, sector_at}
use Rattle.scav_table.specs.declared.pass.Pass.{Pass as RowPass}
use Rattle.scav_table.specs.declared.row.Row.{Row}
use Rattle.scav_table.specs.Passes.{Stands, IsPassed, after_window, first_of}
use Rattle.scav_table.specs.Rows.{Rises, is_above, is_below, last_or, row_at, rows, rows_above, window}
use Rattle.scav_table.specs.Windows.{Window}

-- ---- the next row
-- the row of its sector, and the first of those that are above a row
pub record IsFirstAbove (p : Pack) (last : Option Row) (row : Row) : Type 0 where
  pub here : row_at p row.at ≡ Some row
  pub above : is_above last row ≡ true
  pub least : (at : ℕ) (r : Row) → row_at p at ≡ Some r → is_above last r ≡ true → is_below r row ≡ false

-- the row that a pass gives after this one is the first above it; where it gives none, no row is above it
abbrev pub IsNextRow : Pack → Option Row → Option Row → Type 0
IsNextRow p last None = (at : ℕ) → IsPassed last (row_at p at)
IsNextRow p last (Some row) = IsFirstAbove p last row

-- so it is with the first of the rows above
abbrev pub FirstIsLeast : Type 0
FirstIsLeast = (p : Pack) (last : Option Row) → length p.sectors ≤ 65536 → IsNextRow p last (first_of (rows_above p last))

-- ---- rows and passes
-- the rows of a pack are those of its sectors from 1 on
abbrev pub RowsAreSectors : Type 0
RowsAreSectors = (p : Pack) (row : Row) → length p.sectors ≤ 65536 → Any (λ r. r ≡ row) (rows p) ↔ ((1 ≤ row.at) × (row_at p row.at ≡ Some row))

-- the rows of a pack rise, so they are distinct
abbrev pub RowsRise : Type 0
RowsRise = (p : Pack) → length p.sectors ≤ 65536 → Rises None (rows p)

-- the rows above the next one are those after it
abbrev pub RowsAfterNext : Type 0
RowsAfterNext = (p : Pack) (last : Option Row) (row : Row) (rest : List Row) → length p.sectors ≤ 65536 → rows_above p last ≡ row ∷ rest → rows_above p (Some row) ≡ rest

-- A window and what comes after it are all rows above the bound: so the windows of a pack that stays, joined, are its rows.
abbrev pub WindowsJoin : Type 0
WindowsJoin = (p : Pack) (bound : Option Row) → length p.sectors ≤ 65536 → rows_above p bound ≡ window p bound ++ after_window (length (window p bound) == 1024) p (last_or bound (window p bound))

-- windows one after another, each above the last row of the one before, up to an empty one, and their rows together
pub data AreWindows (p : Pack) : Option Row → List Row → Type 0 where
  none : {bound : Option Row} → window p bound ≡ [] → AreWindows p bound []
  more : {bound : Option Row} {rest all : List Row} → all ≡ window p bound ++ rest → AreWindows p (last_or bound (window p bound)) rest → AreWindows p bound all

-- from the first on they are all rows of the pack
abbrev pub WindowsAreRows : Type 0
WindowsAreRows = (p : Pack) (all : List Row) → length p.sectors ≤ 65536 → AreWindows p None all → all ≡ rows p

-- A record write in a sector whose row, before and after, is at or below the bound leaves the rows above it.
abbrev pub RowsAboveStay : Type 0
RowsAboveStay = (p : Pack) (bound : Option Row) (at part : ℕ) (words : List ℕ) → IsPassed bound (row_at p at) → IsPassed bound (row_at (after p (Wrote at part words ∷ [])) at) → rows_above (after p (Wrote at part words ∷ [])) bound ≡ rows_above p bound

-- So a pass goes on as before over a pack that is written at or below the row in hand.
abbrev pub PassGoesOn : Type 0
PassGoesOn = (told : Bool) (p : Pack) (table : Window) (pass : RowPass) (at part : ℕ) (words : List ℕ) → Stands told p table pass → IsPassed pass.last (row_at p at) → IsPassed pass.last (row_at (after p (Wrote at part words ∷ [])) at) → Stands told (after p (Wrote at part words ∷ [])) table pass

-- two packs of one shape and size, alike except in one sector
pub record WritesAt (at : ℕ) (p q : Pack) : Type 0 where
  pub shape : q.shape ≡ p.shape
  pub size : length q.sectors ≡ length p.sectors
  pub others : (i : ℕ) → i ≢ at → sector_at q i ≡ sector_at p i

-- and so over a pack that is alike except in a sector at or below the row in hand, whatever was written there
abbrev pub PassGoesOnOver : Type 0
PassGoesOnOver = (told : Bool) (p q : Pack) (table : Window) (pass : RowPass) (at : ℕ) → Stands told p table pass → WritesAt at p q → IsPassed pass.last (row_at p at) → IsPassed pass.last (row_at q at) → Stands told q table pass
