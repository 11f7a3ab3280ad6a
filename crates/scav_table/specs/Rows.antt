-- The rows of a pack: its sectors that carry pages, in the order of files, pages and addresses.
use Rattle.std.specs.Prelude.{◌≡◌, ℕ, suc, ◌+◌, ◌*◌, ◌<◌, ◌≤◌, Bool, true, cond, nat_lt, List, [], ◌∷◌, ◌++◌, take, replicate, Option, Some, None}
use Rattle.disk_records.specs.declared.records.Page.{Page}
use Rattle.disk_records.specs.declared.records.Sector.{Sector}
use Rattle.disk_records.specs.declared.shape.Shape.{Shape}
use Rattle.disk_records.specs.Labels.{page_of}
use Rattle.disk_records.specs.Packs.{Pack, is_usable, sector_at}
use Rattle.disk_records.specs.Words.{word}
use Rattle.scav_table.specs.declared.row.Row.{Row}

-- ---- the order
-- file, page number and address as one number of five words; the bytes that count aren't in the order
unfoldable pub rank : Row → ℕ
rank r = (((r.page.fid.high * 65536 + r.page.fid.low) * 65536 + r.page.fid.version) * 65536 + r.page.number) * 65536 + r.at

abbrev pub is_below : Row → Row → Bool
is_below a b = nat_lt (rank a) (rank b)

-- above a bound, where there is one
abbrev pub is_above : Option Row → Row → Bool
is_above None r = true
is_above (Some b) r = is_below b r

-- those of a list that are above the bound
abbrev pub above : Option Row → List Row → List Row
above b [] = []
above b (x ∷ xs) = cond (is_above b x) (x ∷ above b xs) (above b xs)

-- each is above the one before it, and the first above the bound
abbrev pub Rises : Option Row → List Row → Type 0
Rises b [] = Unit {0}
Rises b (x ∷ xs) = (is_above b x ≡ true) × Rises (Some x) xs

-- the last of a list, and the bound where there is none
abbrev pub last_or : Option Row → List Row → Option Row
last_or b [] = b
last_or b (x ∷ xs) = last_or (Some x) xs

-- after all that are below it
abbrev pub placed : Row → List Row → List Row
placed row [] = row ∷ []
placed row (x ∷ xs) = cond (is_below x row) (x ∷ placed row xs) (row ∷ x ∷ xs)

-- what a window holds after its rows: no sector has it, and it is above all rows that a sector can have
abbrev pub no_row : Row
no_row = record { page = record { fid = record { high = 65535; low = 65535; version = 65535 }; number = 65535 }; at = 0; bytes = 0 }

-- so many items: those of the list, and after them no rows
unfoldable pub padded : ℕ → List Row → List Row
padded n xs = take n (xs ++ replicate n no_row)

-- a row that a sector from 1 on below `end` can have
pub record IsLow (end : ℕ) (r : Row) : Type 0 where
  pub first : 1 ≤ r.at
  pub within : r.at < end
  pub below : is_below r no_row ≡ true

abbrev pub AreLow : ℕ → List Row → Type 0
AreLow end [] = Unit {0}
AreLow end (x ∷ xs) = IsLow end x × AreLow end xs

-- ---- the rows of sectors
abbrev pub row_in : ℕ → ℕ → Option Page → Option Row
row_in at bytes None = None
row_in at bytes (Some page) = Some (record { page = page; at = at; bytes = bytes })

-- the row of a sector, where its header is right and its label in range
unfoldable pub row_of : Shape → ℕ → Sector → Option Row
row_of shape at s = cond (is_usable shape at s) (row_in at (word s.label 3) (page_of s.label)) None

abbrev pub row_at : Pack → ℕ → Option Row
row_at p at = row_of p.shape at (sector_at p at)

unfoldable pub rows_from : Shape → ℕ → List Sector → List (Option Row)
rows_from shape at [] = []
rows_from shape at (s ∷ sectors) = row_of shape at s ∷ rows_from shape (suc at) sectors

abbrev pub with_row : Option Row → List Row → List Row
with_row None xs = xs
with_row (Some row) xs = placed row xs

-- the rows of sectors, each put in its place among those before it
abbrev pub in_order : List Row → List (Option Row) → List Row
in_order xs [] = xs
in_order xs (s ∷ ss) = in_order (with_row s xs) ss

abbrev pub sector_rows : Pack → List (Option Row)
sector_rows p = rows_from p.shape 0 p.sectors

unfoldable pub rows : Pack → List Row
rows p = in_order [] (sector_rows p)

unfoldable pub rows_above : Pack → Option Row → List Row
rows_above p b = above b (rows p)

-- a window: the first 1,024 rows above a bound, or all of them where there are fewer
abbrev pub window : Pack → Option Row → List Row
window p b = take 1024 (rows_above p b)
