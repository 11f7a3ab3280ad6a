-- A walk before the next row is taken.
use Rattle.std.specs.Prelude.{◌≡◌, ◌≢◌, ◌⊎◌, ℕ, suc, ◌*◌, ◌<◌, true, false, Option, Some}
use Rattle.disk_records.specs.Packs.{AreFormed, Pack}
use Rattle.laws_mend.specs.laws_contents.specs.PageLaws.{FullBefore}
use Rattle.pack_model.specs.reading.Files.{lives, place}
use Rattle.pack_model.specs.reading.Sights.{sights}
use Rattle.scav_table.specs.declared.row.Row.{Row}
use Rattle.scav_table.specs.Laws.{IsFirstAbove}
use Rattle.scav_table.specs.Rows.{is_above, row_at}
use Rattle.scav_pages.specs.declared.files.FileWalk.{FileWalk}
use Rattle.scav_pages.specs.Walks.{AreWords, EndsAt, IsSeated, NoneAbove}

-- a walk may begin after this row: it is the last one of its file
abbrev pub MayBegin : Pack → Option Row → Type 0
MayBegin p last = (r : Row) → last ≡ Some r → AreWords r × NoneAbove p last r.page.fid

-- The next row is the lowest sector with its page. What the walk says of the row's file is so without it: whether it lives, unless the row is
-- its leader page; its pages; and where its bytes end, if they don't go on.
pub record Begun (p : Pack) (last : Option Row) (row : Row) (walk : FileWalk) : Type 0 where
  pub formed : AreFormed p
  pub words : AreWords row
  pub first : IsFirstAbove p last row
  pub seated : IsSeated p row
  pub lives_is : row.page.number ≢ 0 → walk.lives ≡ lives (sights p) row.page.fid
  pub later : (walk.pages < row.page.number) ⊎ ((walk.pages ≡ 0) × (row.page.number ≡ 0))
  pub full : walk.goes_on ≡ true → FullBefore p row.page.fid walk.pages × (walk.length ≡ 512 * walk.pages)
  pub next : walk.goes_on ≡ true → (at : ℕ) (r : Row) → place (sights p) row.page.fid (suc walk.pages) ≡ Some at → row_at p at ≡ Some r → is_above last r ≡ true
  pub ended : walk.goes_on ≡ false → EndsAt p row.page.fid walk.length walk.pages
