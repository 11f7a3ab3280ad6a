-- A walk along the rows of a pack: the file in hand, and how far its bytes go.
use Rattle.std.specs.Prelude.{◌≡◌, ◌≢◌, ℕ, suc, ◌+◌, ◌-◌, ◌*◌, ◌/◌, ◌<◌, ◌≤◌, true, false, length, Option, Some, None}
use Rattle.std.specs.Option.{is_some, option_map, option_map_or}
use Rattle.alto_words.specs.declared.fid.Fid.{Fid}
use Rattle.disk_records.specs.declared.records.Page.{Page}
use Rattle.disk_records.specs.Packs.{AreFormed, Pack, carried}
use Rattle.laws_mend.specs.laws_contents.specs.PageLaws.{FullBefore}
use Rattle.pack_model.specs.reading.Files.{lives, file_bytes, place}
use Rattle.pack_model.specs.reading.Sights.{sights}
use Rattle.scav_table.specs.declared.row.Row.{Row}
use Rattle.scav_table.specs.Passes.{IsPassed}
use Rattle.scav_table.specs.Rows.{is_above, row_at}
use Rattle.scav_pages.specs.declared.files.FileWalk.{FileWalk}
use Rattle.scav_pages.specs.declared.files.Met.{Met}
use Rattle.scav_pages.specs.declared.files.Met.TheVariants.{Copy, Leader, Next, Past}

-- ---- the next row
-- the five numbers of a row are words, as those of each row in hand
pub record AreWords (r : Row) : Type 0 where
  pub high : r.page.fid.high < 65536
  pub low : r.page.fid.low < 65536
  pub version : r.page.fid.version < 65536
  pub number : r.page.number < 65536
  pub at : r.at < 65536

-- ---- the file in hand
-- the file in hand, and the page and the sector of its last row that was no second copy
abbrev pub file_in_hand : FileWalk → Option Fid
file_in_hand walk = option_map (λ r. r.page.fid) walk.last

abbrev pub page_in_hand : FileWalk → Option Page
page_in_hand walk = option_map (λ r. r.page) walk.last

abbrev pub sector_in_hand : FileWalk → ℕ
sector_in_hand walk = option_map_or (λ r. r.at) walk.last 0

-- the row is of another file than the one in hand
abbrev pub IsOtherFile : FileWalk → Row → Type 0
IsOtherFile walk row = (file_in_hand walk ≢ None) × (file_in_hand walk ≢ Some row.page.fid)

-- no row above `last` is of this file
abbrev pub NoneAbove : Pack → Option Row → Fid → Type 0
NoneAbove p last f = (at : ℕ) (r : Row) → row_at p at ≡ Some r → is_above last r ≡ true → f ≢ r.page.fid

-- the bytes of a file are so many, and end in its data page with this number, which is carried
pub record EndsAt (p : Pack) (f : Fid) (bytes last : ℕ) : Type 0 where
  pub size : bytes ≡ length (file_bytes (sights p) f)
  pub pages : last ≡ suc (bytes / 512)
  pub before : FullBefore p f (last - 1)
  pub carried : is_some (place (sights p) f last) ≡ true

-- What is known of the file in hand, of whose rows those up to `last` were met. As long as its bytes go on all its data pages that count are
-- full, and the next one, if it is carried, comes after the rows that were met; once they don't, they are at their end.
pub record IsInFile (p : Pack) (last : Option Row) (f : Fid) (walk : FileWalk) : Type 0 where
  pub lives_is : walk.lives ≡ lives (sights p) f
  pub full : walk.goes_on ≡ true → FullBefore p f walk.pages × (walk.length ≡ 512 * walk.pages)
  pub next : walk.goes_on ≡ true → (at : ℕ) (r : Row) → place (sights p) f (suc walk.pages) ≡ Some at → row_at p at ≡ Some r → is_above last r ≡ true
  pub ended : walk.goes_on ≡ false → EndsAt p f walk.length walk.pages

-- the last row of a walk that was no second copy: it has the page of the last row, and is the lowest sector that carries it
pub record IsInHand (p : Pack) (last : Option Row) (walk : FileWalk) (row : Row) : Type 0 where
  pub page : option_map (λ r. r.page) last ≡ Some row.page
  pub seated : place (sights p) row.page.fid row.page.number ≡ Some row.at
  pub passed : IsPassed last (row_at p row.at)
  pub pages : walk.pages ≤ row.page.number

-- no row was met of the file that comes next
pub record IsFresh (walk : FileWalk) : Type 0 where
  pub last : walk.last ≡ None
  pub lives : walk.lives ≡ false
  pub pages : walk.pages ≡ 0
  pub goes_on : walk.goes_on ≡ true
  pub length : walk.length ≡ 0

-- The walk has met the rows up to `last`, or begins where their last file was left.
pub record Walked (p : Pack) (last : Option Row) (walk : FileWalk) : Type 0 where
  pub formed : AreFormed p
  pub words : (r : Row) → last ≡ Some r → AreWords r
  pub begins : walk.last ≡ None → IsFresh walk
  pub fresh : walk.last ≡ None → (r : Row) → last ≡ Some r → NoneAbove p last r.page.fid
  pub hand : (r : Row) → walk.last ≡ Some r → IsInHand p last walk r
  pub file : (f : Fid) → file_in_hand walk ≡ Some f → IsInFile p last f walk

-- no row of the file in hand comes after the rows that were met
abbrev pub IsLeft : Pack → Option Row → FileWalk → Type 0
IsLeft p last walk = (f : Fid) → file_in_hand walk ≡ Some f → NoneAbove p last f

-- ---- what a row is to its file
-- the lowest sector that carries its page
abbrev pub IsSeated : Pack → Row → Type 0
IsSeated p row = place (sights p) row.page.fid row.page.number ≡ Some row.at

-- the data pages more that the bytes have
abbrev pub pages_met : Met → ℕ
pages_met Copy = 0
pages_met Leader = 0
pages_met Next = 1
pages_met Past = 0

-- and the bytes
abbrev pub bytes_met : Met → Row → ℕ
bytes_met Copy row = 0
bytes_met Leader row = 0
bytes_met Next row = row.bytes
bytes_met Past row = 0

abbrev pub IsMet : Pack → Row → Met → Type 0
IsMet p row Copy = (lower : ℕ) × (lower < row.at) × (carried p lower ≡ Some row.page)
IsMet p row Leader = IsSeated p row × (row.page.number ≡ 0)
IsMet p row Next = IsSeated p row × (1 ≤ row.page.number) × FullBefore p row.page.fid (row.page.number - 1)
IsMet p row Past = IsSeated p row × (suc (length (file_bytes (sights p) row.page.fid) / 512) < row.page.number)

-- the bytes go on with this row: all pages before it are full, and it is counted
pub record GoesOn (row : Row) (walk : FileWalk) : Type 0 where
  pub pages : walk.pages ≡ row.page.number
  pub size : walk.length ≡ 512 * (row.page.number - 1) + row.bytes
