-- The bytes of a file by the values of its pages, on any pack.
use Rattle.std.specs.Prelude.{Some, drop, get_or, length, min, suc, take, List, [], ℕ, ◌%◌, ◌*◌, ◌++◌, ◌+◌, ◌-◌, ◌/◌, ◌<◌, ◌∷◌, ◌≡◌, ◌≤◌}
use Rattle.laws_record.specs.alto_words.specs.declared.fid.Fid.{Fid}
use Rattle.laws_record.specs.disk_records.specs.Packs.{Pack, sector_at}
use Rattle.laws_record.specs.pack_model.specs.operations.Committing.{page_of_byte}
use Rattle.laws_record.specs.pack_model.specs.reading.Bytes.{bytes_of}
use Rattle.laws_record.specs.pack_model.specs.reading.Files.{file_bytes, place}
use Rattle.laws_record.specs.pack_model.specs.reading.Sights.{sights}
use Rattle.laws_contents.specs.PageLaws.{FullBefore, bytes_at}

-- ---- one page
-- Data page k of a file, counted from 0, is the 512 bytes from 512 * k on, or as many as are left.
pub record IsSliceOf (p : Pack) (f : Fid) (k at : ℕ) : Type 0 where
  pub within : 512 * k + length (bytes_at p at) ≤ length (file_bytes (sights p) f)
  pub size : length (bytes_at p at) ≡ min 512 (length (file_bytes (sights p) f) - 512 * k)
  pub is : bytes_at p at ≡ take 512 (drop (512 * k) (file_bytes (sights p) f))

-- so it is of each data page after full ones
abbrev pub PageIsASlice : Type 0
PageIsASlice = (p : Pack) (f : Fid) (k at : ℕ) → FullBefore p f k → place (sights p) f (suc k) ≡ Some at → IsSliceOf p f k at

-- the bytes of full pages, and then those of the next one, are the first bytes of the file
abbrev pub PageGoesOn : Type 0
PageGoesOn = (p : Pack) (f : Fid) (k at : ℕ) → FullBefore p f k → place (sights p) f (suc k) ≡ Some at
    → take (512 * k) (file_bytes (sights p) f) ++ bytes_at p at ≡ take (512 * k + length (bytes_at p at)) (file_bytes (sights p) f)

-- bytes of a file from an offset on, as many as count from there in the offset's page, are those of this page's value
abbrev pub BytesStandInTheirPage : Type 0
BytesStandInTheirPage = (p : Pack) (f : Fid) (offset n at : ℕ) → FullBefore p f (offset / 512) → place (sights p) f (page_of_byte offset) ≡ Some at → offset % 512 + n ≤ length (bytes_at p at)
    → take n (drop offset (file_bytes (sights p) f)) ≡ take n (drop (offset % 512) (bytes_of (sector_at p at).value))

-- The page of a byte of a file is there, after full ones, and the byte counts in it.
pub record HasByteOf (p : Pack) (f : Fid) (offset : ℕ) : Type 0 where
  pub at : ℕ
  pub sector : place (sights p) f (page_of_byte offset) ≡ Some at
  pub before : FullBefore p f (offset / 512)
  pub within : offset % 512 < length (bytes_at p at)
  pub byte : get_or (file_bytes (sights p) f) offset 0 ≡ get_or (bytes_of (sector_at p at).value) (offset % 512) 0

-- so it is for each offset within the length
abbrev pub EachByteHasItsPage : Type 0
EachByteHasItsPage = (p : Pack) (f : Fid) (offset : ℕ) → offset < length (file_bytes (sights p) f) → HasByteOf p f offset

-- ---- several pages
-- These sectors bear data pages k, k + 1 and so on of a file, and all of them but the last are full.
abbrev pub InARow : Pack → Fid → ℕ → List ℕ → Type 0
InARow p f k [] = Unit {0}
InARow p f k (at ∷ ats) = (place (sights p) f (suc k) ≡ Some at) × (0 < length ats → length (bytes_at p at) ≡ 512) × InARow p f (suc k) ats

-- the counted bytes of sectors, one after another
abbrev pub all_bytes_at : Pack → List ℕ → List ℕ
all_bytes_at p [] = []
all_bytes_at p (at ∷ ats) = bytes_at p at ++ all_bytes_at p ats

-- pages in a row, after full ones, are a slice of the file
abbrev pub PagesInARowAreASlice : Type 0
PagesInARowAreASlice = (p : Pack) (f : Fid) (k : ℕ) (ats : List ℕ) → FullBefore p f k → InARow p f k ats
    → all_bytes_at p ats ≡ take (length (all_bytes_at p ats)) (drop (512 * k) (file_bytes (sights p) f))
