-- Where a file ends: with a page that isn't full, or because a page is missing.
use Rattle.std.specs.Prelude.{None, Some, drop, length, suc, true, ℕ, ◌%◌, ◌*◌, ◌+◌, ◌/◌, ◌<◌, ◌≡◌, ◌⊎◌}
use Rattle.laws_record.specs.alto_words.specs.declared.fid.Fid.{Fid}
use Rattle.laws_record.specs.disk_records.specs.Packs.{Pack}
use Rattle.laws_record.specs.pack_model.specs.operations.Committing.{page_of_byte}
use Rattle.laws_record.specs.pack_model.specs.reading.Files.{file_bytes, lives, place}
use Rattle.laws_record.specs.pack_model.specs.reading.Sights.{sights}
use Rattle.laws_record.specs.pack_model.specs.states.Whole.{Whole}
use Rattle.laws_contents.specs.PageLaws.{FullBefore, bytes_at}

-- ---- on any pack
-- Data page k, counted from 0, has the last bytes of the file, and it ends with them.
pub record EndsIn (p : Pack) (f : Fid) (k at : ℕ) : Type 0 where
  pub size : length (file_bytes (sights p) f) ≡ 512 * k + length (bytes_at p at)
  pub rest : drop (512 * k) (file_bytes (sights p) f) ≡ bytes_at p at

-- the data page after full ones has the last bytes if it isn't full, or if no sector carries the page after it
abbrev pub LastPageEndsTheFile : Type 0
LastPageEndsTheFile = (p : Pack) (f : Fid) (k at : ℕ) → FullBefore p f k → place (sights p) f (suc k) ≡ Some at
    → (length (bytes_at p at) < 512) ⊎ (place (sights p) f (suc (suc k)) ≡ None) → EndsIn p f k at

-- if full data pages come first and then one that no sector carries, the file has their bytes alone
abbrev pub MissingPageEndsTheFile : Type 0
MissingPageEndsTheFile = (p : Pack) (f : Fid) (k : ℕ) → FullBefore p f k → place (sights p) f (suc k) ≡ None → length (file_bytes (sights p) f) ≡ 512 * k

-- The page that the end of the file's bytes is in comes after full ones. It is missing, and the bytes end with the page before; or it
-- is there, and counts the bytes that are left.
pub record HasItsEnd (p : Pack) (f : Fid) : Type 0 where
  pub before : FullBefore p f (length (file_bytes (sights p) f) / 512)
  pub end :
      ((place (sights p) f (page_of_byte (length (file_bytes (sights p) f))) ≡ None) × (length (file_bytes (sights p) f) % 512 ≡ 0))
      ⊎ ((at : ℕ) × (place (sights p) f (page_of_byte (length (file_bytes (sights p) f))) ≡ Some at) × (length (bytes_at p at) ≡ length (file_bytes (sights p) f) % 512))

-- so it is for every file
abbrev pub EachFileHasItsEnd : Type 0
EachFileHasItsEnd = (p : Pack) (f : Fid) → HasItsEnd p f

-- ---- on a whole pack
-- The page that the end of the file's bytes is in is there, isn't full, and counts the bytes that are left; no page comes after it.
pub record EndsInAPage (p : Pack) (f : Fid) : Type 0 where
  pub at : ℕ
  pub sector : place (sights p) f (page_of_byte (length (file_bytes (sights p) f))) ≡ Some at
  pub counts : length (bytes_at p at) ≡ length (file_bytes (sights p) f) % 512
  pub none : place (sights p) f (suc (page_of_byte (length (file_bytes (sights p) f)))) ≡ None

-- so it is for each living file
abbrev pub WholeFileEndsInAPage : Type 0
WholeFileEndsInAPage = (p : Pack) (f : Fid) → Whole p → lives (sights p) f ≡ true → EndsInAPage p f
