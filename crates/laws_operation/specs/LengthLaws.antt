-- Where a file of a whole pack ends, by what the labels of its pages count.
use Rattle.std.specs.Option.{is_some}
use Rattle.std.specs.Prelude.{Some, length, nat_le, suc, true, ℕ, ◌*◌, ◌+◌, ◌<◌, ◌≡◌}
use Rattle.laws_contents.specs.alto_words.specs.declared.fid.Fid.{Fid}
use Rattle.laws_contents.specs.disk_records.specs.Labels.{tag}
use Rattle.laws_contents.specs.disk_records.specs.Packs.{Pack, sector_at}
use Rattle.laws_contents.specs.pack_model.specs.operations.Committing.{page_of_byte}
use Rattle.laws_contents.specs.pack_model.specs.reading.Files.{file_bytes, lives, place}
use Rattle.laws_contents.specs.pack_model.specs.reading.Sights.{sights}
use Rattle.laws_contents.specs.pack_model.specs.states.Whole.{Whole}

-- The sector of a data page, counted from 0, with a value of 256 words; its label counts so many bytes.
pub record CountsPage (p : Pack) (f : Fid) (k at count : ℕ) : Type 0 where
  pub sector : place (sights p) f (suc k) ≡ Some at
  pub sized : length (sector_at p at).value ≡ 256
  pub bytes : (tag (sector_at p at).label).bytes ≡ count

-- on a whole pack, where a data page counts fewer than 512 bytes, the file's length is 512 times the data pages before it, and that count
abbrev pub LengthByTheLastPage : Type 0
LengthByTheLastPage = (p : Pack) (f : Fid) (k at count : ℕ) → Whole p → CountsPage p f k at count → count < 512 → length (file_bytes (sights p) f) ≡ 512 * k + count

-- on a whole pack each data page before the last is full
abbrev pub PagesBeforeTheLastAreFull : Type 0
PagesBeforeTheLastAreFull = (p : Pack) (f : Fid) (k at count : ℕ) → Whole p → CountsPage p f k at count → suc k < page_of_byte (length (file_bytes (sights p) f)) → count ≡ 512

-- on a whole pack each full data page is before the last
abbrev pub FullPageIsNotTheLast : Type 0
FullPageIsNotTheLast = (p : Pack) (f : Fid) (k at : ℕ) → Whole p → CountsPage p f k at 512 → suc k < page_of_byte (length (file_bytes (sights p) f))

-- on a whole pack the pages of a living file that have a place are those with the numbers up to that of the last
abbrev pub PlacedPagesAreThoseUpToTheLast : Type 0
PlacedPagesAreThoseUpToTheLast = (p : Pack) (f : Fid) (n : ℕ) → Whole p → lives (sights p) f ≡ true → is_some (place (sights p) f n) ≡ nat_le n (page_of_byte (length (file_bytes (sights p) f)))
