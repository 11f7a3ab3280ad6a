-- Where the pages of a file are, and which of a sector's bytes count.
use Rattle.std.specs.Prelude.{List, None, Some, length, suc, ℕ, ◌<◌, ◌≡◌, ◌≤◌, ◌↔◌}
use Rattle.laws_record.specs.alto_words.specs.declared.fid.Fid.{Fid}
use Rattle.laws_record.specs.disk_records.specs.Packs.{AreFormed, Pack, carried, sector_at}
use Rattle.laws_record.specs.disk_records.specs.Words.{word}
use Rattle.laws_record.specs.disk_records.specs.declared.records.Page.{Page}
use Rattle.laws_record.specs.pack_model.specs.reading.Files.{page, place}
use Rattle.laws_record.specs.pack_model.specs.reading.Sights.{sights}
use Rattle.laws_record.specs.pack_model.specs.states.Sentences.{EachOnce}
use Rattle.laws_record.specs.pack_model.specs.states.Whole.{Whole}
use Rattle.laws_record.specs.QuietLaws.{counted_of}

-- ---- where a page is
-- on a pack that carries no page twice whichever sector carries a page is its place
abbrev pub CarriedOnceIsInPlace : Type 0
CarriedOnceIsInPlace = (p : Pack) (page : Page) (at : ℕ) → EachOnce (sights p) → carried p at ≡ Some page → place (sights p) page.fid page.number ≡ Some at

-- a pack carries no page twice if and only if no two labels name one
abbrev pub OnceIsByLabels : Type 0
OnceIsByLabels = (p : Pack) → EachOnce (sights p) ↔ ((i j : ℕ) (page : Page) → carried p i ≡ Some page → carried p j ≡ Some page → i ≡ j)

-- the number of a page that has a place is a word
abbrev pub PageNumbersAreWords : Type 0
PageNumbersAreWords = (p : Pack) (f : Fid) (n at : ℕ) → place (sights p) f n ≡ Some at → n < 65536

-- ---- the bytes that count
-- those of a sector's value that its label counts
abbrev pub bytes_at : Pack → ℕ → List ℕ
bytes_at p at = counted_of p at (sector_at p at).value

-- Data page k of a file, counted from 0, is the counted bytes of its place's value, and is missing if it has none.
pub record IsOfItsPlace (p : Pack) (f : Fid) (k : ℕ) : Type 0 where
  pub there : (at : ℕ) → place (sights p) f (suc k) ≡ Some at → page (sights p) f k ≡ Some (bytes_at p at)
  pub missing : place (sights p) f (suc k) ≡ None → page (sights p) f k ≡ None

-- each data page of any pack is so
abbrev pub PagesAreTheirCountedBytes : Type 0
PagesAreTheirCountedBytes = (p : Pack) (f : Fid) (k : ℕ) → IsOfItsPlace p f k

-- A data page has at most 512 bytes, and of a value of 256 words as many as its label says.
pub record CountsByLabel (p : Pack) (at : ℕ) : Type 0 where
  pub most : length (bytes_at p at) ≤ 512
  pub says : length (sector_at p at).value ≡ 256 → length (bytes_at p at) ≡ word (sector_at p at).label 3

-- each data page of any pack does
abbrev pub LabelsCount : Type 0
LabelsCount = (p : Pack) (f : Fid) (k at : ℕ) → place (sights p) f (suc k) ≡ Some at → CountsByLabel p at

-- if the records of all sectors have as many words as a disk's, so has the value of each sector that carries a page
abbrev pub FormedPagesHave256Words : Type 0
FormedPagesHave256Words = (p : Pack) (at : ℕ) (page : Page) → AreFormed p → carried p at ≡ Some page → length (sector_at p at).value ≡ 256

-- ---- pages in front of a page
-- A data page of a file, counted from 0, is there and full.
pub record IsFullPage (p : Pack) (f : Fid) (k : ℕ) : Type 0 where
  pub at : ℕ
  pub sector : place (sights p) f (suc k) ≡ Some at
  pub full : length (bytes_at p at) ≡ 512

-- All data pages before page k are, so that page k is one of the file's where it is there.
pub record FullBefore (p : Pack) (f : Fid) (k : ℕ) : Type 0 where
  pub each : (j : ℕ) → j < k → IsFullPage p f j

-- so it is of the first data page
abbrev pub NoneBeforeTheFirst : Type 0
NoneBeforeTheFirst = (p : Pack) (f : Fid) → FullBefore p f 0

-- of the page after a full one
abbrev pub FullBeforeTheNext : Type 0
FullBeforeTheNext = (p : Pack) (f : Fid) (k : ℕ) → FullBefore p f k → IsFullPage p f k → FullBefore p f (suc k)

-- and on a whole pack of each that has a place
abbrev pub FullBeforeEachOfAWholePack : Type 0
FullBeforeEachOfAWholePack = (p : Pack) (f : Fid) (k at : ℕ) → Whole p → place (sights p) f (suc k) ≡ Some at → FullBefore p f k
