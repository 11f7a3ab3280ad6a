-- The operations on the bytes of an ordinary file: put, grow and cut.
use Rattle.std.specs.Prelude.{List, Some, [], false, length, suc, take, ℕ, ◌%◌, ◌++◌, ◌+◌, ◌∷◌, ◌≡◌, ◌≤◌}
use Rattle.laws_contents.specs.alto_words.specs.Fid.{disk_descriptor, is_directory, is_fid}
use Rattle.laws_contents.specs.alto_words.specs.declared.fid.Fid.{Fid}
use Rattle.laws_contents.specs.disk_records.specs.Commands.{value_writes}
use Rattle.laws_contents.specs.disk_records.specs.Labels.{page_of, tag}
use Rattle.laws_contents.specs.disk_records.specs.Packs.{Pack, sector_at}
use Rattle.laws_contents.specs.pack_model.specs.reading.Bytes.{bytes_of, put_at}
use Rattle.laws_contents.specs.pack_model.specs.operations.Commands.{Claim, Claimable, all_claimed}
use Rattle.laws_contents.specs.pack_model.specs.operations.Committing.{page_of_byte, pages_cut}
use Rattle.laws_contents.specs.pack_model.specs.reading.Files.{file_bytes, place}
use Rattle.laws_contents.specs.pack_model.specs.operations.Operations.{cut_writes, grow_writes}
use Rattle.laws_contents.specs.pack_model.specs.operations.PageWords.{page_number}
use Rattle.laws_contents.specs.pack_model.specs.reading.Sights.{Sight, sights}
use Rattle.laws_contents.specs.pack_model.specs.operations.Step.Operation.{cut, grow, put}
use Rattle.laws_contents.specs.pack_model.specs.states.Whole.{IsLaid, PageAt, Tidy, Whole}
use Rattle.laws_contents.specs.laws_record.specs.QuietLaws.{counted_of}
use Rattle.laws_operation.specs.Outcomes.{CarriesOut}

-- An ordinary file that is in models.
pub record IsOrdinary (f : Fid) : Type 0 where
  pub no_directory : is_directory f ≡ false
  pub no_descriptor : is_fid f disk_descriptor ≡ false

-- ---- put
-- Some bytes within one page and within the file; the page's sector; and a value whose counted bytes are the old ones with the
-- new ones in place.
pub record MayPut (p : Pack) (f : Fid) (offset : ℕ) (new : List ℕ) (at : ℕ) (value : List ℕ) : Type 0 where
  pub file : IsOrdinary f
  pub sector : place (sights p) f (page_of_byte offset) ≡ Some at
  pub one_page : offset % 512 + length new ≤ 512
  pub within : offset + length new ≤ length (file_bytes (sights p) f)
  pub counted : counted_of p at value ≡ put_at (offset % 512) new (counted_of p at (sector_at p at).value)

-- that value is the put
abbrev pub PutCarriesOut : Type 0
PutCarriesOut = (p : Pack) (f : Fid) (offset : ℕ) (new : List ℕ) (at : ℕ) (value : List ℕ) → Whole p → Tidy p → MayPut p f offset new at value → CarriesOut p (value_writes at value) (put f offset new)

-- ---- pages in a row
-- these sectors bear the pages with these numbers in their labels, rising from n on
abbrev pub Bear : List Sight → Fid → ℕ → List ℕ → Type 0
Bear ss f n [] = Unit {0}
Bear ss f n (at ∷ ats) = (place ss f n ≡ Some at) × Bear ss f (suc n) ats

-- ---- cut
-- The first n bytes are kept, of at least as many; the sector of the page that becomes the last, and a label for it that counts
-- fewer than 512 bytes; and the sectors of all later pages, rising.
pub record MayCut (p : Pack) (f : Fid) (n at : ℕ) (label later : List ℕ) : Type 0 where
  pub file : IsOrdinary f
  pub sector : place (sights p) f (page_of_byte n) ≡ Some at
  pub within : n ≤ length (file_bytes (sights p) f)
  pub page : page_of label ≡ Some (page_number f (page_of_byte n))
  pub count : (tag label).bytes ≡ n % 512
  pub number : length later ≡ pages_cut (length (file_bytes (sights p) f)) n
  pub later_are : Bear (sights p) f (suc (page_of_byte n)) later

-- that label, its old value, and the releases are the cut
abbrev pub CutCarriesOut : Type 0
CutCarriesOut = (p : Pack) (f : Fid) (n at : ℕ) (label later : List ℕ) → Whole p → Tidy p → MayCut p f n at label later → CarriesOut p (cut_writes at label (sector_at p at).value later) (cut f n)

-- ---- grow
-- the bytes of pages, one after another
abbrev pub together : List PageAt → List ℕ
together [] = []
together (c ∷ cs) = c.1 ++ together cs

-- More bytes after those of a file: the sector of its last page; the claims of the pages that come after it; a value with the old
-- counted bytes where they were; and a label for the page, under which the value and the new pages are laid as a file's pages are,
-- and hold the rest of the old bytes and the new ones.
pub record MayGrow (p : Pack) (f : Fid) (new : List ℕ) (claims : List Claim) (at : ℕ) (label value : List ℕ) : Type 0 where
  pub file : IsOrdinary f
  pub sector : place (sights p) f (page_of_byte (length (file_bytes (sights p) f))) ≡ Some at
  pub claimable : Claimable (sights p) f (page_of_byte (length (file_bytes (sights p) f))) claims
  pub kept : counted_of p at value ≡ counted_of p at (sector_at p at).value
  pub page : page_of label ≡ Some (page_number f (page_of_byte (length (file_bytes (sights p) f))))
  pub laid : IsLaid ((at, take (tag label).bytes (bytes_of value)) ∷ all_claimed claims)
  pub bytes : take (tag label).bytes (bytes_of value) ++ together (all_claimed claims) ≡ counted_of p at (sector_at p at).value ++ new

-- the claims, the value, the label and the value again are the growth
abbrev pub GrowCarriesOut : Type 0
GrowCarriesOut = (p : Pack) (f : Fid) (new : List ℕ) (claims : List Claim) (at : ℕ) (label value : List ℕ) → Whole p → Tidy p → MayGrow p f new claims at label value → CarriesOut p (grow_writes claims at label value) (grow f new)
