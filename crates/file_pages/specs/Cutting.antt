-- What a caller of a cut sees.
use Rattle.std.specs.Prelude.{IsErrOf, List, OnOk, Result, Some, false, ℕ, ◌%◌, ◌-◌, ◌≡◌}
use Rattle.alto_words.specs.declared.fid.Fid.{Fid}
use Rattle.disk_records.specs.Commands.{relabel_writes}
use Rattle.disk_records.specs.Packs.{Pack, carried, sector_at}
use Rattle.disk_records.specs.declared.records.Page.{Page}
use Rattle.disk_records.specs.declared.records.Sector.{Sector}
use Rattle.label_check.specs.declared.errors.PageInfo.{PageInfo}
use Rattle.laws_call.specs.Acting.{Around, IsQuiet}
use Rattle.laws_hint.specs.MapChanges.{marked}
use Rattle.page_seeking.specs.Seeking.{Seen, Stands, file_length, page_number}
use Rattle.page_seeking.specs.declared.refs.FileError.TheVariants.{Memory}
use Rattle.page_seeking.specs.declared.refs.FileError.{FileError}
use Rattle.pack_model.specs.hints.Links.{no_link}
use Rattle.pack_model.specs.operations.Committing.{page_of_byte}
use Rattle.pack_model.specs.operations.PageWords.{relabelled}
use Rattle.pack_model.specs.operations.Step.Operation.{cut}
use Rattle.pack_model.specs.operations.Step.{Operation}
use Rattle.file_pages.specs.Releasing.{CommitsAndReleases}

abbrev pub to_cut : Fid → ℕ → Operation
to_cut f n = cut f n

-- how many pages come after the one in which so many bytes end
abbrev pub later_pages : Pack → Fid → ℕ → ℕ
later_pages p f n = page_of_byte (file_length p f) - page_of_byte n

-- The page is in the buffer, from its sector, and these are its label's words.
pub record IsRead (p : Pack) (page : Page) (at : ℕ) (info : PageInfo) (buffer : Sector) : Type 0 where
  pub seen : Seen p.shape page at info buffer
  pub stands : Stands p page at buffer

-- For every answer: nothing was written or counted, and it is neither Ok nor out of memory; or the sector carries the page in which the file
-- is to end, whose label was to be written with fewer bytes and no next link, and then these pages were to be released.
pub data Cuts (p : Pack) (f : Fid) (n : ℕ) (later : List ℕ) (old now : Around) (result : Result (Unit {0}) FileError) : Type 0 where
  uncut : IsQuiet old now → OnOk result ⊥ → (IsErrOf result Memory → ⊥) → Cuts p f n later old now result
  cutting : {at : ℕ} → carried p at ≡ Some (page_number f (page_of_byte n)) → CommitsAndReleases (relabel_writes at (relabelled (sector_at p at).label (n % 512) no_link) (sector_at p at).value) later old.tape now.tape old.tally now.tally result
      → OnOk result (now.bits ≡ marked false later old.bits) → Cuts p f n later old now result
