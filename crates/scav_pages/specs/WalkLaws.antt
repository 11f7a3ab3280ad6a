-- What a walk along rows says of the file in hand, once no more rows of it come.
use Rattle.std.specs.Prelude.{◌≡◌, suc, ◌*◌, true, false, length, Option, Some, None}
use Rattle.alto_words.specs.declared.fid.Fid.{Fid}
use Rattle.disk_records.specs.Packs.{Pack}
use Rattle.pack_model.specs.reading.Files.{lives, file_bytes, place}
use Rattle.pack_model.specs.reading.Sights.{sights}
use Rattle.pack_model.specs.states.Sentences.{HasLastPage}
use Rattle.scav_table.specs.declared.row.Row.{Row}
use Rattle.scav_table.specs.Laws.{IsFirstAbove, IsNextRow}
use Rattle.scav_pages.specs.declared.files.FileWalk.{FileWalk}
use Rattle.scav_pages.specs.Walks.{AreWords, IsLeft, IsOtherFile, NoneAbove, Walked, file_in_hand}

-- ---- no more rows of it come
-- where the next row is of another file
abbrev pub LeavesItsFile : Type 0
LeavesItsFile = (p : Pack) (last : Option Row) (walk : FileWalk) (row : Row) → Walked p last walk → AreWords row → IsFirstAbove p last row → IsOtherFile walk row → IsLeft p last walk

-- and where there is no next row
abbrev pub LeavesTheLastFile : Type 0
LeavesTheLastFile = (p : Pack) (last : Option Row) (walk : FileWalk) → IsNextRow p last None → IsLeft p last walk

-- ---- what is known of it then
-- whether it lives, and its length; if its bytes go on to the end of their pages, the page after these is missing; else its last page is there
pub record IsKnown (p : Pack) (f : Fid) (walk : FileWalk) : Type 0 where
  pub lives_is : walk.lives ≡ lives (sights p) f
  pub size : walk.length ≡ length (file_bytes (sights p) f)
  pub missing : walk.goes_on ≡ true → (walk.length ≡ 512 * walk.pages) × (place (sights p) f (suc walk.pages) ≡ None)
  pub there : walk.goes_on ≡ false → HasLastPage (sights p) f

abbrev pub LeftFileIsKnown : Type 0
LeftFileIsKnown = (p : Pack) (last : Option Row) (walk : FileWalk) (f : Fid) → Walked p last walk → file_in_hand walk ≡ Some f → NoneAbove p last f → IsKnown p f walk
