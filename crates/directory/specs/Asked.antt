-- What is asked of a pack for calls on directories.
use Rattle.std.specs.Prelude.{◌≡◌, true}
use Rattle.alto_words.specs.Fid.{is_directory}
use Rattle.disk_records.specs.Packs.{Pack}
use Rattle.pack_model.specs.reading.Files.{lives}
use Rattle.pack_model.specs.reading.Sights.{sights}
use Rattle.pack_model.specs.states.Sentences.{EachOnce}
use Rattle.page_seeking.specs.Refs.{FileIsFrom, FileStands}
use Rattle.page_seeking.specs.declared.refs.FileRef.{FileRef}

-- Calls that read: the directory lives, and its address stands where it was taken from, on a pack that carries no page twice: a whole one,
-- or one that is being opened.
pub record DirIsFound (p : Pack) (dir : FileRef) : Type 0 where
  pub once : EachOnce (sights p)
  pub from : FileIsFrom p dir
  pub directory : is_directory dir.fid ≡ true
  pub living : lives (sights p) dir.fid ≡ true

-- Calls that write: the pack is whole and tidy, and the directory lives.
pub record DirStands (p : Pack) (dir : FileRef) : Type 0 where
  pub stands : FileStands p dir
  pub directory : is_directory dir.fid ≡ true
  pub living : lives (sights p) dir.fid ≡ true
