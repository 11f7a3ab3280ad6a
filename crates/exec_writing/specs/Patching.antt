-- What is asked of a file whose bytes are to be put in the place of others.
use Rattle.std.specs.Prelude.{◌≤◌, ◌+◌, ℕ, List, length}
use Rattle.disk_records.specs.Packs.{Pack}
use Rattle.page_seeking.specs.Seeking.{file_length}
use Rattle.page_seeking.specs.declared.refs.FileRef.{FileRef}
use Rattle.exec_steps.specs.Asked.{IsFile}

-- An ordinary file that was found, with as many bytes from the offset on.
pub record MayPatchFile (p : Pack) (file : FileRef) (offset : ℕ) (bytes : List ℕ) : Type 0 where
  pub found : IsFile p file
  pub within : offset + length bytes ≤ file_length p file.fid
