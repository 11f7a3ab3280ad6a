-- What is asked of a file that goes with its entry.
use Rattle.std.specs.List.{list_any}
use Rattle.std.specs.Prelude.{Bool, ◌≡◌}
use Rattle.alto_words.specs.declared.fid.Fid.{Fid}
use Rattle.disk_records.specs.Packs.{Pack}
use Rattle.directory.specs.Asked.{DirStands}
use Rattle.file_pages.specs.Dropping.{MayBeDropped}
use Rattle.exec_session.specs.laws_line.specs.LineLaws.{IsEntered}
use Rattle.laws_lookup.specs.DropLaws.{is_an_entry}
use Rattle.pack_model.specs.hints.Links.{dir_words}
use Rattle.pack_model.specs.operations.Step.{Operation}
use Rattle.pack_model.specs.operations.Step.Operation.{drop_file}
use Rattle.pack_model.specs.reading.Model.{read_as}
use Rattle.pack_model.specs.reading.Slots.{slots}
use Rattle.page_seeking.specs.Refs.{FileIsFrom}
use Rattle.exec_session.specs.declared.operands.Found.{Found}

abbrev pub to_drop : Fid → Operation
to_drop f = drop_file f

-- The directory stands, and the first entry there under this name is the file's, whose address stands where it was taken from; it is no system
-- file, and has no entries of its own.
pub record MayDropFound (p : Pack) (found : Found) : Type 0 where
  pub dir : DirStands p found.dir
  pub from : FileIsFrom p found.file
  pub may : MayBeDropped p found.file.fid
  pub entered : IsEntered (read_as p) found.dir.fid found.name found.file.fid

-- ---- a directory
-- some slot of it is an entry, or none
abbrev pub HasEntries : Pack → Fid → Bool → Type 0
HasEntries p d b = list_any is_an_entry (slots (dir_words p d)) ≡ b
