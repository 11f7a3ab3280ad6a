-- What is known of the directory in hand, once no more rows of it come.
use Rattle.std.specs.Prelude.{Option}
use Rattle.disk_records.specs.Packs.{Pack}
use Rattle.scav_table.specs.declared.row.Row.{Row}
use Rattle.scav_pages.specs.declared.directory.Directory.{Directory}
use Rattle.scav_pages.specs.Directories.{IsReadTo, MayBeCut}
use Rattle.scav_pages.specs.Walks.{IsLeft}

-- whether the file in hand lives; of a living directory its length, where its slots end, and the sector of that end
abbrev pub LeftDirectoryIsKnown : Type 0
LeftDirectoryIsKnown = (p : Pack) (last : Option Row) (dir : Directory) → IsReadTo p last dir → IsLeft p last dir.walk → MayBeCut p dir
