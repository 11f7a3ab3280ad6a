-- What a call on a directory answers, by what a call on it as a file answers.
use Rattle.std.specs.Prelude.{Result, Ok, Err}
use Rattle.page_seeking.specs.declared.refs.FileError.{FileError}
use Rattle.page_seeking.specs.declared.refs.FileError.TheVariants as fault
use Rattle.directory.specs.declared.errors.DirError.{DirError}
use Rattle.directory.specs.declared.errors.DirError.TheVariants.{NoSlot, NoSuchName, File}

abbrev pub in_directory : Result (Unit {0}) FileError → Result (Unit {0}) DirError
in_directory (Ok x) = Ok x
in_directory (Err error) = Err (File error)

-- where the page of an entry that was found isn't located: past the end no entry is
abbrev pub unlocated : FileError → DirError
unlocated (fault.Misled place at wanted found) = File (fault.Misled place at wanted found)
unlocated (fault.Beyond length) = NoSuchName
unlocated fault.DiskFault = File fault.DiskFault
unlocated fault.Memory = File fault.Memory

-- where a page of the room that was found isn't located: past the end there is no room
abbrev pub unplaced : FileError → DirError
unplaced (fault.Misled place at wanted found) = File (fault.Misled place at wanted found)
unplaced (fault.Beyond length) = NoSlot 0
unplaced fault.DiskFault = File fault.DiskFault
unplaced fault.Memory = File fault.Memory
