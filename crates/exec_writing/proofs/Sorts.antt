-- The two lines as lines on files.
use Rattle.std.proofs.Common.{refl}
use Rattle.exec_words.specs.declared.line.Line.TheVariants as line
use Rattle.exec_words.specs.declared.line.Path.{Path}
use Rattle.exec_words.specs.declared.line.Target.{Target}
use Rattle.exec_writing.proofs.Ends.{IsOnFiles}

pub rename_on : (old new : Path) → IsOnFiles (line.Rename old new)
rename_on old new = record { quit = refl; scavenge = refl; needs = refl; touched = λ m w. refl; few = λ p m n. tt }

pub copy_on : (target : Target) (path : Path) → IsOnFiles (line.Copy target path)
copy_on target path = record { quit = refl; scavenge = refl; needs = refl; touched = λ m w. refl; few = λ p m n. tt }
