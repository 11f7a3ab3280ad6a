-- The operands of typed lines, what a line wants of each, and the level that a line needs.
-- The lines, and what each may name, are this project's choice.
use Rattle.std.specs.Prelude.{ℕ, Bool, true, false, List, [], ◌∷◌, ◌++◌, Option, Some, None}
use Rattle.exec_words.specs.alto_words.specs.declared.wanted.Wanted.TheVariants.{Exact}
use Rattle.exec_words.specs.declared.line.Path.{Path}
use Rattle.exec_words.specs.declared.line.Target.{Target}
use Rattle.exec_words.specs.declared.line.Target.TheVariants.{ByPath}
use Rattle.exec_words.specs.declared.line.Line.{Line}
use Rattle.exec_words.specs.declared.line.Line.TheVariants as line

-- What a line wants of an operand: any file; one that is no directory; a directory to list, or to remove; a new name of a file, or of a
-- directory; the file of a world, or a new name for it.
pub data Use : Type 0 where
  some_file : Use
  no_directory : Use
  listed : Use
  removed : Use
  new_file : Use
  new_directory : Use
  world : Use

-- it has to be there
abbrev pub must_be_there : Use → Bool
must_be_there some_file = true
must_be_there no_directory = true
must_be_there listed = true
must_be_there removed = true
must_be_there new_file = false
must_be_there new_directory = false
must_be_there world = false

pub record Operand : Type 0 where
  pub target : Target
  pub used : Use

-- ---- the operands of each line, from left to right
abbrev pub of_file : Target → Use → List Operand
of_file file used = record { target = file; used = used } ∷ []

abbrev pub of_path : Path → Use → List Operand
of_path path used = of_file (ByPath path) used

-- a bare name in SysDir
abbrev pub in_root : List ℕ → Path
in_root name = record { dir = None; wanted = Exact name }

abbrev pub of_name : List ℕ → Use → List Operand
of_name name used = of_path (in_root name) used

abbrev pub of_dir : Option (List ℕ) → List Operand
of_dir None = []
of_dir (Some name) = of_name name listed

abbrev pub operands : Line → List Operand
operands (line.ListNames dir) = of_dir dir
operands (line.TypeOut file) = of_file file no_directory
operands (line.Stat file) = of_file file some_file
operands (line.Make path) = of_path path new_file
operands (line.Append file bytes) = of_file file no_directory
operands (line.Patch file offset bytes) = of_file file no_directory
operands (line.Cut file n) = of_file file no_directory
operands (line.Copy file path) = of_file file no_directory ++ of_path path new_file
operands (line.Rename old new) = of_path old no_directory ++ of_path new new_file
operands (line.Delete path) = of_path path no_directory
operands (line.MakeDir name) = of_name name new_directory
operands (line.RemoveDir name) = of_name name removed
operands (line.OpenStream file) = of_file file no_directory
operands (line.OutLoad path) = of_path path world
operands (line.InLoad path message) = of_path path no_directory
operands l = []

-- ---- the level of the service that has the line
abbrev pub level_of : Line → ℕ
level_of (line.Store at word) = 1
level_of (line.Fetch at) = 1
level_of (line.SetTime moment) = 1
level_of (line.Junta level) = 1
level_of line.CounterJunta = 1
level_of line.Quit = 1
level_of line.Bad = 1
level_of (line.Block words) = 2
level_of (line.Unblock at) = 2
level_of line.Free = 3
level_of (line.OutLoad path) = 4
level_of (line.InLoad path message) = 4
level_of (line.ListNames dir) = 5
level_of (line.TypeOut file) = 5
level_of (line.Stat file) = 5
level_of (line.Make path) = 5
level_of (line.Append file bytes) = 5
level_of (line.Patch file offset bytes) = 5
level_of (line.Cut file n) = 5
level_of (line.Copy file path) = 5
level_of (line.Rename old new) = 5
level_of (line.Delete path) = 5
level_of (line.OpenStream file) = 6
level_of (line.Get stream count) = 6
level_of (line.PutBytes stream bytes) = 6
level_of (line.Seek stream to) = 6
level_of (line.Close stream) = 6
level_of (line.MakeDir name) = 7
level_of (line.RemoveDir name) = 7
level_of line.Scavenge = 8
