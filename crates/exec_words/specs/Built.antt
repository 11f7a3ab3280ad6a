-- Which lines this program obeys.
use Rattle.std.specs.Prelude.{Bool, true, false, cond}
use Rattle.exec_words.specs.declared.line.Line.{Line}
use Rattle.exec_words.specs.declared.line.Line.TheVariants as line

-- those on files and directories, those on the memory, and those that need neither: lines on streams and worlds wait, and so does `scavenge`
abbrev pub is_built : Line → Bool
is_built (line.ListNames dir) = true
is_built (line.TypeOut file) = true
is_built (line.Stat file) = true
is_built (line.Make path) = true
is_built (line.Append file bytes) = true
is_built (line.Patch file offset bytes) = true
is_built (line.Cut file n) = true
is_built (line.Copy file path) = true
is_built (line.Rename old new) = true
is_built (line.Delete path) = true
is_built (line.MakeDir name) = true
is_built (line.RemoveDir name) = true
is_built line.Free = true
is_built (line.SetTime moment) = true
is_built (line.Store at w) = true
is_built (line.Fetch at) = true
is_built (line.Block words) = true
is_built (line.Unblock at) = true
is_built (line.Junta level) = true
is_built line.CounterJunta = true
is_built line.Quit = true
is_built l = false

-- the line, or a bad one where its verb isn't built yet
abbrev pub as_built : Line → Line
as_built l = cond (is_built l) l line.Bad
