-- Lines as values: which of them a text is read as, and a text of each.
use Rattle.std.specs.Prelude.{ℕ, ◌==◌, ◌&&◌, Bool, true, false, cond, not, nat_le, codes, decimal, List, [], ◌∷◌, ◌++◌, length, Option, Some, None}
use Rattle.alto_words.specs.declared.wanted.Wanted.{Wanted}
use Rattle.alto_words.specs.declared.wanted.Wanted.TheVariants.{Exact, Newest}
use Rattle.alto_words.specs.Names.{is_bare_name, last_byte, but_last, base_of, version_of}
use Rattle.alto_words.specs.Numbers.{hex_of}
use Rattle.pack_model.specs.sessions.Lines.{is_too_long}
use Rattle.exec_words.specs.declared.line.Path.{Path}
use Rattle.exec_words.specs.declared.line.Target.{Target}
use Rattle.exec_words.specs.declared.line.Target.TheVariants.{ByPath, BySerial}
use Rattle.exec_words.specs.declared.line.Line.{Line}
use Rattle.exec_words.specs.declared.line.Line.TheVariants as line

-- ---- the shortest text of each operand
-- a bare name without its final `.`, unless a `.` stands before it
abbrev pub short_name : List ℕ → List ℕ
short_name name = cond (last_byte (but_last name) == 46) name (but_last name)

abbrev pub wanted_text : Wanted → List ℕ
wanted_text (Exact name) = short_name (base_of name) ++ codes "!" ++ decimal (version_of name)
wanted_text (Newest base) = short_name base

abbrev pub path_text_in : Option (List ℕ) → Wanted → List ℕ
path_text_in None wanted = wanted_text wanted
path_text_in (Some dir) wanted = short_name dir ++ codes ">" ++ wanted_text wanted

abbrev pub path_text : Path → List ℕ
path_text path = path_text_in path.dir path.wanted

abbrev pub file_text : Target → List ℕ
file_text (ByPath path) = path_text path
file_text (BySerial serial) = codes "#" ++ decimal serial

-- `-` for none
abbrev pub hex_text : List ℕ → List ℕ
hex_text [] = codes "-"
hex_text (b ∷ bytes) = hex_of (b ∷ bytes)

-- ---- the shortest text of each line
abbrev pub word_after : List ℕ → List ℕ → List ℕ
word_after text word = text ++ 32 ∷ word

abbrev pub list_words : Option (List ℕ) → List ℕ
list_words None = codes "list"
list_words (Some dir) = word_after (codes "list") (short_name dir)

abbrev pub line_words : Line → List ℕ
line_words (line.ListNames dir) = list_words dir
line_words (line.TypeOut file) = word_after (codes "type") (file_text file)
line_words (line.Stat file) = word_after (codes "stat") (file_text file)
line_words (line.Make path) = word_after (codes "make") (path_text path)
line_words (line.Append file bytes) = word_after (word_after (codes "append") (file_text file)) (hex_text bytes)
line_words (line.Patch file offset bytes) = word_after (word_after (word_after (codes "patch") (file_text file)) (decimal offset)) (hex_text bytes)
line_words (line.Cut file n) = word_after (word_after (codes "cut") (file_text file)) (decimal n)
line_words (line.Copy file path) = word_after (word_after (codes "copy") (file_text file)) (path_text path)
line_words (line.Rename old new) = word_after (word_after (codes "rename") (path_text old)) (path_text new)
line_words (line.Delete path) = word_after (codes "delete") (path_text path)
line_words (line.MakeDir name) = word_after (codes "mkdir") (short_name name)
line_words (line.RemoveDir name) = word_after (codes "rmdir") (short_name name)
line_words line.Free = codes "free"
line_words (line.SetTime moment) = word_after (codes "settime") (decimal moment)
line_words (line.OpenStream file) = word_after (codes "open") (file_text file)
line_words (line.Get stream count) = word_after (word_after (codes "get") (decimal stream)) (decimal count)
line_words (line.PutBytes stream bytes) = word_after (word_after (codes "putb") (decimal stream)) (hex_text bytes)
line_words (line.Seek stream to) = word_after (word_after (codes "seek") (decimal stream)) (decimal to)
line_words (line.Close stream) = word_after (codes "close") (decimal stream)
line_words (line.Store at word) = word_after (word_after (codes "store") (decimal at)) (decimal word)
line_words (line.Fetch at) = word_after (codes "fetch") (decimal at)
line_words (line.Block n) = word_after (codes "block") (decimal n)
line_words (line.Unblock at) = word_after (codes "unblock") (decimal at)
line_words (line.Junta level) = word_after (codes "junta") (decimal level)
line_words line.CounterJunta = codes "counterjunta"
line_words (line.OutLoad path) = word_after (codes "outload") (path_text path)
line_words (line.InLoad path message) = word_after (word_after (codes "inload") (path_text path)) (hex_text message)
line_words line.Scavenge = codes "scavenge"
line_words line.Quit = codes "quit"
line_words line.Bad = []

-- ---- which lines a text is read as
-- the base of a path is a bare name, and so is its directory
abbrev pub is_typed_wanted : Wanted → Bool
is_typed_wanted (Exact name) = true
is_typed_wanted (Newest base) = is_bare_name base

abbrev pub is_typed_dir : Option (List ℕ) → Bool
is_typed_dir None = true
is_typed_dir (Some name) = is_bare_name name

abbrev pub is_typed_path : Path → Bool
is_typed_path path = is_typed_dir path.dir && is_typed_wanted path.wanted

abbrev pub is_typed_file : Target → Bool
is_typed_file (ByPath path) = is_typed_path path
is_typed_file (BySerial serial) = true

abbrev pub is_typed_stream : ℕ → Bool
is_typed_stream stream = nat_le stream 7

abbrev pub are_typed_bytes : ℕ → List ℕ → Bool
are_typed_bytes most bytes = nat_le (length bytes) most

-- Some text is read as the line: numbers within their bounds, bytes not too many, bare names where only these are read. No line but
-- `patch` can be too long to be typed.
abbrev pub is_typed : Line → Bool
is_typed (line.ListNames dir) = is_typed_dir dir
is_typed (line.TypeOut file) = is_typed_file file
is_typed (line.Stat file) = is_typed_file file
is_typed (line.Make path) = is_typed_path path
is_typed (line.Append file bytes) = is_typed_file file && are_typed_bytes 2000 bytes
is_typed (line.Patch file offset bytes) = is_typed_file file && are_typed_bytes 2000 bytes && not (is_too_long (line_words (line.Patch file offset bytes)))
is_typed (line.Cut file n) = is_typed_file file
is_typed (line.Copy file path) = is_typed_file file && is_typed_path path
is_typed (line.Rename old new) = is_typed_path old && is_typed_path new
is_typed (line.Delete path) = is_typed_path path
is_typed (line.MakeDir name) = is_bare_name name
is_typed (line.RemoveDir name) = is_bare_name name
is_typed line.Free = true
is_typed (line.SetTime moment) = true
is_typed (line.OpenStream file) = is_typed_file file
is_typed (line.Get stream count) = is_typed_stream stream && nat_le 1 count && nat_le count 1024
is_typed (line.PutBytes stream bytes) = is_typed_stream stream && are_typed_bytes 2000 bytes
is_typed (line.Seek stream to) = is_typed_stream stream
is_typed (line.Close stream) = is_typed_stream stream
is_typed (line.Store at word) = true
is_typed (line.Fetch at) = true
is_typed (line.Block n) = nat_le 1 n
is_typed (line.Unblock at) = true
is_typed (line.Junta level) = nat_le 1 level && nat_le level 8
is_typed line.CounterJunta = true
is_typed (line.OutLoad path) = is_typed_path path
is_typed (line.InLoad path message) = is_typed_path path && are_typed_bytes 40 message
is_typed line.Scavenge = true
is_typed line.Quit = true
is_typed line.Bad = false
