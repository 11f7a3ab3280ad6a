-- What holds of lines and their texts.
use Rattle.std.specs.Prelude.{◌≡◌, ◌⊎◌, ℕ, ◌<◌, ◌^◌, true, List, Option, Some, None}
use Rattle.std.specs.List.{All}
use Rattle.alto_words.specs.declared.wanted.Wanted.{Wanted}
use Rattle.alto_words.specs.declared.wanted.Wanted.TheVariants.{Exact, Newest}
use Rattle.alto_words.specs.Names.{is_stored_name}
use Rattle.exec_words.specs.declared.line.Path.{Path}
use Rattle.exec_words.specs.declared.line.Target.{Target}
use Rattle.exec_words.specs.declared.line.Target.TheVariants.{ByPath, BySerial}
use Rattle.exec_words.specs.declared.line.Line.{Line}
use Rattle.exec_words.specs.declared.line.Line.TheVariants as line
use Rattle.exec_words.specs.Grammar.{line_in}
use Rattle.exec_words.specs.Typed.{line_words, is_typed}

-- ---- values of the types of operands: names are stored names, numbers have 32 bits, and bytes 8
abbrev pub IsName : List ℕ → Type 0
IsName name = is_stored_name name ≡ true

abbrev pub IsNumber : ℕ → Type 0
IsNumber n = n < 2 ^ 32

abbrev pub AreBytes : List ℕ → Type 0
AreBytes bytes = All (λ b. b < 256) bytes

abbrev pub IsWanted : Wanted → Type 0
IsWanted (Exact name) = IsName name
IsWanted (Newest base) = IsName base

abbrev pub IsDir : Option (List ℕ) → Type 0
IsDir None = Unit {0}
IsDir (Some name) = IsName name

abbrev pub IsPath : Path → Type 0
IsPath path = IsDir path.dir × IsWanted path.wanted

abbrev pub IsFile : Target → Type 0
IsFile (ByPath path) = IsPath path
IsFile (BySerial serial) = IsNumber serial

abbrev pub IsLine : Line → Type 0
IsLine (line.ListNames dir) = IsDir dir
IsLine (line.TypeOut file) = IsFile file
IsLine (line.Stat file) = IsFile file
IsLine (line.Make path) = IsPath path
IsLine (line.Append file bytes) = IsFile file × AreBytes bytes
IsLine (line.Patch file offset bytes) = IsFile file × IsNumber offset × AreBytes bytes
IsLine (line.Cut file n) = IsFile file × IsNumber n
IsLine (line.Copy file path) = IsFile file × IsPath path
IsLine (line.Rename old new) = IsPath old × IsPath new
IsLine (line.Delete path) = IsPath path
IsLine (line.MakeDir name) = IsName name
IsLine (line.RemoveDir name) = IsName name
IsLine line.Free = Unit {0}
IsLine (line.SetTime moment) = IsNumber moment
IsLine (line.OpenStream file) = IsFile file
IsLine (line.Get stream count) = IsNumber stream × IsNumber count
IsLine (line.PutBytes stream bytes) = IsNumber stream × AreBytes bytes
IsLine (line.Seek stream to) = IsNumber stream × IsNumber to
IsLine (line.Close stream) = IsNumber stream
IsLine (line.Store at word) = at < 2 ^ 16 × word < 2 ^ 16
IsLine (line.Fetch at) = at < 2 ^ 16
IsLine (line.Block n) = n < 2 ^ 16
IsLine (line.Unblock at) = at < 2 ^ 16
IsLine (line.Junta level) = IsNumber level
IsLine line.CounterJunta = Unit {0}
IsLine (line.OutLoad path) = IsPath path
IsLine (line.InLoad path message) = IsPath path × AreBytes message
IsLine line.Scavenge = Unit {0}
IsLine line.Quit = Unit {0}
IsLine line.Bad = Unit {0}

-- ---- each line that can be typed is what its text is read as; so no row of the grammar hides another
abbrev pub TypedReadsBack : Type 0
TypedReadsBack = (l : Line) → IsLine l → is_typed l ≡ true → line_in (line_words l) ≡ l

-- what a text is read as is a bad line, or can be typed
abbrev pub ReadIsTyped : Type 0
ReadIsTyped = (text : List ℕ) (l : Line) → line_in text ≡ l → (l ≡ line.Bad) ⊎ (is_typed l ≡ true)
