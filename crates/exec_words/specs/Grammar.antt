-- The grammar of typed lines.
-- The lines are this project's choice.
use Rattle.std.specs.Prelude.{ℕ, ◌==◌, ◌&&◌, Bool, cond, nat_le, nat_eq, codes, List, [], ◌∷◌, length, Option, Some, None}
use Rattle.std.specs.Option.{option_map, unwrap_or}
use Rattle.std.specs.List.{slice_split}
use Rattle.std.specs.Cmp.Lexicographic.{pointwise}
use Rattle.alto_words.specs.Names.{bare_in}
use Rattle.alto_words.specs.Numbers.{number_in, bytes_in_hex}
use Rattle.alto_words.specs.Wanted.{wanted_in}
use Rattle.pack_model.specs.sessions.Lines.{is_too_long}
use Rattle.exec_words.specs.declared.line.Path.{Path}
use Rattle.exec_words.specs.declared.line.Target.{Target}
use Rattle.exec_words.specs.declared.line.Target.TheVariants.{ByPath, BySerial}
use Rattle.exec_words.specs.declared.line.Line.{Line}
use Rattle.exec_words.specs.declared.line.Line.TheVariants as line

-- ---- words: what stands between the spaces of a text, one word more than it has spaces
abbrev pub is_byte : ℕ → ℕ → Bool
is_byte byte c = c == byte

abbrev pub words_in : List ℕ → List (List ℕ)
words_in text = slice_split (is_byte 32) text

-- ---- numbers, within their bounds
abbrev pub within : ℕ → ℕ → Option ℕ → Option ℕ
within least most None = None
within least most (Some n) = cond (nat_le least n && nat_le n most) (Some n) None

abbrev pub number_from : ℕ → ℕ → List ℕ → Option ℕ
number_from least most text = within least most (number_in text)

-- a word of the memory, and its address
abbrev pub word_in : List ℕ → Option ℕ
word_in = number_from 0 65535

abbrev pub stream_in : List ℕ → Option ℕ
stream_in = number_from 0 7

-- ---- bytes in hex, so many at most
abbrev pub at_most : ℕ → Option (List ℕ) → Option (List ℕ)
at_most most None = None
at_most most (Some bytes) = cond (nat_le (length bytes) most) (Some bytes) None

abbrev pub bytes_up_to : ℕ → List ℕ → Option (List ℕ)
bytes_up_to most text = at_most most (bytes_in_hex text)

abbrev pub bytes_in : List ℕ → Option (List ℕ)
bytes_in = bytes_up_to 2000

-- ---- names and files
-- what stands before the first such byte; all bytes where there is none
abbrev pub before : ℕ → List ℕ → List ℕ
before byte [] = []
before byte (c ∷ text) = cond (is_byte byte c) [] (c ∷ before byte text)

-- what stands after it, if there is one
abbrev pub after : ℕ → List ℕ → Option (List ℕ)
after byte [] = None
after byte (c ∷ text) = cond (is_byte byte c) (Some text) (after byte text)

-- both operands, where each is read
abbrev pub both : {X Y Z : Type 0} → (X → Y → Z) → Option X → Option Y → Option Z
both f None y = None
both f (Some x) None = None
both f (Some x) (Some y) = Some (f x y)

abbrev pub path_to : Option (List ℕ) → Path → Path
path_to dir path = record path { dir = dir }

-- a name in SysDir, or a directory's name, `>` and a name in that directory
abbrev pub in_sys_dir : List ℕ → Option Path
in_sys_dir name = option_map (λ wanted. record { dir = None; wanted = wanted }) (wanted_in name)

abbrev pub in_dir : List ℕ → List ℕ → Option Path
in_dir dir name = both (λ dir wanted. record { dir = Some dir; wanted = wanted }) (bare_in dir) (wanted_in name)

abbrev pub path_by : List ℕ → Option (List ℕ) → Option Path
path_by text None = in_sys_dir text
path_by text (Some name) = in_dir (before 62 text) name

abbrev pub path_in : List ℕ → Option Path
path_in text = path_by text (after 62 text)

-- a path, or `#` and a serial
abbrev pub file_in : List ℕ → Option Target
file_in [] = None
file_in (c ∷ text) = cond (c == 35) (option_map BySerial (number_in text)) (option_map ByPath (path_in (c ∷ text)))

-- ---- forms of lines: what the words after the verb are read as
abbrev pub Form : Type 0
Form = List (List ℕ) → Option Line

abbrev pub alone : Line → Form
alone l [] = Some l
alone l (a ∷ more) = None

abbrev pub one : {X : Type 0} → (List ℕ → Option X) → (X → Line) → Form
one x l [] = None
one x l (a ∷ []) = option_map l (x a)
one x l (a ∷ b ∷ more) = None

-- one word, which may be left out
abbrev pub perhaps : {X : Type 0} → (List ℕ → Option X) → (Option X → Line) → Form
perhaps x l [] = Some (l None)
perhaps x l (a ∷ []) = option_map (λ y. l (Some y)) (x a)
perhaps x l (a ∷ b ∷ more) = None

abbrev pub two : {X Y : Type 0} → (List ℕ → Option X) → (List ℕ → Option Y) → (X → Y → Line) → Form
two x y l [] = None
two x y l (a ∷ []) = None
two x y l (a ∷ b ∷ []) = both l (x a) (y b)
two x y l (a ∷ b ∷ c ∷ more) = None

abbrev pub three : {X Y Z : Type 0} → (List ℕ → Option X) → (List ℕ → Option Y) → (List ℕ → Option Z) → (X → Y → Z → Line) → Form
three x y z l [] = None
three x y z l (a ∷ []) = None
three x y z l (a ∷ b ∷ []) = None
three x y z l (a ∷ b ∷ c ∷ []) = both (λ f k. f k) (both l (x a) (y b)) (z c)
three x y z l (a ∷ b ∷ c ∷ d ∷ more) = None

-- ---- the table: each verb with its form
abbrev pub grammar : List (List ℕ × Form)
grammar =
    (codes "list", perhaps bare_in line.ListNames)
    ∷ (codes "type", one file_in line.TypeOut)
    ∷ (codes "stat", one file_in line.Stat)
    ∷ (codes "make", one path_in line.Make)
    ∷ (codes "append", two file_in bytes_in line.Append)
    ∷ (codes "patch", three file_in number_in bytes_in line.Patch)
    ∷ (codes "cut", two file_in number_in line.Cut)
    ∷ (codes "copy", two file_in path_in line.Copy)
    ∷ (codes "rename", two path_in path_in line.Rename)
    ∷ (codes "delete", one path_in line.Delete)
    ∷ (codes "mkdir", one bare_in line.MakeDir)
    ∷ (codes "rmdir", one bare_in line.RemoveDir)
    ∷ (codes "free", alone line.Free)
    ∷ (codes "settime", one number_in line.SetTime)
    ∷ (codes "open", one file_in line.OpenStream)
    ∷ (codes "get", two stream_in (number_from 1 1024) line.Get)
    ∷ (codes "putb", two stream_in bytes_in line.PutBytes)
    ∷ (codes "seek", two stream_in number_in line.Seek)
    ∷ (codes "close", one stream_in line.Close)
    ∷ (codes "store", two word_in word_in line.Store)
    ∷ (codes "fetch", one word_in line.Fetch)
    ∷ (codes "block", one (number_from 1 65535) line.Block)
    ∷ (codes "unblock", one word_in line.Unblock)
    ∷ (codes "junta", one (number_from 1 8) line.Junta)
    ∷ (codes "counterjunta", alone line.CounterJunta)
    ∷ (codes "outload", one path_in line.OutLoad)
    ∷ (codes "inload", two path_in (bytes_up_to 40) line.InLoad)
    ∷ (codes "scavenge", alone line.Scavenge)
    ∷ (codes "quit", alone line.Quit)
    ∷ []

-- the words by the row of their verb
abbrev pub read_by : List (List ℕ × Form) → List (List ℕ) → Option Line
read_by rows [] = None
read_by [] (verb ∷ more) = None
read_by (row ∷ rows) (verb ∷ more) = cond (pointwise nat_eq verb row.0) (row.1 more) (read_by rows (verb ∷ more))

-- the line that a text is, if it is one
abbrev pub typed_in : List ℕ → Option Line
typed_in text = cond (is_too_long text) None (read_by grammar (words_in text))

-- the line that a text is read as; a bad one where it isn't in the grammar
unfoldable pub line_in : List ℕ → Line
line_in text = unwrap_or (typed_in text) line.Bad
