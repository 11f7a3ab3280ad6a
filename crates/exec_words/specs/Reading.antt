-- What the functions that read lines answer.
use Rattle.std.specs.Prelude.{◌≡◌, ℕ, cond, nat_eq, codes, List, [], ◌∷◌, Option, Some, None, Result, Ok, Err}
use Rattle.std.specs.Cmp.Lexicographic.{pointwise}
use Rattle.exec_words.specs.declared.operand.Unread.{Unread}
use Rattle.exec_words.specs.declared.operand.Unread.TheVariants as unread
use Rattle.alto_words.specs.Names.{bare_in}
use Rattle.alto_words.specs.Numbers.{number_in}
use Rattle.exec_words.specs.Grammar.{Form, alone, one, two, three, file_in, path_in, word_in, stream_in, number_from, bytes_in, bytes_up_to}
use Rattle.exec_words.specs.declared.line.Line.{Line}
use Rattle.exec_words.specs.declared.line.Line.TheVariants as line

-- What is read is what the grammar gives, and nothing is read where it gives nothing, unless memory ran out.
abbrev pub Misreads : {X : Type 0} → Unread → Option X → Type 0
Misreads unread.Bad o = o ≡ None
Misreads unread.Memory o = Unit {0}

abbrev pub Reads : {X : Type 0} → Result X Unread → Option X → Type 0
Reads (Ok x) o = o ≡ Some x
Reads (Err e) o = Misreads e o

-- ---- the rows of the table, by how many words follow their verbs, and of which kind
abbrev pub alone_rows : List (List ℕ × Form)
alone_rows =
    (codes "list", alone (line.ListNames None))
    ∷ (codes "free", alone line.Free)
    ∷ (codes "counterjunta", alone line.CounterJunta)
    ∷ (codes "scavenge", alone line.Scavenge)
    ∷ (codes "quit", alone line.Quit)
    ∷ []

abbrev pub number_rows : List (List ℕ × Form)
number_rows =
    (codes "settime", one number_in line.SetTime)
    ∷ (codes "close", one stream_in line.Close)
    ∷ (codes "fetch", one word_in line.Fetch)
    ∷ (codes "block", one (number_from 1 65535) line.Block)
    ∷ (codes "unblock", one word_in line.Unblock)
    ∷ (codes "junta", one (number_from 1 8) line.Junta)
    ∷ []

-- a path, or a number
abbrev pub path_rows : List (List ℕ × Form)
path_rows =
    (codes "make", one path_in line.Make)
    ∷ (codes "delete", one path_in line.Delete)
    ∷ (codes "outload", one path_in line.OutLoad)
    ∷ number_rows

-- a name, a file or one of these
abbrev pub one_rows : List (List ℕ × Form)
one_rows =
    (codes "list", one bare_in (λ name. line.ListNames (Some name)))
    ∷ (codes "mkdir", one bare_in line.MakeDir)
    ∷ (codes "rmdir", one bare_in line.RemoveDir)
    ∷ (codes "type", one file_in line.TypeOut)
    ∷ (codes "stat", one file_in line.Stat)
    ∷ (codes "open", one file_in line.OpenStream)
    ∷ path_rows

abbrev pub two_rows : List (List ℕ × Form)
two_rows =
    (codes "cut", two file_in number_in line.Cut)
    ∷ (codes "copy", two file_in path_in line.Copy)
    ∷ (codes "rename", two path_in path_in line.Rename)
    ∷ (codes "get", two stream_in (number_from 1 1024) line.Get)
    ∷ (codes "seek", two stream_in number_in line.Seek)
    ∷ (codes "store", two word_in word_in line.Store)
    ∷ []

abbrev pub three_rows : List (List ℕ × Form)
three_rows = (codes "patch", three file_in number_in bytes_in line.Patch) ∷ []

-- more than one word, of which the second isn't bytes
abbrev pub words_rows : List (List ℕ × Form)
words_rows = (codes "patch", three file_in number_in bytes_in line.Patch) ∷ two_rows

abbrev pub bytes_rows : List (List ℕ × Form)
bytes_rows =
    (codes "append", two file_in bytes_in line.Append)
    ∷ (codes "putb", two stream_in bytes_in line.PutBytes)
    ∷ (codes "inload", two path_in (bytes_up_to 40) line.InLoad)
    ∷ []

-- the words by the row of their verb, and otherwise what else they are
abbrev pub read_else : List (List ℕ × Form) → List (List ℕ) → Option Line → Option Line
read_else rows [] other = None
read_else [] (verb ∷ more) other = other
read_else (row ∷ rows) (verb ∷ more) other = cond (pointwise nat_eq verb row.0) (row.1 more) (read_else rows (verb ∷ more) other)
