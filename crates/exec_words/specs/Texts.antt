-- The texts of replies.
-- All texts are this project's choice.
use Rattle.std.specs.Prelude.{ℕ, zero, suc, ◌+◌, ◌/◌, codes, decimal, List, [], ◌∷◌, ◌++◌, length, take, drop, Option, Some, None}
use Rattle.std.specs.List.{flat_map}
use Rattle.alto_words.specs.declared.fid.Fid.{Fid}
use Rattle.alto_words.specs.Fid.{serial_of}
use Rattle.alto_words.specs.Names.{folded_cmp}
use Rattle.alto_words.specs.Numbers.{hex_of}
use Rattle.disk_records.specs.declared.records.Page.{Page}
use Rattle.disk_records.specs.declared.records.Place.{Place}
use Rattle.disk_records.specs.declared.records.Place.TheVariants.{Root, Entry, Next, Held}
use Rattle.pack_model.specs.scavenger.Reports.{Report}
use Rattle.pack_model.specs.showing.Listing.{in_order}
use Rattle.exec_words.specs.declared.reply.Refusal.{Refusal}
use Rattle.exec_words.specs.declared.reply.Refusal.TheVariants as refusal
use Rattle.exec_words.specs.declared.reply.Reply.{Reply}
use Rattle.exec_words.specs.declared.reply.Reply.TheVariants as reply
use Rattle.exec_words.specs.declared.reply.Stat.{Stat}

-- ---- pieces
-- a line that is shown
abbrev pub line_of : List ℕ → List ℕ
line_of text = text ++ 10 ∷ []

-- a text with a number after it
abbrev pub with_number : List ℕ → ℕ → List ℕ
with_number text n = text ++ decimal n

-- a space before each number
abbrev pub spaced : List ℕ → List ℕ
spaced numbers = flat_map (λ n. 32 ∷ decimal n) numbers

-- bytes in hex, `-` for none
abbrev pub bytes_words : List ℕ → List ℕ
bytes_words [] = codes "-"
bytes_words (b ∷ bytes) = hex_of (b ∷ bytes)

-- ---- the text of a line that is done
abbrev pub done_text : List ℕ
done_text = line_of (codes "done")

abbrev pub made_text : Fid → List ℕ
made_text f = line_of (with_number (codes "made #") (serial_of f))

abbrev pub length_text : ℕ → List ℕ
length_text n = line_of (with_number (codes "length ") n)

abbrev pub at_text : ℕ → List ℕ
at_text n = line_of (with_number (codes "at ") n)

abbrev pub level_text : ℕ → List ℕ
level_text n = line_of (with_number (codes "level ") n)

abbrev pub stream_text : ℕ → List ℕ
stream_text n = line_of (with_number (codes "stream ") n)

abbrev pub free_text : ℕ → List ℕ
free_text n = line_of (decimal n ++ codes " pages free")

-- a word of the memory
abbrev pub word_text : ℕ → List ℕ
word_text n = line_of (decimal n)

-- the bytes that `get` takes
abbrev pub got_text : List ℕ → List ℕ
got_text bytes = line_of (bytes_words bytes)

abbrev pub written_text : List ℕ
written_text = line_of (codes "written")

-- a world that is loaded finds the message
abbrev pub not_written_text : List ℕ → List ℕ
not_written_text message = line_of (codes "not written " ++ hex_of message)

-- the bytes in hex, 32 to a line
abbrev pub hex_lines : ℕ → List ℕ → List ℕ
hex_lines zero bytes = []
hex_lines (suc fuel) [] = []
hex_lines (suc fuel) (b ∷ bytes) = line_of (hex_of (take 32 (b ∷ bytes))) ++ hex_lines fuel (drop 32 (b ∷ bytes))

abbrev pub type_text : List ℕ → List ℕ
type_text bytes = hex_lines (length bytes) bytes ++ line_of (decimal (length bytes) ++ codes " bytes")

-- the names, each on a line, and their number
abbrev pub names_text : List (List ℕ) → List ℕ
names_text names = flat_map line_of names ++ line_of (decimal (length names) ++ codes " entries")

-- by their order
abbrev pub list_text : List (List ℕ) → List ℕ
list_text names = names_text (in_order folded_cmp names)

-- the leader page and the last data page count, also where that is empty
abbrev pub pages_of_length : ℕ → ℕ
pages_of_length n = 2 + n / 512

abbrev pub stat_text : Stat → List ℕ
stat_text s =
    line_of (with_number (codes "#") (serial_of s.fid) ++ with_number (codes " length ") s.length ++ with_number (codes " pages ") (pages_of_length s.length)
    ++ with_number (codes " created ") s.created ++ with_number (codes " written ") s.written ++ with_number (codes " read ") s.read
    ++ codes " name " ++ s.name)

abbrev pub report_text : Report → List ℕ
report_text r =
    line_of (with_number (codes "scavenged: files ") r.files ++ with_number (codes ", freed ") r.freed ++ with_number (codes ", bad ") r.bad
    ++ with_number (codes ", adopted ") r.adopted)

-- ---- refusals
abbrev pub place_text : Place → List ℕ
place_text Root = codes "root"
place_text (Entry dir w) = with_number (codes "entry #") (serial_of dir) ++ with_number (codes " word ") w
place_text (Next at) = with_number (codes "next of ") at
place_text (Held at) = with_number (codes "held ") at

-- the eight words of the label that was found
abbrev pub found_text : Option (List ℕ) → List ℕ
found_text None = codes " none"
found_text (Some label) = spaced label

abbrev pub page_text : Page → List ℕ
page_text page = with_number (codes " wanted #") (serial_of page.fid) ++ with_number (codes " v ") page.fid.version ++ with_number (codes " page ") page.number

abbrev pub hint_words : Place → ℕ → Page → Option (List ℕ) → List ℕ
hint_words place at wanted found = codes "hint failed: " ++ place_text place ++ with_number (codes " at ") at ++ page_text wanted ++ codes " found" ++ found_text found

abbrev pub refusal_words : Refusal → List ℕ
refusal_words refusal.BadLine = codes "bad line"
refusal_words refusal.NeedsScavenge = codes "needs scavenging"
refusal_words (refusal.NoService level) = with_number (codes "needs level ") level
refusal_words refusal.NoSuchName = codes "no such name"
refusal_words refusal.NotADirectory = codes "not a directory"
refusal_words refusal.IsADirectory = codes "is a directory"
refusal_words refusal.SystemFile = codes "system file"
refusal_words refusal.NameTaken = codes "name taken"
refusal_words refusal.NotEmpty = codes "not empty"
refusal_words (refusal.Beyond size) = with_number (codes "beyond length ") size
refusal_words refusal.NoStream = codes "no stream"
refusal_words refusal.TooManyStreams = codes "too many streams"
refusal_words refusal.StreamsOpen = codes "streams open"
refusal_words (refusal.NoRoom largest) = with_number (codes "no room: largest ") largest
refusal_words refusal.NotABlock = codes "not a block"
refusal_words (refusal.InUse at) = with_number (codes "in use at ") at
refusal_words (refusal.NotAWorld size) = with_number (codes "not a world: length ") size
refusal_words (refusal.NotWhole mark) = with_number (codes "not whole: mark ") mark
refusal_words (refusal.Spoilt w) = with_number (codes "spoilt world: word ") w
refusal_words (refusal.SerialsSpent last) = with_number (codes "serials spent: last ") last
refusal_words (refusal.Full needed free) = with_number (codes "full: needed ") needed ++ with_number (codes " free ") free
refusal_words (refusal.HintFailed place at wanted found) = hint_words place at wanted found

abbrev pub refusal_text : Refusal → List ℕ
refusal_text r = line_of (refusal_words r)

-- ---- replies: the text that is shown, if one is
abbrev pub reply_text : Reply → List ℕ
reply_text (reply.Done text) = text
reply_text (reply.Refused r) = refusal_text r
reply_text reply.Quit = done_text
reply_text reply.Scavenge = []
reply_text reply.DiskFault = []
reply_text reply.Memory = []
