-- The words of new and changed pages.
-- The words are this project's choice.
use Rattle.std.specs.Prelude.{ℕ, ◌-◌, ◌/◌, ◌%◌, ◌==◌, cond, List, [], ◌∷◌, ◌++◌, length, take, drop, replicate}
use Rattle.disk_records.specs.alto_words.specs.declared.fid.Fid.{Fid}
use Rattle.disk_records.specs.alto_words.specs.Fid.{is_directory}
use Rattle.disk_records.specs.declared.shape.Shape.{Shape}
use Rattle.disk_records.specs.declared.records.Page.{Page}
use Rattle.disk_records.specs.Addresses.{real_of}
use Rattle.disk_records.specs.Labels.{label_of}
use Rattle.disk_records.specs.Words.{word}
use Rattle.pack_model.specs.reading.Bytes.{bytes_of, words_of, put_at}
use Rattle.pack_model.specs.reading.Leaders.{Leader}
use Rattle.pack_model.specs.reading.SlotWords.{entry_words, space_words}
use Rattle.pack_model.specs.operations.Step.{new_leader}
use Rattle.pack_model.specs.hints.Links.{no_link}

-- a number in two words, the high one first
abbrev pub halves : ℕ → List ℕ
halves n = n / 65536 ∷ n % 65536 ∷ []

-- n items, zeros after those that are there
abbrev pub filled : ℕ → List ℕ → List ℕ
filled n items = items ++ replicate (n - length items) 0

-- the value of a new data page: its bytes; after them words that don't count, where the bytes are even; zeros
abbrev pub page_value : List ℕ → List ℕ → List ℕ
page_value bytes past = words_of (filled 512 (bytes ++ bytes_of past))

-- a value with bytes in the place of others from `at` on, and after them these words that don't count; what follows stays
abbrev pub put_value : ℕ → List ℕ → List ℕ → List ℕ → List ℕ
put_value at bytes past value = words_of (put_at at (bytes ++ bytes_of past) (bytes_of value))

-- ---- leader pages
-- a name in 20 words: a length byte, the characters, zeros
abbrev pub name_words : List ℕ → List ℕ
name_words name = words_of (filled 40 (length name ∷ name))

-- the hints of a new leader: zeros, and then the last page's address, number and bytes
abbrev pub last_page_hints : ℕ → ℕ → ℕ → List ℕ
last_page_hints at number bytes = replicate 7 0 ++ (at ∷ number ∷ bytes ∷ [])

-- the 256 words of a leader page
abbrev pub leader_value : Leader → List ℕ → List ℕ
leader_value l hints = halves l.created ++ halves l.written ++ halves l.read ++ name_words l.name ++ l.rest ++ hints

-- words 6 to 25 say another name
abbrev pub titled_value : List ℕ → List ℕ → List ℕ
titled_value name value = put_at 6 (name_words name) value

-- words 2 and 3 say another written date, words 253 to 255 the last page's address, number and bytes
abbrev pub stamped_value : ℕ → ℕ → ℕ → ℕ → List ℕ → List ℕ
stamped_value moment at number bytes value = put_at 253 (at ∷ number ∷ bytes ∷ []) (put_at 2 (halves moment) value)

-- ---- directory pages: 256 words, of which a directory's word is one by its place
abbrev pub in_page : ℕ → ℕ
in_page place = place % 256

-- the slot there becomes a free one of n words: its first word alone changes
abbrev pub freed_value : ℕ → ℕ → List ℕ → List ℕ
freed_value place n value = put_at (in_page place) (n ∷ []) value

-- a directory with a page more gets one free slot of its words
abbrev pub widening_bytes : List ℕ
widening_bytes = bytes_of (space_words 256)

-- the words of an entry, and of a free slot for the words left over the first one
abbrev pub entered_words : Fid → ℕ → List ℕ → ℕ → List ℕ
entered_words f address name left = entry_words f address name ++ cond (left == 0) [] (left ∷ [])

-- of words from a place on, those that lie in its page, and those that lie in the next one
abbrev pub near : ℕ → List ℕ → List ℕ
near place words = take (256 - in_page place) words

abbrev pub later : ℕ → List ℕ → List ℕ
later place words = drop (256 - in_page place) words

-- ---- labels
abbrev pub page_number : Fid → ℕ → Page
page_number f n = record { fid = f; number = n }

-- the next link to the first of these sectors, if there is one
abbrev pub link_to_first : Shape → List ℕ → ℕ
link_to_first shape [] = no_link
link_to_first shape (at ∷ addresses) = real_of shape at

-- a page's label with another count and another next link; the previous link and the page stay, and the blank word is 0
abbrev pub relabelled : List ℕ → ℕ → ℕ → List ℕ
relabelled label bytes next = next ∷ word label 1 ∷ 0 ∷ bytes ∷ drop 4 label

-- the label of a file's leader, whose page 1 is at this address
abbrev pub leader_label : Shape → Fid → ℕ → List ℕ
leader_label shape f page_at = label_of (page_number f 0) 512 (real_of shape page_at) no_link

-- page 1 of a new file: of a directory one free slot of 255 words, else no bytes
abbrev pub new_bytes : Fid → ℕ
new_bytes f = cond (is_directory f) 510 0

-- the value of a file's first data page: a free slot in a directory, zeros in any other
abbrev pub first_page_value : Fid → List ℕ
first_page_value f = filled 256 (cond (is_directory f) (space_words 255) [])

-- the label of a file's first data page, whose leader is at this address
abbrev pub first_page_label : Shape → Fid → ℕ → List ℕ
first_page_label shape f leader_at = label_of (page_number f 1) (new_bytes f) no_link (real_of shape leader_at)

-- the value of a new file's leader, whose page 1 is at this address
abbrev pub new_leader_value : Fid → List ℕ → ℕ → ℕ → List ℕ
new_leader_value f name moment page_at = leader_value (new_leader name moment) (last_page_hints page_at 1 (new_bytes f))
