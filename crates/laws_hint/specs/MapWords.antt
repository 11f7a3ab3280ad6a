-- Tables of busy bits as words: hint_cache's way of reading and writing them, and pack_model's.
use Rattle.std.specs.List.{range_with_len}
use Rattle.std.specs.Prelude.{Bool, List, [], drop, false, length, map, replicate, true, ℕ, ◌*◌, ◌+◌, ◌≡◌, ◌≤◌}
use Rattle.laws_line.specs.disk_records.specs.Addresses.{pages_of, table_words}
use Rattle.laws_line.specs.disk_records.specs.Packs.{Pack}
use Rattle.laws_line.specs.disk_records.specs.declared.shape.Shape.{Shape}
use Rattle.laws_line.specs.hint_cache.specs.Bits.{bits_in, word_of}
use Rattle.laws_line.specs.pack_model.specs.sessions.Descriptor.{descriptor_text}
use Rattle.laws_line.specs.pack_model.specs.reading.Model.{descriptor_words}
use Rattle.laws_line.specs.pack_model.specs.reading.Sights.{sights}
use Rattle.laws_line.specs.pack_model.specs.hints.Tables.{bits_from, described_table, table_in, words_of_bits}
use Rattle.laws_line.specs.pack_model.specs.states.Whole.{Whole}

-- the first words that a table gives, one by one
abbrev pub words_given : ℕ → List Bool → List ℕ
words_given many bits = map (word_of bits) (range_with_len 0 many)

-- ---- any words
-- the first words that a table gives are those of the map with its bits
abbrev pub TableGivesTheWordsOfItsBits : Type 0
TableGivesTheWordsOfItsBits = (many : ℕ) (bits : List Bool) → words_given many bits ≡ words_of_bits many bits

-- the table of so many sectors that is read from words is the map that they hold, where there are enough of them
abbrev pub TableOfEnoughWordsIsTheirMap : Type 0
TableOfEnoughWordsIsTheirMap = (pages : ℕ) (words : List ℕ) → pages ≤ 16 * length words → bits_in pages words ≡ bits_from words 0 pages

-- enough of a map's words give it back
abbrev pub WordsGiveTheMapBack : Type 0
WordsGiveTheMapBack = (many : ℕ) (bits : List Bool) → length bits ≤ 16 * many → bits_from (words_of_bits many bits) 0 (length bits) ≡ bits

-- ---- DiskDescriptor's words
-- the table that is read from DiskDescriptor is the map that it says, where it has all of the map's words
abbrev pub TableReadIsDescribed : Type 0
TableReadIsDescribed = (p : Pack) → 16 + table_words p.shape ≤ length (descriptor_words (sights p)) → bits_in (pages_of p.shape) (table_in p) ≡ described_table p

-- on a whole pack the table that is read from DiskDescriptor is the map that it says
abbrev pub WholePackDescribesTheTableRead : Type 0
WholePackDescribesTheTableRead = (p : Pack) → Whole p → bits_in (pages_of p.shape) (table_in p) ≡ described_table p

-- the words that a table gives are those after the first 16 of the words that are written into DiskDescriptor for it
abbrev pub TableIsWritten : Type 0
TableIsWritten = (shape : Shape) (last mark : ℕ) (bits : List Bool) → drop 16 (descriptor_text shape last mark bits) ≡ words_given (table_words shape) bits

-- where DiskDescriptor has no word of a map, the table that is read from it is all busy, and the map that it says all free
abbrev pub AbsentMapIsReadBusyAndDescribedFree : Type 0
AbsentMapIsReadBusyAndDescribedFree = (p : Pack) → table_in p ≡ [] → (bits_in (pages_of p.shape) (table_in p) ≡ replicate (pages_of p.shape) true) × (described_table p ≡ replicate (pages_of p.shape) false)
