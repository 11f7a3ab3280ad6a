-- The words of a file by the values of its pages, on any pack: those of a directory, and those of DiskDescriptor.
use Rattle.std.specs.Prelude.{List, Some, drop, length, suc, take, ℕ, ◌%◌, ◌*◌, ◌++◌, ◌+◌, ◌/◌, ◌<◌, ◌≡◌, ◌≤◌}
use Rattle.laws_record.specs.alto_words.specs.Fid.{disk_descriptor}
use Rattle.laws_record.specs.alto_words.specs.declared.fid.Fid.{Fid}
use Rattle.laws_record.specs.disk_records.specs.Packs.{Pack, sector_at}
use Rattle.laws_record.specs.disk_records.specs.Words.{double, word}
use Rattle.laws_record.specs.pack_model.specs.hints.HintWords.{IsWordOf}
use Rattle.laws_record.specs.pack_model.specs.reading.Bytes.{words_of}
use Rattle.laws_record.specs.pack_model.specs.reading.Files.{file_bytes, place}
use Rattle.laws_record.specs.pack_model.specs.reading.Model.{read_as}
use Rattle.laws_record.specs.pack_model.specs.reading.Sights.{sights}
use Rattle.laws_record.specs.pack_model.specs.states.Sound.{mark_of}
use Rattle.laws_contents.specs.PageLaws.{FullBefore, bytes_at}

-- the words of any file: `dir_words` of a directory, `descriptor_words` of DiskDescriptor
abbrev pub file_words : Pack → Fid → List ℕ
file_words p f = words_of (file_bytes (sights p) f)

-- the words of a sector's value that its label counts; a last odd byte is left out
abbrev pub words_at : Pack → ℕ → List ℕ
words_at p at = take (length (bytes_at p at) / 2) (sector_at p at).value

-- ---- one word
-- word w of a file is the word of the value in which it stands: word w % 256 of data page w / 256, counted from 0
abbrev pub WordStandsInItsPage : Type 0
WordStandsInItsPage = (p : Pack) (f : Fid) (w at k : ℕ) → w < length (file_words p f) → IsWordOf p f w at k → word (file_words p f) w ≡ word (sector_at p at).value k

-- The page of a word of a file is there, after full ones, and the word counts in it.
pub record HasWordOf (p : Pack) (f : Fid) (w : ℕ) : Type 0 where
  pub at : ℕ
  pub stands : IsWordOf p f w at (w % 256)
  pub before : FullBefore p f (w / 256)
  pub within : w % 256 < length (words_at p at)

-- so it is for each word
abbrev pub EachWordHasItsPage : Type 0
EachWordHasItsPage = (p : Pack) (f : Fid) (w : ℕ) → w < length (file_words p f) → HasWordOf p f w

-- ---- the words of a page
-- the counted words of a data page, after full ones, are 256 words of the file, or as many as are left
abbrev pub PageWordsAreASlice : Type 0
PageWordsAreASlice = (p : Pack) (f : Fid) (k at : ℕ) → FullBefore p f k → place (sights p) f (suc k) ≡ Some at → words_at p at ≡ take 256 (drop (256 * k) (file_words p f))

-- the words of full pages, and then those of the next one, are the first words of the file
abbrev pub PageWordsGoOn : Type 0
PageWordsGoOn = (p : Pack) (f : Fid) (k at : ℕ) → FullBefore p f k → place (sights p) f (suc k) ≡ Some at
    → take (256 * k) (file_words p f) ++ words_at p at ≡ take (256 * k + length (words_at p at)) (file_words p f)

-- words of a file from one on, as many as count from there in its page, are those of this page's value
abbrev pub WordsStandInTheirPage : Type 0
WordsStandInTheirPage = (p : Pack) (f : Fid) (w n at k : ℕ) → FullBefore p f (w / 256) → IsWordOf p f w at k → k + n ≤ length (words_at p at)
    → take n (drop w (file_words p f)) ≡ take n (drop k (sector_at p at).value)

-- ---- DiskDescriptor
-- The mark and the last serial stand in this value.
pub record SaysMarkAndLast (p : Pack) (at : ℕ) : Type 0 where
  pub mark : mark_of (sights p) ≡ word (sector_at p at).value 6
  pub last : (read_as p).last ≡ double (sector_at p at).value 4

-- its first data page says them, if it counts 14 bytes
abbrev pub FirstPageSaysMarkAndLast : Type 0
FirstPageSaysMarkAndLast = (p : Pack) (at : ℕ) → place (sights p) disk_descriptor 1 ≡ Some at → 14 ≤ length (bytes_at p at) → SaysMarkAndLast p at
