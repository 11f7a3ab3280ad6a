-- What is read of DiskDescriptor: the words and the sectors of its first five data pages, and its length.
use Rattle.std.specs.Prelude.{List, Some, get_or, take, ℕ, ◌+◌, ◌/◌, ◌<◌, ◌≡◌, ◌≤◌}
use Rattle.alto_words.specs.declared.fid.Fid.{Fid}
use Rattle.disk_records.specs.Packs.{Pack, carried, sector_at}
use Rattle.laws_format.specs.laws_contents.specs.WordContents.{file_words}
use Rattle.pack_model.specs.reading.Files.{place}
use Rattle.pack_model.specs.reading.Sights.{sights}
use Rattle.page_seeking.specs.Seeking.{file_length, page_number}

-- the bytes of five pages
abbrev pub most_bytes : ℕ
most_bytes = 2560

-- The length is the file's. If its bytes end in five pages, the words are the file's up to there, and its pages are in these sectors, the
-- one too that the end is in.
pub record IsRead (p : Pack) (f : Fid) (words pages : List ℕ) (size : ℕ) : Type 0 where
  pub size_is : size ≡ file_length p f
  pub words_are : size < most_bytes → take (size / 2) words ≡ file_words p f
  pub pages_are : size < most_bytes → (n : ℕ) → n ≤ size / 512 → place (sights p) f (n + 1) ≡ Some (get_or pages n 0)

-- A sector carries page 1 of the file, and the first 256 words are its value: on a pack that carries this page twice, one of the two.
pub record HasFirstPage (p : Pack) (f : Fid) (words : List ℕ) : Type 0 where
  pub at : ℕ
  pub carries : carried p at ≡ Some (page_number f 1)
  pub words_are : take 256 words ≡ (sector_at p at).value
