-- What a leader page says: its words 0 to 245. The words from 246 on are hints.
-- A leader page with dates, a name and hints is that of the SOSP 1979 paper; its layout is this project's choice.
use Rattle.std.specs.Prelude.{ℕ, ◌==◌, ◌&&◌, Bool, cond, List, length, take, drop}
use Rattle.disk_records.specs.alto_words.specs.declared.fid.Fid.{Fid}
use Rattle.disk_records.specs.alto_words.specs.Fid.{serial_of}
use Rattle.disk_records.specs.alto_words.specs.Names.{is_stored_name, lost}
use Rattle.disk_records.specs.Words.{word, double}
use Rattle.pack_model.specs.reading.Bytes.{bytes_of}

-- the dates, the name, and the properties that are kept as they are
pub record Leader : Type 0 where
  pub created : ℕ
  pub written : ℕ
  pub read : ℕ
  pub name : List ℕ
  pub rest : List ℕ

-- words 6 to 25: a length byte, and the characters
abbrev pub name_bytes : List ℕ → List ℕ
name_bytes value = bytes_of (take 20 (drop 6 value))

-- as many characters as the length byte says; what follows them is ignored
abbrev pub spelled_name : List ℕ → List ℕ
spelled_name value = take (word (name_bytes value) 0) (drop 1 (name_bytes value))

-- whether they spell a stored name
unfoldable pub is_readable : List ℕ → Bool
is_readable value = length (spelled_name value) == word (name_bytes value) 0 && is_stored_name (spelled_name value)

-- the name that is read, or the one that stands for it where it can't be read
unfoldable pub leader_name : Fid → List ℕ → List ℕ
leader_name f value = cond (is_readable value) (spelled_name value) (lost (serial_of f))

-- the words of a leader page that say something
abbrev pub leader_words : List ℕ → List ℕ
leader_words value = take 246 value

-- what the words of a leader page say
unfoldable pub leader_of : Fid → List ℕ → Leader
leader_of f value =
    let words = leader_words value in
    record { created = double words 0; written = double words 2; read = double words 4; name = leader_name f words; rest = drop 26 words }
