-- Labels: the file, the page and the number of bytes are absolutes, the two links are hints.
use Rattle.std.specs.Prelude.{ℕ, ◌==◌, ◌&&◌, Bool, cond, not, nat_lt, nat_le, List, [], ◌∷◌, Option, Some, None}
use Rattle.alto_words.specs.declared.fid.Fid.{Fid}
use Rattle.alto_words.specs.Fid.{serial_of}
use Rattle.disk_records.specs.declared.records.Page.{Page}
use Rattle.disk_records.specs.Words.{word}

-- what a label says with its links and its blank word left out
pub record Tag : Type 0 where
  pub fid : Fid
  pub page : ℕ
  pub bytes : ℕ

abbrev pub tag : List ℕ → Tag
tag label = record { fid = record { high = word label 6; low = word label 7; version = word label 5 }; page = word label 4; bytes = word label 3 }

-- at most 512 bytes, a version that can be given, a serial above 0; a page number is a word
unfoldable pub in_range : Tag → Bool
in_range t = nat_le t.bytes 512 && nat_le 1 t.fid.version && nat_le t.fid.version 65534 && not (serial_of t.fid == 0) && nat_lt t.page 65536

-- ones in the version and in both serial words
unfoldable pub is_free : Tag → Bool
is_free t = t.fid.version == 65535 && t.fid.high == 65535 && t.fid.low == 65535

-- the page that a label names, where it is in range
abbrev pub page_of : List ℕ → Option Page
page_of label = cond (in_range (tag label)) (Some (record { fid = (tag label).fid; number = (tag label).page })) None

-- the label of a page: next, previous, blank, bytes, page number, version, serial
abbrev pub label_of : Page → ℕ → ℕ → ℕ → List ℕ
label_of page bytes next previous = next ∷ previous ∷ 0 ∷ bytes ∷ page.number ∷ page.fid.version ∷ page.fid.high ∷ page.fid.low ∷ []
