-- Sound packs, and clean ones.
-- What a sound pack is, and the mark, are this project's choice.
use Rattle.std.specs.Prelude.{◌≡◌, ℕ, true, List}
use Rattle.disk_records.specs.alto_words.specs.declared.fid.Fid.{Fid}
use Rattle.disk_records.specs.alto_words.specs.Fid.{disk_descriptor}
use Rattle.disk_records.specs.Words.{word}
use Rattle.disk_records.specs.Packs.{Pack}
use Rattle.pack_model.specs.reading.Sights.{Sight, sights}
use Rattle.pack_model.specs.reading.Files.{lives}
use Rattle.pack_model.specs.reading.Model.{IsNamed, descriptor_words, read_as}
use Rattle.pack_model.specs.states.Whole.{Whole, Tidy}

-- Whole and tidy, and every living file has an entry. Nothing is said of a hint.
pub record Sound (p : Pack) : Type 0 where
  pub whole : Whole p
  pub tidy : Tidy p
  pub named : (f : Fid) → lives (sights p) f ≡ true → IsNamed (read_as p) f

-- the mark: 1 is clean, 2 is open
abbrev pub mark_clean : ℕ
mark_clean = 1

abbrev pub mark_open : ℕ
mark_open = 2

-- it is word 6 of DiskDescriptor
abbrev pub mark_of : List Sight → ℕ
mark_of ss = word (descriptor_words ss) 6

-- DiskDescriptor lives, and its mark is clean.
pub record Clean (p : Pack) : Type 0 where
  pub lives : lives (sights p) disk_descriptor ≡ true
  pub mark : mark_of (sights p) ≡ mark_clean
