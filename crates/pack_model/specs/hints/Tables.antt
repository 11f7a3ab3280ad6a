-- The true allocation map, and packs whose hints are all true.
-- An allocation map that is a hint is that of the SOSP 1979 paper; its layout is this project's choice.
use Rattle.std.specs.Prelude.{◌≡◌, ℕ, zero, suc, ◌+◌, ◌-◌, ◌*◌, ◌/◌, ◌%◌, ◌^◌, ◌==◌, Bool, not, List, [], ◌∷◌, map, take, drop}
use Rattle.disk_records.specs.Addresses.{pages_of, table_words}
use Rattle.disk_records.specs.Words.{word}
use Rattle.disk_records.specs.Packs.{Pack}
use Rattle.pack_model.specs.reading.Sights.{sights}
use Rattle.pack_model.specs.reading.Files.{numbered}
use Rattle.pack_model.specs.reading.Model.{descriptor_words}
use Rattle.pack_model.specs.states.InUse.{is_available, is_free_sight, free_sector_count, one_if}
use Rattle.pack_model.specs.hints.Links.{LinksTrue}

-- ---- maps as words
-- the bit of a sector in an allocation map's words: the most significant bit of the first is sector 0; 1 is busy
abbrev pub is_busy : List ℕ → ℕ → Bool
is_busy words at = word words (at / 16) / 2 ^ (15 - at % 16) % 2 == 1

-- the bits of so many sectors, from one on
abbrev pub bits_from : List ℕ → ℕ → ℕ → List Bool
bits_from words at zero = []
bits_from words at (suc n) = is_busy words at ∷ bits_from words (suc at) n

-- so many bits as a number, the first one the most significant; missing ones are 0
abbrev pub bits_value : ℕ → List Bool → ℕ
bits_value zero bits = 0
bits_value (suc n) [] = 0
bits_value (suc n) (b ∷ bits) = one_if b * 2 ^ n + bits_value n bits

abbrev pub words_of_bits : ℕ → List Bool → List ℕ
words_of_bits zero bits = []
words_of_bits (suc t) bits = bits_value 16 bits ∷ words_of_bits t (drop 16 bits)

-- the words of the map that stands in DiskDescriptor, the map, and the number of free sectors that it states
abbrev pub table_in : Pack → List ℕ
table_in p = take (table_words p.shape) (drop 16 (descriptor_words (sights p)))

-- the table of busy sectors that DiskDescriptor's words hold
abbrev pub described_table : Pack → List Bool
described_table p = bits_from (table_in p) 0 (pages_of p.shape)

-- the number of free sectors that DiskDescriptor's words tell
abbrev pub described_free : Pack → ℕ
described_free p = word (descriptor_words (sights p)) 7

-- ---- what they have to be
-- busy exactly at sector 0, at bad sectors and at sectors in use
abbrev pub true_table : Pack → List Bool
true_table p = map (λ e. not (is_available p.shape (sights p) e)) (numbered 0 (sights p))

-- an allocation map in memory says exactly that
abbrev pub TableTrue : Pack → List Bool → Type 0
TableTrue p busy = busy ≡ true_table p

-- and so do the words of the one in DiskDescriptor, whose bits past the last sector are 0
abbrev pub WordsTrue : Pack → Type 0
WordsTrue p = table_in p ≡ words_of_bits (table_words p.shape) (true_table p)

-- the map of free sectors alone: busy exactly at those that aren't free, on any pack
abbrev pub free_table : Pack → List Bool
free_table p = map (λ s. not (is_free_sight s)) (sights p)

-- All links and addresses, the map in DiskDescriptor and the number of free sectors are true.
pub record HintsTrue (p : Pack) : Type 0 where
  pub links : LinksTrue p
  pub table : WordsTrue p
  pub free : described_free p ≡ free_sector_count (sights p)
