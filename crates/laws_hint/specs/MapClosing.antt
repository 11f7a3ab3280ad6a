-- Closing with any map: what DiskDescriptor says after it.
use Rattle.std.specs.Prelude.{Bool, List, length, not, ℕ, ◌↔◌, ◌≡◌, ◌≢◌}
use Rattle.laws_line.specs.disk_records.specs.Addresses.{pages_of, table_words}
use Rattle.laws_line.specs.disk_records.specs.Packs.{Pack, after}
use Rattle.laws_line.specs.pack_model.specs.sessions.Descriptor.{descriptor_text}
use Rattle.laws_line.specs.pack_model.specs.states.InUse.{how_many}
use Rattle.laws_line.specs.pack_model.specs.reading.Model.{descriptor_words, read_as}
use Rattle.laws_line.specs.pack_model.specs.reading.Sights.{sights}
use Rattle.laws_line.specs.pack_model.specs.states.Sound.{mark_clean, mark_of}
use Rattle.laws_line.specs.pack_model.specs.hints.Tables.{TableTrue, WordsTrue, described_free, described_table, table_in, words_of_bits}
use Rattle.laws_line.specs.pack_model.specs.states.Whole.{Tidy, Whole}
use Rattle.laws_line.specs.laws_operation.specs.DescriptorLaws.{MayClose}
use Rattle.laws_hint.specs.ClosingLaws.{closing_writes}
use Rattle.laws_hint.specs.MapMeanings.{HasEachSector}

-- The words of DiskDescriptor in q, which closing leaves of p, are those of this map, with the last serial and the clean mark; so are
-- the words of its map; and the number of free sectors that it states is that of the bits that aren't busy.
pub record Describes (p q : Pack) (busy : List Bool) : Type 0 where
  pub text : descriptor_words (sights q) ≡ descriptor_text p.shape (read_as p).last mark_clean busy
  pub words : table_in q ≡ words_of_bits (table_words q.shape) busy
  pub free : described_free q ≡ how_many not busy

-- closing a whole and tidy pack whose mark isn't clean, with any map, leaves a DiskDescriptor with this map's words
abbrev pub ClosingDescribesItsMap : Type 0
ClosingDescribesItsMap = (p : Pack) (busy : List Bool) (pages : List ℕ) → Whole p → Tidy p → MayClose p pages → mark_of (sights p) ≢ mark_clean → Describes p (after p (closing_writes p busy pages)) busy

-- closing a whole and tidy pack whose mark isn't clean, with a map that has a bit for each sector, leaves a DiskDescriptor that says this
-- map
abbrev pub ClosedMapIsReadBack : Type 0
ClosedMapIsReadBack = (p : Pack) (busy : List Bool) (pages : List ℕ) → Whole p → Tidy p → MayClose p pages → mark_of (sights p) ≢ mark_clean → length busy ≡ pages_of p.shape
    → described_table (after p (closing_writes p busy pages)) ≡ busy

-- after closing a whole and tidy pack whose mark isn't clean and that has a sector for each address, with a map that has a bit for each
-- sector, the words of DiskDescriptor's map are true if and only if that map was the true one before
abbrev pub ClosedMapIsTrueWhereItWas : Type 0
ClosedMapIsTrueWhereItWas = (p : Pack) (busy : List Bool) (pages : List ℕ) → Whole p → Tidy p → MayClose p pages → mark_of (sights p) ≢ mark_clean → HasEachSector p → length busy ≡ pages_of p.shape
    → WordsTrue (after p (closing_writes p busy pages)) ↔ TableTrue p busy
