-- True hints from the opening of a pack to its closing.
use Rattle.std.specs.Prelude.{Bool, List, ℕ}
use Rattle.laws_line.specs.disk_records.specs.Addresses.{pages_of}
use Rattle.laws_line.specs.disk_records.specs.Packs.{Pack, after}
use Rattle.laws_line.specs.disk_records.specs.declared.records.Event.{Event}
use Rattle.laws_line.specs.hint_cache.specs.Bits.{bits_in}
use Rattle.laws_line.specs.pack_model.specs.hints.Tables.{HintsTrue, TableTrue, table_in}
use Rattle.laws_line.specs.pack_model.specs.hints.Truth.{Truthful}
use Rattle.laws_line.specs.pack_model.specs.scavenger.Scavenging.{Unmarked}
use Rattle.laws_line.specs.pack_model.specs.states.Whole.{Tidy, Whole}
use Rattle.laws_hint.specs.ClosingLaws.{closing_writes}
use Rattle.laws_hint.specs.MapMeanings.{HasEachSector}
use Rattle.laws_line.specs.laws_operation.specs.DescriptorLaws.{MayClose}
use Rattle.laws_line.specs.laws_operation.specs.LinkLaws.{KeepsLinks}

-- if all hints are true, they are so with the table that is read from DiskDescriptor
abbrev pub TruthAtOpening : Type 0
TruthAtOpening = (p : Pack) → Whole p → HasEachSector p → HintsTrue p → Truthful p (bits_in (pages_of p.shape) (table_in p))

-- record writes that keep links, and leave an open mark, keep hints true with the table that is true after them
abbrev pub TruthGoesOn : Type 0
TruthGoesOn = (p : Pack) (events : List Event) (old new : List Bool) → Truthful p old → KeepsLinks p events → Whole (after p events) → Unmarked (after p events) → TableTrue (after p events) new → Truthful (after p events) new

-- closing with it leaves all hints true, whether the mark was open or is clean still
abbrev pub TruthAtClosing : Type 0
TruthAtClosing = (p : Pack) (busy : List Bool) (pages : List ℕ) → Whole p → Tidy p → MayClose p pages → Truthful p busy → HintsTrue (after p (closing_writes p busy pages))
