-- The mark is opened before all else.
use Rattle.std.specs.Prelude.{◌≡◌, ℕ}
use Rattle.disk_records.specs.Packs.{Pack}
use Rattle.pack_model.specs.reading.Sights.{sights}
use Rattle.pack_model.specs.scavenger.Reports.{adopted_files, freed_sectors}
use Rattle.pack_model.specs.scavenger.Scavenging.{Keeps, Unmarked}
use Rattle.scavenger.specs.Descriptors.{mark_sector}

-- the sector is that of the mark
abbrev pub IsMarkSector : Pack → ℕ → Type 0
IsMarkSector p at = at ≡ mark_sector p

-- The mark is open, what a scavenge keeps is kept, and as many sectors will be freed and as many files adopted.
pub record MarkOpened (p q : Pack) : Type 0 where
  pub keeps : Keeps p q
  pub unmarked : Unmarked q
  pub freed : freed_sectors q.shape (sights q) ≡ freed_sectors p.shape (sights p)
  pub adopted : adopted_files q ≡ adopted_files p
