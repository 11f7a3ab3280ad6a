-- What a session keeps of DiskDescriptor fits the disk after each record write of it.
use Rattle.std.specs.Prelude.{All, Bool, List, Some, length, ℕ, ◌≡◌, ◌≤◌}
use Rattle.laws_room.specs.alto_words.specs.Fid.{disk_descriptor}
use Rattle.disk_records.specs.Packs.{Pack, after, sector_at}
use Rattle.disk_records.specs.declared.shape.Shape.{Shape}
use Rattle.pack_model.specs.reading.Files.{place}
use Rattle.pack_model.specs.reading.Sights.{sights}
use Rattle.pack_model.specs.sessions.Descriptor.{DescriptorFits, close_writes, open_writes}
use Rattle.pack_model.specs.states.Sound.{mark_clean, mark_open}
use Rattle.pack_model.specs.states.Whole.{Tidy, Whole}
use Rattle.laws_line.specs.CrashLaws.{with_serial}
use Rattle.laws_room.specs.laws_operation.specs.DescriptorLaws.{MayClose}

-- Of a whole and tidy pack that these fit: what fits after the opening of the mark, a new serial and closing.
pub record FitsOn (p : Pack) (shape : Shape) (last mark : ℕ) (pages : List ℕ) : Type 0 where
  pub opened : (at : ℕ) → place (sights p) disk_descriptor 1 ≡ Some at → DescriptorFits (after p (open_writes mark at (sector_at p at).value)) shape last mark_open pages
  pub serial : (at new : ℕ) → place (sights p) disk_descriptor 1 ≡ Some at → last ≤ new → DescriptorFits (with_serial p at new) shape new mark pages
  pub closed : (busy : List Bool) → MayClose p pages → DescriptorFits (after p (close_writes mark shape last busy pages)) shape last mark_clean pages

abbrev pub DescriptorFitsOn : Type 0
DescriptorFitsOn = (p : Pack) (shape : Shape) (last mark : ℕ) (pages : List ℕ) → Whole p → Tidy p → DescriptorFits p shape last mark pages → FitsOn p shape last mark pages

-- the sectors that are kept are those by which the pack may be closed, where they have values of 256 words
abbrev pub FittingDescriptorMayClose : Type 0
FittingDescriptorMayClose = (p : Pack) (shape : Shape) (last mark : ℕ) (pages : List ℕ) → DescriptorFits p shape last mark pages → All (λ at. length (sector_at p at).value ≡ 256) pages → MayClose p pages
