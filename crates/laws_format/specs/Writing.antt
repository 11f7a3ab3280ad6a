-- The record writes of whole sectors, one after another, as formatting makes them; and the sectors of its pack, by their place.
use Rattle.std.specs.Prelude.{◌≡◌, ℕ, ◌+◌, ◌%◌, ◌<◌, ◌≤◌, List, ◌∷◌, [], ◌++◌, length, take, drop, replicate}
use Rattle.laws_hint.specs.alto_words.specs.Fid.{disk_descriptor, sys_dir}
use Rattle.laws_hint.specs.disk_records.specs.declared.records.Sector.{Sector}
use Rattle.laws_hint.specs.disk_records.specs.declared.shape.Shape.{Shape}
use Rattle.laws_hint.specs.disk_records.specs.Addresses.{descriptor_length, pages_of, real_of}
use Rattle.laws_hint.specs.disk_records.specs.Commands.{ones}
use Rattle.laws_hint.specs.disk_records.specs.Packs.{Pack, after, sector_at}
use Rattle.laws_hint.specs.pack_model.specs.reading.Namings.{descriptor_name, sys_dir_name}
use Rattle.laws_hint.specs.pack_model.specs.sessions.Descriptor.{data_pages}
use Rattle.laws_hint.specs.pack_model.specs.sessions.Format.{Written, format_leader, format_page, format_root, format_writes, formatted, sector_writes, sectors_used, sectors_writes}

-- ---- record writes
-- whole sectors that are written come in the place of others, on any pack that has as many
abbrev pub SectorsComeInPlace : Type 0
SectorsComeInPlace = (p : Pack) (at : ℕ) (sectors : List Sector) → at + length sectors ≤ length p.sectors
    → (after p (sectors_writes at sectors)).sectors ≡ take at p.sectors ++ sectors ++ drop (at + length sectors) p.sectors

-- so formatting leaves its pack, whatever stood there
abbrev pub FormattingLeavesItsPack : Type 0
FormattingLeavesItsPack = (p : Pack) (number moment : ℕ) → length p.sectors ≡ pages_of p.shape → after p (format_writes p.shape number moment) ≡ formatted p.shape number moment

-- the record writes of a prefix of its sectors and of the next one are those of the prefix with this one
abbrev pub FormattingGoesOn : Type 0
FormattingGoesOn = (shape : Shape) (number moment at : ℕ) → at < pages_of shape → let p : Pack = formatted shape number moment in
    sectors_writes 0 (take (at + 1) p.sectors) ≡ sectors_writes 0 (take at p.sectors) ++ sector_writes at (sector_at p at)

-- ---- sectors by their place
-- a sector with the pack's number and its real address as its header, and this label and this value
abbrev pub headed : Shape → ℕ → ℕ → Written → Sector
headed shape number at w = record { header = number ∷ real_of shape at ∷ []; label = w.0; value = w.1 }

-- Each sector of the pack that formatting writes.
pub record SectorsStand (shape : Shape) (number moment : ℕ) (p : Pack) : Type 0 where
  pub boot : sector_at p 0 ≡ headed shape number 0 (replicate 8 0, replicate 256 0)
  pub root_leader : sector_at p 1 ≡ headed shape number 1 (format_leader shape sys_dir sys_dir_name moment 1 1 510)
  pub root_page : sector_at p 2 ≡ headed shape number 2 (format_root shape)
  pub its_leader : sector_at p 3 ≡ headed shape number 3 (format_leader shape disk_descriptor descriptor_name moment 3 (data_pages shape) (descriptor_length shape % 512))
  pub its_pages : (n : ℕ) → n < data_pages shape → sector_at p (4 + n) ≡ headed shape number (4 + n) (format_page shape n)
  pub frees : (at : ℕ) → sectors_used shape ≤ at → at < pages_of shape → sector_at p at ≡ headed shape number at (ones 8, ones 256)

abbrev pub FormattedSectorsStand : Type 0
FormattedSectorsStand = (shape : Shape) (number moment : ℕ) → SectorsStand shape number moment (formatted shape number moment)
