-- Virtual and real addresses of sectors.
use Rattle.std.specs.Prelude.{ℕ, ◌+◌, ◌*◌, ◌/◌, ◌%◌, ◌==◌, ◌&&◌, nat_lt, Bool, List}
use Rattle.disk_records.specs.declared.shape.Shape.{Shape}
use Rattle.disk_records.specs.Words.{word}

abbrev pub disks_of : Shape → ℕ
disks_of shape = shape.disks

abbrev pub cylinders_of : Shape → ℕ
cylinders_of shape = shape.cylinders

-- the sectors of a pack: 24 to a cylinder of each disk
abbrev pub pages_of : Shape → ℕ
pages_of shape = shape.disks * shape.cylinders * 24

-- the real address of the sector at a virtual address: sector, cylinder, head, disk and restore,
-- in 4, 9, 1, 1 and 1 bits
unfoldable pub real_of : Shape → ℕ → ℕ
real_of shape at = at % 12 * 4096 + at / 24 % shape.cylinders * 8 + at / 12 % 2 * 4 + at / 24 / shape.cylinders * 2

-- the sector is one of the pack's, and word 1 of its header is its real address; word 0, the pack number, is never compared
abbrev pub is_right_header : Shape → ℕ → List ℕ → Bool
is_right_header shape at header = nat_lt at (pages_of shape) && word header 1 == real_of shape at

-- the words of the allocation map, and the bytes of DiskDescriptor
abbrev pub table_words : Shape → ℕ
table_words shape = (pages_of shape + 15) / 16

abbrev pub descriptor_length : Shape → ℕ
descriptor_length shape = 32 + 2 * table_words shape
