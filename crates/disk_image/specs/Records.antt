-- What one sector command reads of a file, and what it counts.
use Rattle.std.specs.Prelude.{ℕ, ◌+◌, List, [], ◌++◌}
use Rattle.disk_records.specs.declared.records.Act.{Act}
use Rattle.disk_records.specs.declared.records.Act.TheVariants.{Read, Check, Write}
use Rattle.disk_records.specs.declared.records.Plan.{Plan}
use Rattle.disk_records.specs.declared.records.Sector.{Sector}
use Rattle.disk_records.specs.Tapes.{capped}
use Rattle.disk_records.specs.Bytes.{bytes_of}

-- the bytes of a record that a command reads
abbrev pub read_bytes : Act → List ℕ → List ℕ
read_bytes Read words = bytes_of words
read_bytes Check words = bytes_of words
read_bytes Write words = []

-- the same of a sector: since a Write is followed by Writes alone, they are its first bytes
abbrev pub front_bytes : Plan → Sector → List ℕ
front_bytes plan sector = read_bytes plan.header sector.header ++ (read_bytes plan.label sector.label ++ read_bytes plan.value sector.value)

-- the count of record writes after an act; it stands at 2^64 - 1 once there
abbrev pub writes_after : Act → ℕ → ℕ
writes_after Read writes = writes
writes_after Check writes = writes
writes_after Write writes = capped (writes + 1)

abbrev pub writes_after_all : Plan → ℕ → ℕ
writes_after_all plan writes = writes_after plan.value (writes_after plan.label (writes_after plan.header writes))

-- how many bytes of a record an act reads, and a command of a sector
abbrev pub read_length : Act → ℕ → ℕ
read_length Read bytes = bytes
read_length Check bytes = bytes
read_length Write bytes = 0

abbrev pub front_length : Plan → ℕ
front_length plan = read_length plan.header 4 + (read_length plan.label 16 + read_length plan.value 512)
