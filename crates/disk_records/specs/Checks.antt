-- One sector command: read, check or write for each of the three records.
use Rattle.std.specs.Prelude.{ℕ, zero, suc, ◌+◌, ◌==◌, ◌||◌, ◌&&◌, Bool, true, false, cond, List, [], ◌∷◌, ◌++◌, Option, Some, None}
use Rattle.std.specs.Option.{option_or, option_map}
use Rattle.disk_records.specs.declared.records.Sector.{Sector}
use Rattle.disk_records.specs.declared.records.Act.{Act}
use Rattle.disk_records.specs.declared.records.Act.TheVariants.{Read, Check, Write}
use Rattle.disk_records.specs.declared.records.Plan.{Plan}
use Rattle.disk_records.specs.declared.records.Event.{Event}
use Rattle.disk_records.specs.declared.records.Event.TheVariants.{Wrote}

-- the first place from i on where the memory's word isn't 0 and differs from the disk's, which is 0 past its end
abbrev pub mismatch_from : ℕ → List ℕ → List ℕ → Option ℕ
mismatch_from i [] disk = None
mismatch_from i (m ∷ memory) [] = cond (m == 0) (mismatch_from (i + 1) memory []) (Some i)
mismatch_from i (m ∷ memory) (d ∷ disk) = cond ((m == 0) || (m == d)) (mismatch_from (i + 1) memory disk) (Some i)

-- a record's first mismatch, as its part and word; only a checked record has one
abbrev pub mismatch_in : ℕ → Act → List ℕ → List ℕ → Option (ℕ × ℕ)
mismatch_in part Read memory disk = None
mismatch_in part Write memory disk = None
mismatch_in part Check memory disk = option_map (λ word. (part, word)) (mismatch_from 0 memory disk)

-- the command's first mismatch
abbrev pub mismatch : Plan → Sector → Sector → Option (ℕ × ℕ)
mismatch plan memory disk =
    option_or (mismatch_in 0 plan.header memory.header disk.header)
    (option_or (mismatch_in 1 plan.label memory.label disk.label) (mismatch_in 2 plan.value memory.value disk.value))

-- a record of the memory afterwards: a checked 0 is replaced by the disk's word, and all other words are equal
abbrev pub record_after : Act → List ℕ → List ℕ → List ℕ
record_after Read memory disk = disk
record_after Check memory disk = disk
record_after Write memory disk = memory

abbrev pub memory_after : Plan → Sector → Sector → Sector
memory_after plan memory disk = record {
  header = record_after plan.header memory.header disk.header;
  label = record_after plan.label memory.label disk.label;
  value = record_after plan.value memory.value disk.value;
}

-- the record writes of the command, in order
abbrev pub write_of : ℕ → ℕ → Act → List ℕ → List Event
write_of at part Write words = Wrote at part words ∷ []
write_of at part Read words = []
write_of at part Check words = []

abbrev pub writes_of : ℕ → Plan → Sector → List Event
writes_of at plan memory =
    write_of at 0 plan.header memory.header ++ (write_of at 1 plan.label memory.label ++ write_of at 2 plan.value memory.value)

-- whether a record is checked; no other can differ
abbrev pub is_check : Act → Bool
is_check Check = true
is_check Read = false
is_check Write = false

abbrev pub is_checked : Plan → ℕ → Bool
is_checked plan zero = is_check plan.header
is_checked plan (suc zero) = is_check plan.label
is_checked plan (suc (suc n)) = is_check plan.value

-- once a record is written, all later ones are
abbrev pub is_write : Act → Bool
is_write Write = true
is_write Read = false
is_write Check = false

abbrev pub may_follow : Act → Act → Bool
may_follow Write next = is_write next
may_follow Read next = true
may_follow Check next = true

abbrev pub is_legal : Plan → Bool
is_legal plan = may_follow plan.header plan.label && may_follow plan.label plan.value
