-- What a machine in memory keeps true of its events and its blocks.
use Rattle.std.specs.Prelude.{ℕ, zero, suc, ◌==◌, ◌&&◌, Bool, true, nat_lt, length}
use Rattle.disk_records.specs.declared.shape.Shape.{Shape}
use Rattle.disk_records.specs.declared.records.Event.{Event}
use Rattle.disk_records.specs.declared.records.Event.TheVariants.{Wrote, Shown}
use Rattle.disk_records.specs.Addresses.{pages_of}

-- the words of a record: part 0 is the header, 1 the label, 2 the value
abbrev pub record_words : ℕ → ℕ
record_words zero = 2
record_words (suc zero) = 8
record_words (suc (suc n)) = 256

-- whether an event can be done again: a record write names a sector of the pack and one of its records, and is whole
abbrev pub is_formed_event : Shape → Event → Bool
is_formed_event shape (Wrote at part words) = nat_lt at (pages_of shape) && nat_lt part 3 && length words == record_words part
is_formed_event shape (Shown byte) = true
