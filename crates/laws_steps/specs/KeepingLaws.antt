-- Files that were found stay found over the operations of a line.
use Rattle.std.specs.Prelude.{List, Some, false, ℕ, ◌≡◌, ◌≤◌}
use Rattle.laws_call.specs.alto_words.specs.Fid.{disk_descriptor, is_fid}
use Rattle.laws_call.specs.alto_words.specs.declared.fid.Fid.{Fid}
use Rattle.laws_call.specs.alto_words.specs.declared.wanted.Wanted.TheVariants.{Exact}
use Rattle.laws_call.specs.disk_records.specs.Commands.{value_writes}
use Rattle.laws_call.specs.disk_records.specs.Packs.{Pack, after, sector_at}
use Rattle.laws_call.specs.disk_records.specs.declared.records.Event.{Event}
use Rattle.laws_call.specs.disk_records.specs.declared.records.Place.TheVariants.{Entry, Held, Next, Root}
use Rattle.laws_call.specs.disk_records.specs.declared.records.Place.{Place}
use Rattle.laws_call.specs.Writing.{Written}
use Rattle.laws_call.specs.pack_model.specs.hints.Links.{dir_slots}
use Rattle.laws_call.specs.pack_model.specs.hints.Sources.{IsFrom}
use Rattle.laws_call.specs.pack_model.specs.operations.Step.Operation.{cut, drop_file, enter, grow, leave, make, put, stamp, title, widen}
use Rattle.laws_call.specs.pack_model.specs.operations.Step.{Operation}
use Rattle.laws_call.specs.pack_model.specs.reading.Files.{place}
use Rattle.laws_call.specs.pack_model.specs.reading.Lookup.{EntryAt, entry_at}
use Rattle.laws_call.specs.pack_model.specs.reading.Model.{read_as}
use Rattle.laws_call.specs.pack_model.specs.reading.Sights.{sights}
use Rattle.laws_call.specs.pack_model.specs.sessions.Descriptor.{open_writes, serial_writes}
use Rattle.laws_call.specs.pack_model.specs.states.Sound.{mark_of}
use Rattle.laws_call.specs.pack_model.specs.states.Whole.{Tidy, Whole}

-- asked of a file that was found by an entry, and of no other
abbrev pub IfByEntry : Place → Type 0 → Type 0
IfByEntry Root P = Unit {0}
IfByEntry (Entry d w) P = P
IfByEntry (Next i) P = Unit {0}
IfByEntry (Held i) P = Unit {0}

-- the operation isn't the file's drop, and the entry that leaves isn't the one by which it was found
abbrev pub StaysEntered : Pack → Operation → Fid → Place → Type 0
StaysEntered p (make f name moment) g from = Unit {0}
StaysEntered p (put f offset new) g from = Unit {0}
StaysEntered p (grow f new) g from = Unit {0}
StaysEntered p (cut f n) g from = Unit {0}
StaysEntered p (title f name) g from = Unit {0}
StaysEntered p (stamp f moment) g from = Unit {0}
StaysEntered p (drop_file f) g from = is_fid g f ≡ false
StaysEntered p (leave d name) g from = IfByEntry from ((e : EntryAt) → entry_at (Exact name) (dir_slots p d) ≡ Some e → is_fid g e.fid ≡ false)
StaysEntered p (enter d name f) g from = Unit {0}
StaysEntered p (widen d) g from = Unit {0}

-- then a file that was found is found afterwards, by the same address from the same place
abbrev pub WrittenKeepsFound : Type 0
WrittenKeepsFound = (p : Pack) (o : Operation) (claimed released : List ℕ) (writes : List Event) (g : Fid) (at : ℕ) (from : Place)
    → Whole p → Tidy p → Written p o claimed released writes → StaysEntered p o g from → IsFrom p g at from → IsFrom (after p writes) g at from

-- ---- DiskDescriptor
-- so it is over a value of one of its pages after which the pack is whole
abbrev pub DescriptorKeepsFound : Type 0
DescriptorKeepsFound = (p : Pack) (n i : ℕ) (value : List ℕ) (g : Fid) (at : ℕ) (from : Place)
    → Whole p → place (sights p) disk_descriptor n ≡ Some i → Whole (after p (value_writes i value)) → IsFrom p g at from → IsFrom (after p (value_writes i value)) g at from

-- that of the open mark, or none where it is open
abbrev pub OpeningKeepsFound : Type 0
OpeningKeepsFound = (p : Pack) (i : ℕ) (g : Fid) (at : ℕ) (from : Place)
    → Whole p → Tidy p → place (sights p) disk_descriptor 1 ≡ Some i → IsFrom p g at from → IsFrom (after p (open_writes (mark_of (sights p)) i (sector_at p i).value)) g at from

-- that of a new serial
abbrev pub SerialKeepsFound : Type 0
SerialKeepsFound = (p : Pack) (i last : ℕ) (g : Fid) (at : ℕ) (from : Place)
    → Whole p → Tidy p → place (sights p) disk_descriptor 1 ≡ Some i → (read_as p).last ≤ last → IsFrom p g at from → IsFrom (after p (serial_writes i last (sector_at p i).value)) g at from
