-- The record writes of an operation leave SysDir's leader and DiskDescriptor alone.
use Rattle.std.specs.Prelude.{All, List, Some, false, ℕ, ◌≡◌, ◌≢◌, ◌⊎◌}
use Rattle.laws_room.specs.alto_words.specs.Fid.{disk_descriptor, is_fid}
use Rattle.laws_room.specs.alto_words.specs.declared.fid.Fid.{Fid}
use Rattle.disk_records.specs.Commands.{value_writes}
use Rattle.disk_records.specs.declared.records.Event.{Event}
use Rattle.disk_records.specs.declared.records.Event.TheVariants.{Shown, Wrote}
use Rattle.disk_records.specs.declared.records.Page.{Page}
use Rattle.disk_records.specs.Labels.{page_of}
use Rattle.disk_records.specs.Packs.{Pack, carried, sector_at}
use Rattle.pack_model.specs.operations.Commands.{Claim}
use Rattle.pack_model.specs.operations.Entering.{entry_value, values_first}
use Rattle.pack_model.specs.reading.Leaders.{Leader}
use Rattle.pack_model.specs.operations.Operations.{cut_writes, drop_writes, enter_writes, release_file_writes, grow_writes, make_writes}
use Rattle.pack_model.specs.reading.Slots.{Item}
use Rattle.pack_model.specs.states.Whole.{Whole}
use Rattle.laws_room.specs.laws_record.specs.DirLaws.{Frees}
use Rattle.laws_room.specs.laws_operation.specs.ByteLaws.{MayCut, MayGrow, MayPut}
use Rattle.laws_room.specs.laws_operation.specs.LeaderLaws.{MayWriteLeader}
use Rattle.laws_room.specs.laws_operation.specs.LifeLaws.{MayDrop, MayMake}
use Rattle.laws_room.specs.laws_operation.specs.NameLaws.{MayEnterAt, MayWiden, entry_room}

-- The sector is another one than the first usable one, and no page of DiskDescriptor's; the record is a value, or a label of another
-- file's page or of none.
pub record RecordLeavesSystem (p : Pack) (at part : ℕ) (words : List ℕ) : Type 0 where
  pub not_root : at ≢ 1
  pub not_descriptor : (page : Page) → carried p at ≡ Some page → is_fid page.fid disk_descriptor ≡ false
  pub record_is : (part ≡ 2) ⊎ ((part ≡ 1) × ((page : Page) → page_of words ≡ Some page → is_fid page.fid disk_descriptor ≡ false))

abbrev pub LeavesSystemAt : Pack → Event → Type 0
LeavesSystemAt p (Wrote at part words) = RecordLeavesSystem p at part words
LeavesSystemAt p (Shown byte) = Unit {0}

-- each of these record writes does so, by the sectors of the pack before the first of them
abbrev pub LeavesSystem : Pack → List Event → Type 0
LeavesSystem p events = All (LeavesSystemAt p) events

-- ---- each operation does so
-- bytes put in the place of others
abbrev pub PutLeavesTheSystem : Type 0
PutLeavesTheSystem = (p : Pack) (f : Fid) (offset : ℕ) (new : List ℕ) (at : ℕ) (value : List ℕ) → Whole p → MayPut p f offset new at value → LeavesSystem p (value_writes at value)

-- bytes appended
abbrev pub GrowLeavesTheSystem : Type 0
GrowLeavesTheSystem = (p : Pack) (f : Fid) (new : List ℕ) (claims : List Claim) (at : ℕ) (label value : List ℕ) → Whole p → MayGrow p f new claims at label value → LeavesSystem p (grow_writes claims at label value)

-- the first bytes kept
abbrev pub CutLeavesTheSystem : Type 0
CutLeavesTheSystem = (p : Pack) (f : Fid) (n at : ℕ) (label later : List ℕ) → Whole p → MayCut p f n at label later → LeavesSystem p (cut_writes at label (sector_at p at).value later)

-- another name or date in a leader
abbrev pub LeaderLeavesTheSystem : Type 0
LeaderLeavesTheSystem = (p : Pack) (f : Fid) (change : Leader → Leader) (at : ℕ) (value : List ℕ) → Whole p → MayWriteLeader p f change at value → LeavesSystem p (value_writes at value)

-- a new file
abbrev pub MakeLeavesTheSystem : Type 0
MakeLeavesTheSystem = (p : Pack) (f : Fid) (name : List ℕ) (moment : ℕ) (page leader : Claim) → Whole p → MayMake p f name moment page leader → LeavesSystem p (make_writes page leader)

-- a file that goes, except the slot of its entry
abbrev pub ReleaseLeavesTheSystem : Type 0
ReleaseLeavesTheSystem = (p : Pack) (f : Fid) (at : ℕ) (pages : List ℕ) → Whole p → MayDrop p f at pages → LeavesSystem p (release_file_writes at pages)

-- an entry's slot that becomes a free one, where an entry leaves or its file is gone
abbrev pub SlotLeavesTheSystem : Type 0
SlotLeavesTheSystem = (p : Pack) (d : Fid) (at : ℕ) (a old b : List Item) (value : List ℕ) → Whole p → Frees p d at a old b → LeavesSystem p (value_writes at value)

-- both together
abbrev pub DropLeavesTheSystem : Type 0
DropLeavesTheSystem = (p : Pack) (f : Fid) (at : ℕ) (pages : List ℕ) (d : Fid) (slot_at : ℕ) (a old b : List Item) (value : List ℕ) → Whole p → MayDrop p f at pages → Frees p d slot_at a old b → LeavesSystem p (drop_writes at pages slot_at value)

-- a page more for a directory
abbrev pub WidenLeavesTheSystem : Type 0
WidenLeavesTheSystem = (p : Pack) (d : Fid) (added : List ℕ) (claims : List Claim) (at : ℕ) (label value : List ℕ) → Whole p → MayWiden p d added claims at label value → LeavesSystem p (grow_writes claims at label value)

-- an entry that comes
abbrev pub EnterLeavesTheSystem : Type 0
EnterLeavesTheSystem = (p : Pack) (d : Fid) (name : List ℕ) (f : Fid) (a old b : List Item) (left : ℕ) (words : List ℕ) (at next_at : ℕ) → Whole p → MayEnterAt p d name f a old b left words at next_at
    → LeavesSystem p (enter_writes (values_first p (entry_room a old at next_at) words) at (entry_value p (entry_room a old at next_at) words))
