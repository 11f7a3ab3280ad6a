-- Which bits of a map change. On a whole and tidy pack an operation changes none of the true map but those of the sectors that it claims
-- and releases; on any pack a claim, a release and a value change none of the map of the free sectors but that of their own sector.
use Rattle.std.specs.List.{list_any}
use Rattle.std.specs.Prelude.{Bool, List, Some, [], cond, false, length, set, true, ℕ, ◌<◌, ◌==◌, ◌∷◌, ◌≡◌, ◌≤◌}
use Rattle.laws_line.specs.alto_words.specs.Fid.{disk_descriptor}
use Rattle.laws_line.specs.alto_words.specs.declared.fid.Fid.{Fid}
use Rattle.laws_line.specs.disk_records.specs.Commands.{claim_writes, release_writes, value_writes}
use Rattle.laws_line.specs.disk_records.specs.Labels.{page_of}
use Rattle.laws_line.specs.disk_records.specs.Packs.{Pack, after, is_usable, sector_at}
use Rattle.laws_line.specs.disk_records.specs.declared.records.Event.{Event}
use Rattle.laws_line.specs.disk_records.specs.declared.records.Page.{Page}
use Rattle.laws_line.specs.hint_cache.specs.Bits.{busy_at}
use Rattle.laws_line.specs.pack_model.specs.operations.Commands.{Claim, all_claimed, sectors_of}
use Rattle.laws_line.specs.pack_model.specs.sessions.Descriptor.{close_writes, open_writes, serial_writes}
use Rattle.laws_line.specs.pack_model.specs.operations.Entering.{entry_value, values_first}
use Rattle.laws_line.specs.pack_model.specs.reading.Files.{place}
use Rattle.laws_line.specs.pack_model.specs.reading.Model.{read_as}
use Rattle.laws_line.specs.pack_model.specs.operations.Operations.{cut_writes, drop_writes, enter_writes, release_file_writes, grow_writes, make_writes}
use Rattle.laws_line.specs.pack_model.specs.operations.PageWords.{freed_value}
use Rattle.laws_line.specs.pack_model.specs.reading.Sights.{sights}
use Rattle.laws_line.specs.pack_model.specs.reading.Slots.{Item, all_words, item_words}
use Rattle.laws_line.specs.pack_model.specs.reading.Slots.Item.{entry}
use Rattle.laws_line.specs.pack_model.specs.states.Sound.{mark_of}
use Rattle.laws_line.specs.pack_model.specs.hints.Tables.{free_table, true_table}
use Rattle.laws_line.specs.pack_model.specs.states.Whole.{Tidy, Whole}
use Rattle.laws_line.specs.laws_record.specs.DirLaws.{Frees}
use Rattle.laws_line.specs.laws_operation.specs.ByteLaws.{MayCut, MayGrow, MayPut}
use Rattle.laws_line.specs.laws_operation.specs.DescriptorLaws.{MayClose}
use Rattle.laws_line.specs.laws_operation.specs.LeaderLaws.{MayWriteLeader, stamped, titled}
use Rattle.laws_line.specs.laws_operation.specs.LifeLaws.{MayDrop, MayMake}
use Rattle.laws_line.specs.laws_operation.specs.NameLaws.{MayEnterAt, MayLeave, MayWiden, entry_room}

-- ---- marks
-- a table with these sectors busy, or with these sectors free, and all others as they were
abbrev pub marked : Bool → List ℕ → List Bool → List Bool
marked busy [] table = table
marked busy (at ∷ ats) table = marked busy ats (set table at busy)

-- each bit of a marked table is what it is set to, where its sector is among these, and else what it was
abbrev pub MarkingSetsListedBitsAlone : Type 0
MarkingSetsListedBitsAlone = (busy : Bool) (ats : List ℕ) (table : List Bool) (at : ℕ) → at < length table → busy_at (marked busy ats table) at ≡ cond (list_any (λ i. at == i) ats) busy (busy_at table at)

-- the true map after these record writes is the one before them, with the claimed sectors busy and the released ones free
abbrev pub MarksMap : Pack → List Event → List ℕ → List ℕ → Type 0
MarksMap p events claimed released = true_table (after p events) ≡ marked false released (marked true claimed (true_table p))

-- the true map after these record writes is the one before them
abbrev pub LeavesMap : Pack → List Event → Type 0
LeavesMap p events = true_table (after p events) ≡ true_table p

-- ---- one sector of any pack
-- A claim by a label that names a page makes its bit busy in the map of the free sectors alone, a release of a usable one makes it
-- free, and a value changes none.
pub record SectorMarks (p : Pack) (at : ℕ) : Type 0 where
  pub claims : (page : Page) (label value : List ℕ) → page_of label ≡ Some page → free_table (after p (claim_writes at label value)) ≡ marked true (at ∷ []) (free_table p)
  pub releases : is_usable p.shape at (sector_at p at) ≡ true → free_table (after p (release_writes at)) ≡ marked false (at ∷ []) (free_table p)
  pub values : (value : List ℕ) → free_table (after p (value_writes at value)) ≡ free_table p

abbrev pub ClaimsAndReleasesMarkFreeTable : Type 0
ClaimsAndReleasesMarkFreeTable = (p : Pack) (at : ℕ) → SectorMarks p at

-- ---- operations on whole and tidy packs
-- The operations that claim sectors: a make, a growth and a widening.
pub record ClaimsMark (p : Pack) : Type 0 where
  pub makes : (f : Fid) (name : List ℕ) (moment : ℕ) (page leader : Claim) → MayMake p f name moment page leader → MarksMap p (make_writes page leader) (page.at ∷ leader.at ∷ []) []
  pub grows : (f : Fid) (new : List ℕ) (claims : List Claim) (at : ℕ) (label value : List ℕ) → MayGrow p f new claims at label value → MarksMap p (grow_writes claims at label value) (sectors_of (all_claimed claims)) []
  pub widens : (d : Fid) (added : List ℕ) (claims : List Claim) (at : ℕ) (label value : List ℕ) → MayWiden p d added claims at label value → MarksMap p (grow_writes claims at label value) (sectors_of (all_claimed claims)) []

abbrev pub ClaimsMarkTheMap : Type 0
ClaimsMarkTheMap = (p : Pack) → Whole p → Tidy p → ClaimsMark p

-- The operations that release sectors: a cut, and a drop, without its entry's slot and with it.
pub record ReleasesMark (p : Pack) : Type 0 where
  pub cuts : (f : Fid) (n at : ℕ) (label later : List ℕ) → MayCut p f n at label later → MarksMap p (cut_writes at label (sector_at p at).value later) [] later
  pub goes : (f : Fid) (at : ℕ) (pages : List ℕ) → MayDrop p f at pages → MarksMap p (release_file_writes at pages) [] (at ∷ pages)
  pub drops : (f : Fid) (at : ℕ) (pages : List ℕ) (d : Fid) (slot_at : ℕ) (a b : List Item) (own : List ℕ) → MayDrop p f at pages → Frees p d slot_at a (entry f own ∷ []) b
      → MarksMap p (drop_writes at pages slot_at (freed_value (all_words a) (item_words (entry f own)) (sector_at p slot_at).value)) [] (at ∷ pages)

abbrev pub ReleasesMarkTheMap : Type 0
ReleasesMarkTheMap = (p : Pack) → Whole p → Tidy p → ReleasesMark p

-- The operations that write values alone.
pub record ValuesLeave (p : Pack) : Type 0 where
  pub puts : (f : Fid) (offset : ℕ) (new : List ℕ) (at : ℕ) (value : List ℕ) → MayPut p f offset new at value → LeavesMap p (value_writes at value)
  pub titles : (f : Fid) (name : List ℕ) (at : ℕ) (value : List ℕ) → MayWriteLeader p f (titled name) at value → LeavesMap p (value_writes at value)
  pub stamps : (f : Fid) (moment : ℕ) (at : ℕ) (value : List ℕ) → MayWriteLeader p f (stamped moment) at value → LeavesMap p (value_writes at value)
  pub leaves : (d : Fid) (name : List ℕ) (at : ℕ) (a b : List Item) (f : Fid) (own : List ℕ) → MayLeave p d name at a b f own
      → LeavesMap p (value_writes at (freed_value (all_words a) (item_words (entry f own)) (sector_at p at).value))
  pub enters : (d : Fid) (name : List ℕ) (f : Fid) (a old b : List Item) (left : ℕ) (words : List ℕ) (at next_at : ℕ) → MayEnterAt p d name f a old b left words at next_at
      → LeavesMap p (enter_writes (values_first p (entry_room a old at next_at) words) at (entry_value p (entry_room a old at next_at) words))

abbrev pub ValuesLeaveTheMap : Type 0
ValuesLeaveTheMap = (p : Pack) → Whole p → Tidy p → ValuesLeave p

-- ---- DiskDescriptor's own words
-- The opening of the mark, a new serial, and closing with any map.
pub record DescriptorLeaves (p : Pack) : Type 0 where
  pub opens : (at : ℕ) → place (sights p) disk_descriptor 1 ≡ Some at → LeavesMap p (open_writes (mark_of (sights p)) at (sector_at p at).value)
  pub serials : (at last : ℕ) → place (sights p) disk_descriptor 1 ≡ Some at → (read_as p).last ≤ last → LeavesMap p (serial_writes at last (sector_at p at).value)
  pub closes : (busy : List Bool) (pages : List ℕ) → MayClose p pages → LeavesMap p (close_writes (mark_of (sights p)) p.shape (read_as p).last busy pages)

abbrev pub DescriptorWritesLeaveTheMap : Type 0
DescriptorWritesLeaveTheMap = (p : Pack) → Whole p → Tidy p → DescriptorLeaves p
