-- Free and available sectors while the pages of a pack are mended.
use Rattle.std.specs.Prelude.{◌≡◌, ◌≢◌, ◌⊎◌, ℕ, suc, ◌+◌, ◌*◌, ◌/◌, ◌<◌, ◌≤◌, true, false, List, length, Some, None}
use Rattle.laws_room.specs.alto_words.specs.declared.fid.Fid.{Fid}
use Rattle.laws_room.specs.alto_words.specs.Fid.{is_directory, is_fid, sys_dir, disk_descriptor}
use Rattle.laws_room.specs.disk_records.specs.declared.records.Page.{Page}
use Rattle.laws_room.specs.disk_records.specs.Commands.{relabel_writes, release_writes}
use Rattle.laws_room.specs.disk_records.specs.Labels.{page_of, tag}
use Rattle.laws_room.specs.disk_records.specs.Packs.{Pack, after, carried, is_free_at, is_usable, sector_at}
use Rattle.laws_room.specs.pack_model.specs.hints.Links.{dir_words}
use Rattle.laws_room.specs.pack_model.specs.reading.Files.{lives, file_bytes, place}
use Rattle.laws_room.specs.pack_model.specs.reading.Sights.{sights}
use Rattle.laws_room.specs.pack_model.specs.reading.Slots.{all_words, slots}
use Rattle.laws_room.specs.pack_model.specs.scavenger.Needed.{needed}
use Rattle.laws_room.specs.pack_model.specs.scavenger.Reports.{freed_sectors}
use Rattle.laws_room.specs.pack_model.specs.scavenger.Scavenging.{Scavengeable}
use Rattle.laws_room.specs.pack_model.specs.sessions.Descriptor.{data_pages}
use Rattle.laws_room.specs.pack_model.specs.states.InUse.{available, counts, free_sector_count}
use Rattle.laws_room.specs.pack_model.specs.states.Sentences.{EachOnce}
use Rattle.laws_mend.specs.Parts.{FreesMore, Rooted, RootedBut, Used}

-- on any pack the available sectors are the free ones and those that are freed
abbrev pub FreedAndFree : Type 0
FreedAndFree = (p : Pack) → freed_sectors p.shape (sights p) + free_sector_count (sights p) ≡ available p.shape (sights p)

-- where each good sector is free or in use, they are the free ones
abbrev pub UsedAvailableIsFree : Type 0
UsedAvailableIsFree = (p : Pack) → Used p → available p.shape (sights p) ≡ free_sector_count (sights p)

-- sectors that become free one after another, as many being available as before, become free together
abbrev pub FreesJoin : Type 0
FreesJoin = (p q r : Pack) (m n : ℕ) → FreesMore p q m → FreesMore q r n → FreesMore p r (m + n)

-- Of a pack that can be scavenged, each good sector of which is free or in use: if a sector is needed, one is free.
abbrev pub NeededIsFree : Type 0
NeededIsFree = (p : Pack) → Used p → Scavengeable p → 0 < needed p.shape (sights p) → (at : ℕ) × (is_free_at p at ≡ true)

-- If two sectors are needed, one that isn't sector 1 is free.
abbrev pub TwoNeededAreFree : Type 0
TwoNeededAreFree = (p : Pack) → Used p → Scavengeable p → 2 ≤ needed p.shape (sights p) → (at : ℕ) × (2 ≤ at) × (is_free_at p at ≡ true)

-- a living file of such a pack that can be scavenged, except DiskDescriptor, has a free sector other than sector 1 for its last page, if
-- that is missing
abbrev pub LackingPageIsFree : Type 0
LackingPageIsFree = (p : Pack) (f : Fid) → Scavengeable p → Rooted p → lives (sights p) f ≡ true → is_fid f disk_descriptor ≡ false → place (sights p) f (suc (length (file_bytes (sights p) f) / 512)) ≡ None
    → (at : ℕ) × (at ≢ 1) × (is_free_at p at ≡ true)

-- so it has for a page of DiskDescriptor that is missing, the leader page or a data page of its format, also while DiskDescriptor is made
abbrev pub LackingDescriptorPageIsFree : Type 0
LackingDescriptorPageIsFree = (p : Pack) (n : ℕ) → Scavengeable p → RootedBut p → n ≤ data_pages p.shape → place (sights p) disk_descriptor n ≡ None → (at : ℕ) × (at ≢ 1) × (is_free_at p at ≡ true)

-- sector 1 of such a pack is the place of SysDir's leader page, or it is free
abbrev pub FirstSectorIsFree : Type 0
FirstSectorIsFree = (p : Pack) → Scavengeable p → Used p → (place (sights p) sys_dir 0 ≡ Some 1) ⊎ (is_free_at p 1 ≡ true)

-- two sectors are needed where SysDir has no leader page
abbrev pub RootNeedsTwo : Type 0
RootNeedsTwo = (p : Pack) → lives (sights p) sys_dir ≡ false → 2 ≤ needed p.shape (sights p)

-- ---- what the record writes of guarded commands free
-- a release of a page that a lower sector carries
abbrev pub CopyReleaseFrees : Type 0
CopyReleaseFrees = (p : Pack) (at lower : ℕ) (page : Page) → carried p at ≡ Some page → carried p lower ≡ Some page → lower < at → FreesMore p (after p (release_writes at)) 1

-- of a label that is neither free nor in range
abbrev pub StrayReleaseFrees : Type 0
StrayReleaseFrees = (p : Pack) (at : ℕ) → is_usable p.shape at (sector_at p at) ≡ true → carried p at ≡ None → is_free_at p at ≡ false → FreesMore p (after p (release_writes at)) 1

-- of a page that isn't within its file's end, where no page is carried twice
abbrev pub UnusedReleaseFrees : Type 0
UnusedReleaseFrees = (p : Pack) (at : ℕ) (page : Page) → EachOnce (sights p) → carried p at ≡ Some page → counts p.shape (sights p) page.fid page.number ≡ false → FreesMore p (after p (release_writes at)) 1

-- a label by which a directory ends with its slots frees none
abbrev pub DirectoryCutFrees : Type 0
DirectoryCutFrees = (p : Pack) (d : Fid) (at n : ℕ) (label : List ℕ) → is_directory d ≡ true → place (sights p) d (suc n) ≡ Some at → page_of label ≡ Some (record { fid = d; number = suc n }) → (tag label).bytes < 512
    → 512 * n + (tag label).bytes ≡ all_words (slots (dir_words p d)) * 2 → FreesMore p (after p (relabel_writes at label (sector_at p at).value)) 0
