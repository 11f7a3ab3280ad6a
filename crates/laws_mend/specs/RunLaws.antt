-- The record writes of guarded sector commands by which the pages of a pack are mended, each run from any pack of its kind.
use Rattle.std.specs.Prelude.{◌≡◌, ◌≢◌, ◌∷◌, [], ℕ, suc, ◌+◌, ◌*◌, ◌/◌, ◌<◌, true, false, drop, List, length, Some, None}
use Rattle.laws_room.specs.alto_words.specs.declared.fid.Fid.{Fid}
use Rattle.laws_room.specs.alto_words.specs.Fid.{is_directory, is_fid, is_system, sys_dir, disk_descriptor}
use Rattle.laws_room.specs.disk_records.specs.declared.records.Page.{Page}
use Rattle.laws_room.specs.disk_records.specs.Commands.{claim_writes, relabel_writes, release_writes, value_writes}
use Rattle.laws_room.specs.disk_records.specs.Labels.{page_of, tag}
use Rattle.laws_room.specs.disk_records.specs.Packs.{Pack, carried, is_free_at, is_usable, sector_at}
use Rattle.laws_room.specs.pack_model.specs.hints.Links.{dir_words}
use Rattle.laws_room.specs.pack_model.specs.reading.Files.{file_bytes, leader, place}
use Rattle.laws_room.specs.pack_model.specs.reading.Leaders.{leader_of}
use Rattle.laws_room.specs.pack_model.specs.reading.Sights.{sights}
use Rattle.laws_room.specs.pack_model.specs.reading.Slots.{all_words, slots}
use Rattle.laws_room.specs.pack_model.specs.reading.Slots.Item.{space}
use Rattle.laws_room.specs.pack_model.specs.states.InUse.{counts}
use Rattle.laws_room.specs.pack_model.specs.states.Sentences.{EachOnce}
use Rattle.laws_room.specs.laws_record.specs.QuietLaws.{IsUnread}
use Rattle.laws_room.specs.MarkLaws.{OtherMark}
use Rattle.laws_mend.specs.Tending.{AllTends}

-- ---- releases
-- of a page that a lower sector carries
abbrev pub CopyReleaseTends : Type 0
CopyReleaseTends = (p : Pack) (at lower : ℕ) (page : Page) → carried p at ≡ Some page → carried p lower ≡ Some page → lower < at → AllTends p (release_writes at)

-- of a label that is neither free nor in range
abbrev pub StrayReleaseTends : Type 0
StrayReleaseTends = (p : Pack) (at : ℕ) → is_usable p.shape at (sector_at p at) ≡ true → carried p at ≡ None → AllTends p (release_writes at)

-- of a page that isn't within its file's end, where no page is carried twice
abbrev pub UnusedReleaseTends : Type 0
UnusedReleaseTends = (p : Pack) (at : ℕ) (page : Page) → EachOnce (sights p) → carried p at ≡ Some page → counts p.shape (sights p) page.fid page.number ≡ false → AllTends p (release_writes at)

-- ---- labels
-- one by which a directory ends with its slots
abbrev pub DirectoryCutTends : Type 0
DirectoryCutTends = (p : Pack) (d : Fid) (at n : ℕ) (label : List ℕ) → is_directory d ≡ true → place (sights p) d (suc n) ≡ Some at → page_of label ≡ Some (record { fid = d; number = suc n }) → (tag label).bytes < 512
    → 512 * n + (tag label).bytes ≡ all_words (slots (dir_words p d)) * 2 → AllTends p (relabel_writes at label (sector_at p at).value)

-- one with other links
abbrev pub OtherLinksTend : Type 0
OtherLinksTend = (p : Pack) (at : ℕ) (page : Page) (label : List ℕ) → carried p at ≡ Some page → page_of label ≡ Some page → drop 3 label ≡ drop 3 (sector_at p at).label → AllTends p (relabel_writes at label (sector_at p at).value)

-- one with another count of a data page of DiskDescriptor
abbrev pub DescriptorCountTends : Type 0
DescriptorCountTends = (p : Pack) (at n : ℕ) (label : List ℕ) → carried p at ≡ Some (record { fid = disk_descriptor; number = suc n }) → page_of label ≡ Some (record { fid = disk_descriptor; number = suc n }) → AllTends p (relabel_writes at label (sector_at p at).value)

-- ---- claims
-- of a data page of a file that doesn't live, or one past a file's end
abbrev pub UnreadClaimTends : Type 0
UnreadClaimTends = (p : Pack) (at : ℕ) (page : Page) (label value : List ℕ) → is_free_at p at ≡ true → at ≢ 1 → page_of label ≡ Some page → is_fid page.fid disk_descriptor ≡ false → IsUnread (sights p) page.fid page.number → AllTends p (claim_writes at label value)

-- of a last page that is missing, with 0 bytes; its sector isn't 1
abbrev pub LastClaimTends : Type 0
LastClaimTends = (p : Pack) (at : ℕ) (page : Page) (label value : List ℕ) → is_free_at p at ≡ true → at ≢ 1 → page_of label ≡ Some page → is_fid page.fid disk_descriptor ≡ false → (tag label).bytes ≡ 0
    → page.number ≡ suc (length (file_bytes (sights p) page.fid) / 512) → place (sights p) page.fid page.number ≡ None → AllTends p (claim_writes at label value)

-- of a data page of DiskDescriptor that no sector carries, with another mark than the clean one; its sector isn't 1
abbrev pub DescriptorClaimTends : Type 0
DescriptorClaimTends = (p : Pack) (at n : ℕ) (label value : List ℕ) → is_free_at p at ≡ true → at ≢ 1 → page_of label ≡ Some (record { fid = disk_descriptor; number = suc n }) → place (sights p) disk_descriptor (suc n) ≡ None → OtherMark value → AllTends p (claim_writes at label value)

-- of DiskDescriptor's first leader page, where SysDir's is in sector 1
abbrev pub DescriptorLeaderTends : Type 0
DescriptorLeaderTends = (p : Pack) (at : ℕ) (label value : List ℕ) → is_free_at p at ≡ true → at ≢ 1 → carried p 1 ≡ Some (record { fid = sys_dir; number = 0 }) → page_of label ≡ Some (record { fid = disk_descriptor; number = 0 }) → AllTends p (claim_writes at label value)

-- of SysDir's first leader page in sector 1, where its slots are one free slot of 255 words
abbrev pub RootLeaderTends : Type 0
RootLeaderTends = (p : Pack) (label value : List ℕ) → is_free_at p 1 ≡ true → page_of label ≡ Some (record { fid = sys_dir; number = 0 }) → leader (sights p) sys_dir ≡ None → slots (dir_words p sys_dir) ≡ space 255 ∷ [] → AllTends p (claim_writes 1 label value)

-- ---- SysDir's leader page is moved to sector 1
-- an equal copy comes there
abbrev pub RootCopyTends : Type 0
RootCopyTends = (p : Pack) (old : ℕ) → is_free_at p 1 ≡ true → place (sights p) sys_dir 0 ≡ Some old → AllTends p (claim_writes 1 (sector_at p old).label (sector_at p old).value)

-- ---- a leader page's name is written
-- the one that stands for it where none can be read; of a system file any
abbrev pub LostNameTends : Type 0
LostNameTends = (p : Pack) (at : ℕ) (page : Page) (value : List ℕ) → carried p at ≡ Some page → page.number ≡ 0 → leader_of page.fid value ≡ leader_of page.fid (sector_at p at).value → AllTends p (value_writes at value)

abbrev pub SystemNameTends : Type 0
SystemNameTends = (p : Pack) (at : ℕ) (f : Fid) (value : List ℕ) → is_system f ≡ true → carried p 1 ≡ Some (record { fid = sys_dir; number = 0 }) → carried p at ≡ Some (record { fid = f; number = 0 }) → AllTends p (value_writes at value)
