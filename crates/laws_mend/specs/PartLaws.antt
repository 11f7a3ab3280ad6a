-- The parts of a mended pack: what the record writes of guarded commands leave of them, and how they are put together.
use Rattle.std.specs.Prelude.{◌≡◌, ◌≢◌, ℕ, suc, ◌+◌, ◌-◌, ◌*◌, ◌/◌, ◌<◌, ◌∷◌, [], min, Bool, true, false, List, drop, get_or, length, Some, None}
use Rattle.laws_room.specs.alto_words.specs.declared.fid.Fid.{Fid}
use Rattle.laws_room.specs.alto_words.specs.Fid.{is_directory, is_fid, sys_dir, disk_descriptor}
use Rattle.laws_room.specs.disk_records.specs.Addresses.{descriptor_length}
use Rattle.laws_room.specs.disk_records.specs.declared.records.Page.{Page}
use Rattle.laws_room.specs.disk_records.specs.Commands.{claim_writes, ones, relabel_writes, release_writes, value_writes}
use Rattle.laws_room.specs.disk_records.specs.Labels.{page_of, tag}
use Rattle.laws_room.specs.disk_records.specs.Packs.{Pack, after, carried, is_free_at, is_usable, sector_at}
use Rattle.laws_room.specs.disk_records.specs.Words.{word}
use Rattle.laws_room.specs.pack_model.specs.hints.Links.{HasLinks, LinksTrue, PageLinks, dir_words, next_link, previous_link}
use Rattle.laws_room.specs.pack_model.specs.reading.Files.{lives, file_bytes, place}
use Rattle.laws_room.specs.pack_model.specs.reading.Leaders.{Leader, is_readable, leader_words}
use Rattle.laws_room.specs.pack_model.specs.reading.Sights.{sights}
use Rattle.laws_room.specs.pack_model.specs.reading.Sights.Sight.{free, hidden, leads}
use Rattle.laws_room.specs.pack_model.specs.reading.Slots.{SlotsReachEnd, all_words, slots}
use Rattle.laws_room.specs.pack_model.specs.reading.Slots.Item.{space}
use Rattle.laws_room.specs.pack_model.specs.scavenger.Reports.{NamesMended, PagesMended}
use Rattle.laws_room.specs.pack_model.specs.sessions.Descriptor.{data_pages}
use Rattle.laws_room.specs.pack_model.specs.states.InUse.{counts}
use Rattle.laws_room.specs.pack_model.specs.states.Sentences.{EachOnce, HasLastPage, HasReadableName, IsUsed}
use Rattle.laws_room.specs.pack_model.specs.states.Sound.{Sound}
use Rattle.laws_room.specs.pack_model.specs.states.Whole.{Whole}
use Rattle.laws_room.specs.pack_laws.specs.GuardLaws.{ChangesOne, with_words}
use Rattle.laws_room.specs.laws_contents.specs.PageLaws.{bytes_at}
use Rattle.laws_mend.specs.Parts.{Cleared, Ended, Lasting, Rooted, RootedBut, SameFiles, Used}

-- ---- releases
-- of a page that a lower sector carries: the same files stand
abbrev pub CopyReleaseLeaves : Type 0
CopyReleaseLeaves = (p : Pack) (at lower : ℕ) (page : Page) → carried p at ≡ Some page → carried p lower ≡ Some page → lower < at → SameFiles p (after p (release_writes at))

-- A label that is neither free nor in range becomes a free one, and the value ones: the same files stand, and no page comes to be carried twice.
pub record StrayGone (p q : Pack) (at : ℕ) : Type 0 where
  pub changed : ChangesOne at None true free (with_words (sector_at p at) (ones 8) (ones 256)) p q
  pub files : SameFiles p q
  pub once : EachOnce (sights p) → EachOnce (sights q)

abbrev pub StrayReleaseLeaves : Type 0
StrayReleaseLeaves = (p : Pack) (at : ℕ) → is_usable p.shape at (sector_at p at) ≡ true → carried p at ≡ None → StrayGone p (after p (release_writes at)) at

-- A page that isn't within its file's end has gone. The same files live, and the bytes of each of them are as they were, except of
-- DiskDescriptor; every other page has its place, and counts if it counted.
pub record UnusedGone (p q : Pack) (at : ℕ) (page : Page) : Type 0 where
  pub none : place (sights q) page.fid page.number ≡ None
  pub others : (f : Fid) (n : ℕ) → (f ≡ page.fid → n ≡ page.number → ⊥) → place (sights q) f n ≡ place (sights p) f n
  pub lives_are : (f : Fid) → lives (sights q) f ≡ lives (sights p) f
  pub bytes_are : (f : Fid) → lives (sights p) f ≡ true → is_fid f disk_descriptor ≡ false → file_bytes (sights q) f ≡ file_bytes (sights p) f
  pub counts_are : (f : Fid) (n : ℕ) → counts q.shape (sights q) f n ≡ counts p.shape (sights p) f n
  pub ended : Ended q
  pub used_here : IsUsed q.shape (sights q) at
  pub used : (i : ℕ) → IsUsed p.shape (sights p) i → IsUsed q.shape (sights q) i

abbrev pub UnusedReleaseLeaves : Type 0
UnusedReleaseLeaves = (p : Pack) (at : ℕ) (page : Page) → Ended p → carried p at ≡ Some page → counts p.shape (sights p) page.fid page.number ≡ false → UnusedGone p (after p (release_writes at)) at page

-- ---- a last page
-- A last page that was missing is there: it has its place, each other page its own, and all files live with the same bytes.
pub record LastClaimed (p q : Pack) (at : ℕ) (page : Page) : Type 0 where
  pub here : place (sights q) page.fid page.number ≡ Some at
  pub others : (f : Fid) (n : ℕ) → (f ≡ page.fid → n ≡ page.number → ⊥) → place (sights q) f n ≡ place (sights p) f n
  pub lives_are : (f : Fid) → lives (sights q) f ≡ lives (sights p) f
  pub bytes_are : (f : Fid) → file_bytes (sights q) f ≡ file_bytes (sights p) f
  pub last_page : HasLastPage (sights q) page.fid
  pub rooted : lives (sights p) page.fid ≡ true → Rooted p → Rooted q

abbrev pub LastClaimLeaves : Type 0
LastClaimLeaves = (p : Pack) (at : ℕ) (page : Page) (label value : List ℕ) → is_free_at p at ≡ true → at ≢ 1 → page_of label ≡ Some page → is_fid page.fid disk_descriptor ≡ false → (tag label).bytes ≡ 0
    → page.number ≡ suc (length (file_bytes (sights p) page.fid) / 512) → place (sights p) page.fid page.number ≡ None → LastClaimed p (after p (claim_writes at label value)) at page

-- ---- SysDir's leader page comes to sector 1
-- an equal copy comes there, and then the old sector is released
abbrev pub RootIsMoved : Type 0
RootIsMoved = (p : Pack) (old : ℕ) → Used p → is_free_at p 1 ≡ true → place (sights p) sys_dir 0 ≡ Some old → Rooted (after (after p (claim_writes 1 (sector_at p old).label (sector_at p old).value)) (release_writes old))

-- SysDir's first data page is one free slot of 255 words, and then its leader page is in sector 1.
pub record RootMade (q r : Pack) : Type 0 where
  pub slots : slots (dir_words q sys_dir) ≡ space 255 ∷ []
  pub rooted : Rooted r

-- so it is after the claims of both, if it didn't live
abbrev pub RootIsMade : Type 0
RootIsMade = (p : Pack) (at : ℕ) (label value later_label later_value : List ℕ) → Used p → lives (sights p) sys_dir ≡ false → is_free_at p 1 ≡ true → is_free_at p at ≡ true → at ≢ 1
    → page_of label ≡ Some (record { fid = sys_dir; number = 1 }) → (tag label).bytes ≡ 510 → length value ≡ 256 → word value 0 ≡ 255 → page_of later_label ≡ Some (record { fid = sys_dir; number = 0 })
    → let q : Pack = after p (claim_writes at label value) in RootMade q (after q (claim_writes 1 later_label later_value))

-- ---- DiskDescriptor is made
-- A data page of DiskDescriptor, counted from 0, is there, and counts the bytes that its format has in it.
pub record IsDescribed (p : Pack) (n : ℕ) : Type 0 where
  pub at : ℕ
  pub sector : place (sights p) disk_descriptor (suc n) ≡ Some at
  pub counts : length (bytes_at p at) ≡ min 512 (descriptor_length p.shape - 512 * n)

-- A data page of DiskDescriptor is written, claimed or under another label: it has its place, each other page its own, and each other file
-- its bytes. The data pages that were as they have to be are so still, and this one is if its bytes are as many.
pub record DescriptorPageWritten (p q : Pack) (at n : ℕ) : Type 0 where
  pub here : place (sights q) disk_descriptor (suc n) ≡ Some at
  pub others : (f : Fid) (m : ℕ) → (f ≡ disk_descriptor → m ≡ suc n → ⊥) → place (sights q) f m ≡ place (sights p) f m
  pub lives_are : (f : Fid) → lives (sights q) f ≡ lives (sights p) f
  pub bytes_are : (f : Fid) → is_fid f disk_descriptor ≡ false → file_bytes (sights q) f ≡ file_bytes (sights p) f
  pub described : (m : ℕ) → m ≢ n → IsDescribed p m → IsDescribed q m
  pub described_here : length (bytes_at q at) ≡ min 512 (descriptor_length p.shape - 512 * n) → IsDescribed q n
  pub rooted : RootedBut p → RootedBut q

-- a data page that is missing is claimed
abbrev pub DescriptorClaimLeaves : Type 0
DescriptorClaimLeaves = (p : Pack) (at n : ℕ) (label value : List ℕ) → is_free_at p at ≡ true → at ≢ 1 → page_of label ≡ Some (record { fid = disk_descriptor; number = suc n }) → n < data_pages p.shape → place (sights p) disk_descriptor (suc n) ≡ None
    → DescriptorPageWritten p (after p (claim_writes at label value)) at n

-- one that is there gets another count
abbrev pub DescriptorCountLeaves : Type 0
DescriptorCountLeaves = (p : Pack) (at n : ℕ) (label : List ℕ) → place (sights p) disk_descriptor (suc n) ≡ Some at → page_of label ≡ Some (record { fid = disk_descriptor; number = suc n }) → DescriptorPageWritten p (after p (relabel_writes at label (sector_at p at).value)) at n

-- All its data pages are as they have to be, and each other living file has its last page.
pub record IsDescribedWhole (p : Pack) : Type 0 where
  pub rooted : RootedBut p
  pub described : (n : ℕ) → n < data_pages p.shape → IsDescribed p n
  pub last_pages : (f : Fid) → lives (sights p) f ≡ true → is_fid f disk_descriptor ≡ false → HasLastPage (sights p) f

-- so, if it lives, each living file has its last page, and it has the length of its format
abbrev pub DescribedIsLasting : Type 0
DescribedIsLasting = (p : Pack) → IsDescribedWhole p → lives (sights p) disk_descriptor ≡ true → Lasting p

-- and if its leader page is claimed
abbrev pub DescriptorLeaderMakesLasting : Type 0
DescriptorLeaderMakesLasting = (p : Pack) (at : ℕ) (label value : List ℕ) → IsDescribedWhole p → is_free_at p at ≡ true → at ≢ 1 → page_of label ≡ Some (record { fid = disk_descriptor; number = 0 }) → place (sights p) disk_descriptor 0 ≡ None → Lasting (after p (claim_writes at label value))

-- ---- labels and leader pages
-- A directory ends with its slots: each page has its place, and the bytes of every other file are as they were.
pub record DirectoryIsCut (p q : Pack) (d : Fid) : Type 0 where
  pub lives_are : (f : Fid) → lives (sights q) f ≡ lives (sights p) f
  pub places_are : (f : Fid) (n : ℕ) → place (sights q) f n ≡ place (sights p) f n
  pub others : (f : Fid) → is_fid f d ≡ false → file_bytes (sights q) f ≡ file_bytes (sights p) f
  pub ends : lives (sights p) d ≡ true → SlotsReachEnd (file_bytes (sights q) d)
  pub slots_are : lives (sights p) d ≡ true → slots (dir_words q d) ≡ slots (dir_words p d)
  pub cleared : Cleared p → Cleared q

abbrev pub DirectoryCutLeaves : Type 0
DirectoryCutLeaves = (p : Pack) (d : Fid) (at n : ℕ) (label : List ℕ) → is_directory d ≡ true → place (sights p) d (suc n) ≡ Some at → page_of label ≡ Some (record { fid = d; number = suc n }) → (tag label).bytes < 512
    → 512 * n + (tag label).bytes ≡ all_words (slots (dir_words p d)) * 2 → DirectoryIsCut p (after p (relabel_writes at label (sector_at p at).value)) d

-- Other links are written: all is shown as it was, every other sector has the links that it had, and this one those that are written.
pub record LinksWritten (p q : Pack) (at : ℕ) (label : List ℕ) : Type 0 where
  pub shown : sights q ≡ sights p
  pub others : (i : ℕ) → i ≢ at → HasLinks p i → HasLinks q i
  pub here : word label 0 ≡ next_link p.shape (sights p) (get_or (sights p) at hidden) → word label 1 ≡ previous_link p.shape (sights p) (get_or (sights p) at hidden) → HasLinks q at
  pub lasting : Lasting p → Lasting q

abbrev pub OtherLinksLeave : Type 0
OtherLinksLeave = (p : Pack) (at : ℕ) (page : Page) (label : List ℕ) → carried p at ≡ Some page → page_of label ≡ Some page → drop 3 label ≡ drop 3 (sector_at p at).label → LinksWritten p (after p (relabel_writes at label (sector_at p at).value)) at label

-- A leader page's value is written: the same files stand, each sector has its label, and links that were true are so still. The name of
-- the page can be read if the value says one.
pub record LeaderWritten (p q : Pack) (at : ℕ) (value : List ℕ) : Type 0 where
  pub labels : (i : ℕ) → (sector_at q i).label ≡ (sector_at p i).label
  pub links : (i : ℕ) → HasLinks p i → HasLinks q i
  pub files : SameFiles p q
  pub others : (i : ℕ) → i ≢ at → get_or (sights q) i hidden ≡ get_or (sights p) i hidden
  pub named : is_readable (leader_words value) ≡ true → (f : Fid) (readable : Bool) (l : Leader) → get_or (sights q) at hidden ≡ leads f readable l → readable ≡ true
  pub lasting : Lasting p → Lasting q

abbrev pub LeaderValueLeaves : Type 0
LeaderValueLeaves = (p : Pack) (at : ℕ) (page : Page) (value : List ℕ) → carried p at ≡ Some page → page.number ≡ 0 → LeaderWritten p (after p (value_writes at value)) at value

-- ---- all parts
-- all parts, true links and names that can be read are a pack whose pages are mended
abbrev pub PartsAreMended : Type 0
PartsAreMended = (p : Pack) → Lasting p → PageLinks p → ((f : Fid) → lives (sights p) f ≡ true → HasReadableName (sights p) f) → PagesMended p

-- ---- packs that have them
-- a whole pack has all parts
abbrev pub WholeIsLasting : Type 0
WholeIsLasting = (p : Pack) → Whole p → Lasting p

-- and the names of a sound one with true links are mended
abbrev pub SoundIsMended : Type 0
SoundIsMended = (p : Pack) → Sound p → LinksTrue p → NamesMended p
