-- What holds of a pack after each part of mending.
use Rattle.std.specs.Prelude.{◌≡◌, ◌≢◌, ◌⊎◌, ℕ, suc, Bool, true, false, List, get_or, replicate, Option, Some, None}
use Rattle.alto_words.specs.declared.fid.Fid.{Fid}
use Rattle.alto_words.specs.Fid.{is_directory, is_fid, sys_dir, disk_descriptor}
use Rattle.disk_records.specs.declared.records.Page.{Page}
use Rattle.disk_records.specs.Commands.{claim_writes}
use Rattle.disk_records.specs.Labels.{page_of, tag}
use Rattle.disk_records.specs.Packs.{Pack, after, carried, is_free_at}
use Rattle.pack_model.specs.reading.Files.{lives, file_bytes, place}
use Rattle.pack_model.specs.reading.Sights.{sights}
use Rattle.pack_model.specs.reading.Sights.Sight.{hidden, stray}
use Rattle.pack_model.specs.reading.Slots.{SlotsReachEnd}
use Rattle.pack_model.specs.scavenger.Scavenging.{Scavengeable}
use Rattle.pack_model.specs.scavenger.Reports.{PagesMended}
use Rattle.pack_model.specs.states.InUse.{one_if}
use Rattle.pack_model.specs.states.Sentences.{EachOnce, HasLastPage}
use Rattle.laws_mend.specs.Parts.{Cleared, Ended, FreesMore, Lasting, Rooted, Used}
use Rattle.scav_pages.specs.declared.directory.Directory.{Directory}
use Rattle.scav_pages.specs.declared.files.FileWalk.{FileWalk}
use Rattle.scav_pages.specs.declared.unused.Unused.{Unused}
use Rattle.scav_table.specs.Laws.{WritesAt}
use Rattle.scav_pages.specs.Ends.{MayDescribePage}
use Rattle.scav_pages.specs.Free.{NoneFreeBelow}
use Rattle.scav_pages.specs.Walks.{file_in_hand}

-- ---- what each part leaves
pub record CopiesReleased (p q : Pack) (n : ℕ) : Type 0 where
  pub once : EachOnce (sights q)
  pub frees : FreesMore p q n

-- one sector that shows a stray label is free
pub record StrayReleased (at : ℕ) (p q : Pack) (done : Bool) : Type 0 where
  pub once : EachOnce (sights q)
  pub no_stray : get_or (sights q) at hidden ≡ stray → ⊥
  pub others : (i : ℕ) → i ≢ at → get_or (sights q) i hidden ≡ get_or (sights p) i hidden
  pub written : WritesAt at p q
  pub frees : FreesMore p q (one_if done)

pub record StraysReleased (p q : Pack) (n : ℕ) : Type 0 where
  pub cleared : Cleared q
  pub frees : FreesMore p q n

-- one sector that carries a page of the file in hand carries it with another label
pub record RelabelsFor (walk : FileWalk) (at : ℕ) (p q : Pack) : Type 0 where
  pub written : WritesAt at p q
  pub page : Page
  pub carried_it : carried p at ≡ Some page
  pub carries : carried q at ≡ Some page
  pub hand : file_in_hand walk ≡ Some page.fid

-- nothing was written, or such a label
abbrev pub RelabelsHand : FileWalk → Pack → Pack → Type 0
RelabelsHand walk p q = (q ≡ p) ⊎ ((at : ℕ) × RelabelsFor walk at p q)

-- the directory in hand ends with its slots, and every other file is as it was
pub record DirectoryEnds (dir : Directory) (p q : Pack) (done : Unit {0}) : Type 0 where
  pub cleared : Cleared q
  pub ends : (d : Fid) → file_in_hand dir.walk ≡ Some d → lives (sights q) d ≡ true → is_directory d ≡ true → SlotsReachEnd (file_bytes (sights q) d)
  pub others : (f : Fid) → file_in_hand dir.walk ≢ Some f → file_bytes (sights q) f ≡ file_bytes (sights p) f
  pub lives_are : (f : Fid) → lives (sights q) f ≡ lives (sights p) f
  pub places_are : (f : Fid) (n : ℕ) → place (sights q) f n ≡ place (sights p) f n
  pub frees : FreesMore p q 0

pub record DirectoriesEnd (p q : Pack) (done : Unit {0}) : Type 0 where
  pub ended : Ended q
  pub frees : FreesMore p q 0

pub record UnusedReleased (p q : Pack) (unused : Unused) : Type 0 where
  pub used : Used q
  pub frees : FreesMore p q unused.freed
  pub root : unused.root ≡ place (sights q) sys_dir 0

-- the pack can be scavenged, and SysDir's leader page is in this sector, if it is there
pub record MayMoveRoot (p : Pack) (root : Option ℕ) : Type 0 where
  pub scavengeable : Scavengeable p
  pub used : Used p
  pub root_is : root ≡ place (sights p) sys_dir 0

abbrev pub RootMended : Pack → Pack → Unit {0} → Type 0
RootMended p q done = Rooted q

-- a page was claimed with so many bytes of zeros in this sector, which was free
pub record PageWritten (page : Page) (bytes : ℕ) (p q : Pack) (at : ℕ) : Type 0 where
  pub was_free : is_free_at p at ≡ true
  pub label : List ℕ
  pub names : page_of label ≡ Some page
  pub count : (tag label).bytes ≡ bytes
  pub left : q ≡ after p (claim_writes at label (replicate 256 0))

-- and none below the next one is
pub record PageClaimed (page : Page) (bytes next : ℕ) (p q : Pack) (at : ℕ) : Type 0 where
  pub wrote : PageWritten page bytes p q at
  pub none_below : NoneFreeBelow q next

-- one sector that carried nothing carries a page of the file in hand
pub record ClaimsFor (walk : FileWalk) (at : ℕ) (p q : Pack) : Type 0 where
  pub written : WritesAt at p q
  pub nothing : carried p at ≡ None
  pub page : Page
  pub carries : carried q at ≡ Some page
  pub hand : file_in_hand walk ≡ Some page.fid

-- nothing was written, or such a claim
abbrev pub ClaimsHand : FileWalk → Pack → Pack → Type 0
ClaimsHand walk p q = (q ≡ p) ⊎ ((at : ℕ) × ClaimsFor walk at p q)

-- The last page of the file in hand is carried, except of DiskDescriptor. All bytes are the same, every page that had its place has it, and so
-- it is of all pages of other files.
pub record LastClaimed (walk : FileWalk) (next : ℕ) (p q : Pack) (done : Unit {0}) : Type 0 where
  pub rooted : Rooted q
  pub last_page : (f : Fid) → file_in_hand walk ≡ Some f → is_fid f disk_descriptor ≡ false → HasLastPage (sights q) f
  pub lives_are : (f : Fid) → lives (sights q) f ≡ lives (sights p) f
  pub bytes_are : (f : Fid) → file_bytes (sights q) f ≡ file_bytes (sights p) f
  pub kept : (f : Fid) (n at : ℕ) → place (sights p) f n ≡ Some at → place (sights q) f n ≡ Some at
  pub others : (f : Fid) (n : ℕ) → (file_in_hand walk ≡ Some f → is_fid f disk_descriptor ≡ true) → place (sights q) f n ≡ place (sights p) f n
  pub none_below : NoneFreeBelow q next

-- DiskDescriptor's data pages up to this one are as they have to be, and the last page of each other file is still there
abbrev pub PageDescribed : ℕ → List ℕ → ℕ → Pack → Pack → Unit {0} → Type 0
PageDescribed number places next p q done = MayDescribePage q (suc number) places next

abbrev pub Described : Pack → Pack → Unit {0} → Type 0
Described p q done = Lasting q

abbrev pub LinksMended : Pack → Pack → Unit {0} → Type 0
LinksMended p q done = PagesMended q
