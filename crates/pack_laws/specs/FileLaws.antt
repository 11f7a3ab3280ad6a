-- Who bears a page, and what the living files of a pack are.
use Rattle.std.specs.Prelude.{◌≡◌, ◌≢◌, ℕ, ◌<◌, List, Option, Some, None}
use Rattle.std.specs.Option.{is_some}
use Rattle.std.specs.FinMap.{get}
use Rattle.pack_model.specs.alto_words.specs.declared.fid.Fid.{Fid}
use Rattle.pack_model.specs.disk_records.specs.declared.records.Page.{Page}
use Rattle.pack_model.specs.disk_records.specs.Packs.{Pack, carried}
use Rattle.pack_model.specs.reading.Leaders.{Leader}
use Rattle.pack_model.specs.reading.Sights.{Sight, sights}
use Rattle.pack_model.specs.reading.Files.{first, leader_at, page_at, leader, lives, file_bytes, place, Bears}
use Rattle.pack_model.specs.reading.Stored.{StoredFile, stored_files}

-- ---- bearers
-- What a place of the list bears is the first answer, and the first answer is borne by a place.
pub record FirstIsBorne {S X : Type 0} (answer : S → Option X) (ss : List S) : Type 0 where
  pub given : (i : ℕ) (x : X) → Bears answer ss i x → first answer ss ≡ Some x
  pub borne : (x : X) → first answer ss ≡ Some x → (i : ℕ) × Bears answer ss i x

abbrev pub FirstIsBears : Type 0 → Type 0 → Type 0
FirstIsBears S X = (answer : S → Option X) (ss : List S) → FirstIsBorne answer ss

-- So a file's leader and each of its pages are those of the lowest sector that shows them.
pub record FilesAreBorne (ss : List Sight) (f : Fid) : Type 0 where
  pub leaders : FirstIsBorne (leader_at f) ss
  pub pages : (n : ℕ) → FirstIsBorne (page_at f n) ss

abbrev pub LeadersAndPagesAreBorne : Type 0
LeadersAndPagesAreBorne = (ss : List Sight) (f : Fid) → FilesAreBorne ss f

-- ---- places
-- this sector carries the page, by its label, and no lower one does
pub record CarriesLowest (p : Pack) (page : Page) (at : ℕ) : Type 0 where
  pub here : carried p at ≡ Some page
  pub lowest : (j : ℕ) → j < at → carried p j ≢ Some page

-- The place of a page is the lowest sector that carries it, and there is one where some sector carries it.
pub record PlaceIsLowest (p : Pack) (page : Page) : Type 0 where
  pub lowest : (at : ℕ) → place (sights p) page.fid page.number ≡ Some at → CarriesLowest p page at
  pub place_is : (at : ℕ) → CarriesLowest p page at → place (sights p) page.fid page.number ≡ Some at
  pub none : place (sights p) page.fid page.number ≡ None → (at : ℕ) → carried p at ≢ Some page

abbrev pub PlacesAreLowest : Type 0
PlacesAreLowest = (p : Pack) (page : Page) → PlaceIsLowest p page

-- ---- stored files
-- A stored file is there if and only if the file lives, and it is the file's leader and bytes.
pub record IsStoredFile (p : Pack) (f : Fid) : Type 0 where
  pub living : is_some (get (stored_files p) f) ≡ lives (sights p) f
  pub stored : (l : Leader) → leader (sights p) f ≡ Some l → get (stored_files p) f ≡ Some (record { leader = l; bytes = file_bytes (sights p) f })
  pub leader_is : (x : StoredFile) → get (stored_files p) f ≡ Some x → leader (sights p) f ≡ Some x.leader
  pub bytes_are : (x : StoredFile) → get (stored_files p) f ≡ Some x → x.bytes ≡ file_bytes (sights p) f

abbrev pub StoredFilesAreLeadersAndBytes : Type 0
StoredFilesAreLeadersAndBytes = (p : Pack) (f : Fid) → IsStoredFile p f
