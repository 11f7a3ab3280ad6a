-- Which files live and where their pages are, by what the labels of sectors carry.
use Rattle.std.specs.FinMap.{get}
use Rattle.std.specs.Option.{is_some}
use Rattle.std.specs.Prelude.{List, None, Some, false, length, suc, ℕ, ◌<◌, ◌≡◌, ◌≢◌}
use Rattle.laws_contents.specs.alto_words.specs.Fid.{disk_descriptor, is_fid, serial_of}
use Rattle.laws_contents.specs.alto_words.specs.declared.fid.Fid.{Fid}
use Rattle.laws_contents.specs.disk_records.specs.Addresses.{pages_of}
use Rattle.laws_contents.specs.disk_records.specs.Packs.{Pack, after, carried}
use Rattle.laws_contents.specs.disk_records.specs.declared.records.Page.{Page}
use Rattle.laws_contents.specs.pack_model.specs.operations.Commands.{Claim, all_claimed, sectors_of, values_writes}
use Rattle.laws_contents.specs.pack_model.specs.operations.Committing.{page_of_byte}
use Rattle.laws_contents.specs.pack_model.specs.operations.Operations.{grow_writes, make_writes}
use Rattle.laws_contents.specs.pack_model.specs.sessions.Descriptor.{serial_writes}
use Rattle.laws_contents.specs.pack_model.specs.reading.Files.{file_bytes, lives, place}
use Rattle.laws_contents.specs.pack_model.specs.reading.Model.{read_as}
use Rattle.laws_contents.specs.pack_model.specs.reading.Sights.{sights}
use Rattle.laws_contents.specs.pack_model.specs.states.Whole.{Tidy, Whole}
use Rattle.laws_operation.specs.ByteLaws.{Bear, MayGrow}
use Rattle.laws_operation.specs.LifeLaws.{MayMake}
use Rattle.laws_operation.specs.NameLaws.{MayWiden}

-- ---- on any pack
-- a file lives if and only if its leader page has a place
abbrev pub FileLivesInAPlace : Type 0
FileLivesInAPlace = (p : Pack) (f : Fid) → lives (sights p) f ≡ is_some (place (sights p) f 0)

-- a page that no sector carries has no place
abbrev pub UncarriedPageHasNoPlace : Type 0
UncarriedPageHasNoPlace = (p : Pack) (page : Page) → ((at : ℕ) → at < pages_of p.shape → carried p at ≢ Some page) → place (sights p) page.fid page.number ≡ None

-- of the files but DiskDescriptor the model has exactly those that live
abbrev pub ModelHasTheLiving : Type 0
ModelHasTheLiving = (p : Pack) (f : Fid) → is_fid f disk_descriptor ≡ false → is_some (get (read_as p).files f) ≡ lives (sights p) f

-- ---- on a whole pack
-- on a whole pack whichever sector carries a page is its place
abbrev pub CarriedInPlace : Type 0
CarriedInPlace = (p : Pack) (page : Page) (at : ℕ) → Whole p → carried p at ≡ Some page → place (sights p) page.fid page.number ≡ Some at

-- on a whole pack no page of a file that doesn't live has a place
abbrev pub FileThatDoesNotLiveHasNoPage : Type 0
FileThatDoesNotLiveHasNoPage = (p : Pack) (f : Fid) (n : ℕ) → Whole p → lives (sights p) f ≡ false → place (sights p) f n ≡ None

-- on a whole pack no file with a serial above the last one given out lives
abbrev pub NoneAboveTheLastSerial : Type 0
NoneAboveTheLastSerial = (p : Pack) (f : Fid) → Whole p → (read_as p).last < serial_of f → lives (sights p) f ≡ false

-- ---- after values
-- The same files live, and each page has the same place.
pub record SamePlaces (p q : Pack) : Type 0 where
  pub living : (f : Fid) → lives (sights q) f ≡ lives (sights p) f
  pub places : (f : Fid) (n : ℕ) → place (sights q) f n ≡ place (sights p) f n

-- after values, wherever they are written, the same files of any pack live and each page has the same place
abbrev pub ValuesKeepPlaces : Type 0
ValuesKeepPlaces = (p : Pack) (values : List (ℕ × List ℕ)) → SamePlaces p (after p (values_writes values))

-- after a new serial the same files of any pack live and each page has the same place
abbrev pub SerialKeepsPlaces : Type 0
SerialKeepsPlaces = (p : Pack) (at last : ℕ) (value : List ℕ) → SamePlaces p (after p (serial_writes at last value))

-- after a new serial above the last one given out no file with it lives, on a whole pack
abbrev pub NewSerialNamesNoLivingFile : Type 0
NewSerialNamesNoLivingFile = (p : Pack) (f : Fid) (at : ℕ) (value : List ℕ) → Whole p → (read_as p).last < serial_of f → lives (sights (after p (serial_writes at (serial_of f) value))) f ≡ false

-- ---- where new pages are
-- The leader and page 1 of the file are in these sectors, and it has no other page.
pub record HasTwoPages (q : Pack) (f : Fid) (leader_at page_at : ℕ) : Type 0 where
  pub leader : place (sights q) f 0 ≡ Some leader_at
  pub page : place (sights q) f 1 ≡ Some page_at
  pub none : (n : ℕ) → 1 < n → place (sights q) f n ≡ None

-- after a make the new file's pages are in the sectors that it claims
abbrev pub MakePlacesItsPages : Type 0
MakePlacesItsPages = (p : Pack) (f : Fid) (name : List ℕ) (moment : ℕ) (page leader : Claim) → Whole p → Tidy p → MayMake p f name moment page leader → HasTwoPages (after p (make_writes page leader)) f leader.at page.at

-- after a growth the pages that come after the old last one are in the sectors that it claims, in order
abbrev pub GrowPlacesItsPages : Type 0
GrowPlacesItsPages = (p : Pack) (f : Fid) (new : List ℕ) (claims : List Claim) (at : ℕ) (label value : List ℕ) → Whole p → Tidy p → MayGrow p f new claims at label value
    → Bear (sights (after p (grow_writes claims at label value))) f (suc (page_of_byte (length (file_bytes (sights p) f)))) (sectors_of (all_claimed claims))

-- and after a widening
abbrev pub WidenPlacesItsPages : Type 0
WidenPlacesItsPages = (p : Pack) (d : Fid) (added : List ℕ) (claims : List Claim) (at : ℕ) (label value : List ℕ) → Whole p → Tidy p → MayWiden p d added claims at label value
    → Bear (sights (after p (grow_writes claims at label value))) d (suc (page_of_byte (length (file_bytes (sights p) d)))) (sectors_of (all_claimed claims))
