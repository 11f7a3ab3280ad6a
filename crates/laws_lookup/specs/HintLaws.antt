-- Hints that mislead, and hints that never do.
use Rattle.std.specs.Prelude.{None, Some, length, ℕ, ◌+◌, ◌≡◌, ◌⊎◌, List}
use Rattle.laws_operation.specs.disk_records.specs.Packs.{Pack, after, carried, label_found, sector_at}
use Rattle.laws_operation.specs.disk_records.specs.Words.{word}
use Rattle.laws_operation.specs.disk_records.specs.declared.records.Event.{Event}
use Rattle.laws_operation.specs.disk_records.specs.declared.records.Page.{Page}
use Rattle.laws_operation.specs.disk_records.specs.declared.records.Place.{Place}
use Rattle.laws_operation.specs.disk_records.specs.declared.records.Place.TheVariants.{Held, Next, Root}
use Rattle.laws_operation.specs.disk_records.specs.declared.shape.Shape.{Shape}
use Rattle.laws_operation.specs.pack_model.specs.hints.Links.{LinksTrue}
use Rattle.laws_operation.specs.pack_model.specs.hints.Misled.{AnswersMisled, IsOnDisk, Misled, NamesSector, StandsAt}
use Rattle.laws_operation.specs.pack_model.specs.states.Whole.{Tidy, Whole}

-- ---- hints that never mislead
-- each page's value has 256 words, as on the pack of every machine
abbrev pub HasFullValues : Pack → Type 0
HasFullValues p = (i : ℕ) (page : Page) → carried p i ≡ Some page → length (sector_at p i).value ≡ 256

-- on a whole and tidy pack with true links no entry's address and no next link misleads
abbrev pub TrueHintsNeverMislead : Type 0
TrueHintsNeverMislead = (p : Pack) (place : Place) (at : ℕ) (wanted : Page) → Whole p → Tidy p → HasFullValues p → LinksTrue p → IsOnDisk place → Misled p place at wanted → ⊥

-- on a whole pack the fixed address of SysDir's leader doesn't, whatever its links
abbrev pub RootNeverMisleads : Type 0
RootNeverMisleads = (p : Pack) (at : ℕ) (wanted : Page) → Whole p → Misled p Root at wanted → ⊥

-- nor does an address that was checked, while its sector carries the page
abbrev pub HeldAddressNeverMisleads : Type 0
HeldAddressNeverMisleads = (p : Pack) (i at : ℕ) (wanted : Page) → carried p i ≡ Some wanted → Misled p (Held i) at wanted → ⊥

-- ---- what a label that was read shows
-- a hint names one sector at most: a real address is that of one virtual one
abbrev pub HintNamesOneSector : Type 0
HintNamesOneSector = (shape : Shape) (place : Place) (at i j : ℕ) → NamesSector shape place at i → NamesSector shape place at j → i ≡ j

-- where the sector that a hint word names doesn't carry the page that is wanted, the word misleads, and what is found is the label there
abbrev pub LabelOfAnotherPageMisleads : Type 0
LabelOfAnotherPageMisleads = (p : Pack) (events : List Event) (place : Place) (at i : ℕ) (wanted : Page) → StandsAt p place at wanted → NamesSector p.shape place at i → (carried p i ≡ Some wanted → ⊥) → (Whole p → IsOnDisk place)
    → AnswersMisled p events place at wanted (label_found (after p events) i)

-- where it names no usable sector it misleads, and nothing is found
abbrev pub NoSectorMisleads : Type 0
NoSectorMisleads = (p : Pack) (events : List Event) (place : Place) (at : ℕ) (wanted : Page) → StandsAt p place at wanted → ((i : ℕ) → NamesSector p.shape place at i → ⊥) → (Whole p → IsOnDisk place) → AnswersMisled p events place at wanted None

-- the next link in a label that was read, of a leader or of a page of 512 bytes, means the page after this one
abbrev pub LinkMeansTheNextPage : Type 0
LinkMeansTheNextPage = (p : Pack) (i : ℕ) (page : Page) → carried p i ≡ Some page → (page.number ≡ 0) ⊎ (word (sector_at p i).label 3 ≡ 512) → StandsAt p (Next i) (word (sector_at p i).label 0) (record { fid = page.fid; number = page.number + 1 })

-- a hint word on the disk is one word, and means one page
abbrev pub PlaceMeansOnePage : Type 0
PlaceMeansOnePage = (p : Pack) (place : Place) (at bt : ℕ) (wanted other : Page) → IsOnDisk place → StandsAt p place at wanted → StandsAt p place bt other → (at ≡ bt) × (wanted ≡ other)

-- ---- after some record writes
-- a hint that stood before, of a page that each sector carries still which carried it, misled before where it misleads now
abbrev pub HintMisledBefore : Type 0
HintMisledBefore = (p : Pack) (events : List Event) (place : Place) (at : ℕ) (wanted : Page) → StandsAt p place at wanted → ((i : ℕ) → carried p i ≡ Some wanted → carried (after p events) i ≡ Some wanted) → Misled (after p events) place at wanted → Misled p place at wanted
