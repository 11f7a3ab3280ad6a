-- Hints that mislead.
-- Hints that are checked by labels are those of the SOSP 1979 paper; which of them mislead is this project's choice.
use Rattle.std.specs.Prelude.{◌≡◌, ◌⊎◌, ℕ, ◌+◌, ◌<◌, true, List, Option, Some, None, Contains}
use Rattle.disk_records.specs.alto_words.specs.declared.fid.Fid.{Fid}
use Rattle.disk_records.specs.alto_words.specs.Fid.{is_directory, sys_dir}
use Rattle.disk_records.specs.declared.shape.Shape.{Shape}
use Rattle.disk_records.specs.declared.records.Page.{Page}
use Rattle.disk_records.specs.declared.records.Place.{Place}
use Rattle.disk_records.specs.declared.records.Place.TheVariants.{Root, Entry, Next, Held}
use Rattle.disk_records.specs.declared.records.Event.{Event}
use Rattle.disk_records.specs.Addresses.{pages_of, real_of}
use Rattle.disk_records.specs.Words.{word}
use Rattle.disk_records.specs.Packs.{Pack, sector_at, carried, label_found, after}
use Rattle.pack_model.specs.reading.Sights.{sights}
use Rattle.pack_model.specs.reading.Files.{lives}
use Rattle.pack_model.specs.reading.Slots.Item.{entry}
use Rattle.pack_model.specs.reading.SlotWords.{SlotAt, address_word}
use Rattle.pack_model.specs.hints.Links.{dir_slots}
use Rattle.pack_model.specs.states.Whole.{Whole}

-- ---- the word at a place, and the page that the place means
abbrev pub leader_page : Fid → Page
leader_page f = record { fid = f; number = 0 }

-- Some entry of the living directory has its address in this word, whatever it is an entry of; it means the leader of its file.
pub record StandsInEntry (p : Pack) (dir : Fid) (w at : ℕ) (wanted : Page) : Type 0 where
  pub lives : lives (sights p) dir ≡ true
  pub directory : is_directory dir ≡ true
  pub slot : SlotAt
  pub name : List ℕ
  pub stands : Contains (dir_slots p dir) slot
  pub item : slot.item ≡ entry wanted.fid name
  pub number : wanted.number ≡ 0
  pub word : w ≡ address_word slot.place
  pub address : at ≡ slot.address

-- The sector carries a leader, or a page of 512 bytes; its next link means the page after this one.
pub record StandsInLink (p : Pack) (i at : ℕ) (wanted : Page) : Type 0 where
  pub page : Page
  pub carries : carried p i ≡ Some page
  pub full : (page.number ≡ 0) ⊎ (word (sector_at p i).label 3 ≡ 512)
  pub means : wanted ≡ record { fid = page.fid; number = page.number + 1 }
  pub link : at ≡ word (sector_at p i).label 0

-- the hint word at the place is `at`, and the place means the page that is wanted; an address that was checked means any page
abbrev pub StandsAt : Pack → Place → ℕ → Page → Type 0
StandsAt p Root at wanted = (at ≡ 1) × (wanted ≡ leader_page sys_dir)
StandsAt p (Entry dir w) at wanted = StandsInEntry p dir w at wanted
StandsAt p (Next i) at wanted = StandsInLink p i at wanted
StandsAt p (Held i) at wanted = at ≡ i

-- ---- the sector that a hint word names
-- a link is the real address of a sector, all others are virtual ones
abbrev pub IsAddressOf : Shape → Place → ℕ → ℕ → Type 0
IsAddressOf shape Root at i = at ≡ i
IsAddressOf shape (Entry dir w) at i = at ≡ i
IsAddressOf shape (Next j) at i = at ≡ real_of shape i
IsAddressOf shape (Held j) at i = at ≡ i

-- it is a usable one: sector 0 is never used
pub record NamesSector (shape : Shape) (place : Place) (at i : ℕ) : Type 0 where
  pub first : 0 < i
  pub last : i < pages_of shape
  pub named : IsAddressOf shape place at i

-- The hint word at the place is `at`, and it names no usable sector, or one that doesn't carry the page that is wanted.
pub record Misled (p : Pack) (place : Place) (at : ℕ) (wanted : Page) : Type 0 where
  pub stands : StandsAt p place at wanted
  pub misses : (i : ℕ) → NamesSector p.shape place at i → carried p i ≡ Some wanted → ⊥

-- the label of the sector that is named, none where no usable sector is, or one with a wrong header
pub record Finds (p : Pack) (place : Place) (at : ℕ) (found : Option (List ℕ)) : Type 0 where
  pub named : (i : ℕ) → NamesSector p.shape place at i → found ≡ label_found p i
  pub unnamed : ((i : ℕ) → NamesSector p.shape place at i → ⊥) → found ≡ None

-- a hint word on the disk; on a whole pack no other is answered
abbrev pub IsOnDisk : Place → Type 0
IsOnDisk Root = ⊥
IsOnDisk (Entry dir w) = Unit {0}
IsOnDisk (Next i) = Unit {0}
IsOnDisk (Held i) = ⊥

-- A call on p, or a line, answers that a hint misled, and made these events: the hint did so as the call began. What was found is
-- the label there when the call looked: that of p, unless the call itself wrote it before. No call writes a label of that sector after
-- such a look, so it is the label after all of its events. Which pages may be wanted is said by each call: those of its own file or
-- directory.
pub record AnswersMisled (p : Pack) (events : List Event) (place : Place) (at : ℕ) (wanted : Page) (found : Option (List ℕ)) : Type 0 where
  pub misled : Misled p place at wanted
  pub on_disk : Whole p → IsOnDisk place
  pub finds : Finds (after p events) place at found
