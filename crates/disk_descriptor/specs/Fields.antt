-- What is kept of DiskDescriptor, and the record writes of the calls that open the mark, give a serial and close.
use Rattle.std.specs.Prelude.{All, Bool, List, OnOk, Result, Some, get_or, true, ℕ, ◌+◌, ◌<◌, ◌≡◌, ◌≤◌, []}
use Rattle.alto_words.specs.Fid.{disk_descriptor, serial_of}
use Rattle.alto_words.specs.declared.fid.Fid.{Fid}
use Rattle.disk_records.specs.Addresses.{pages_of}
use Rattle.disk_records.specs.Packs.{Pack, sector_at}
use Rattle.disk_records.specs.Tapes.{Taped, added, pack}
use Rattle.disk_records.specs.declared.records.Event.{Event}
use Rattle.disk_records.specs.declared.shape.Shape.{Shape}
use Rattle.laws_hint.specs.ClosingLaws.{closing_writes}
use Rattle.laws_hint.specs.LineLinks.{opening_writes}
use Rattle.pack_model.specs.hints.Links.{LinksTrue}
use Rattle.pack_model.specs.reading.Files.{lives, place}
use Rattle.pack_model.specs.reading.Model.{Model, read_as}
use Rattle.pack_model.specs.reading.Sights.{sights}
use Rattle.pack_model.specs.sessions.Descriptor.{DescriptorFits, close_writes, open_writes, serial_writes}
use Rattle.pack_model.specs.states.Sound.{mark_clean, mark_open}
use Rattle.pack_model.specs.states.Whole.{Tidy, Whole}
use Rattle.disk_descriptor.specs.Writing.{Writes}

-- What contracts see of it: the shape, the last serial given out, the mark, and the sectors of its data pages, in order.
pub record Fields : Type 0 where
  pub shape : Shape
  pub last : ℕ
  pub mark : ℕ
  pub pages : List ℕ

-- each of these is the address of a sector that can carry a page
abbrev pub AreSectors : Shape → List ℕ → Type 0
AreSectors shape pages = All (λ at. (1 ≤ at) × (at < pages_of shape)) pages

-- ---- what is kept is so on a pack
abbrev pub Fits : Pack → Fields → Type 0
Fits p kept = DescriptorFits p kept.shape kept.last kept.mark kept.pages

-- The pack is whole and tidy besides.
pub record FitsDisk (p : Pack) (kept : Fields) : Type 0 where
  pub whole : Whole p
  pub tidy : Tidy p
  pub fits : Fits p kept

-- The pack is read as this model, and all its links are true if those of the pack before were.
pub record ReadsAs (m : Model) (p q : Pack) : Type 0 where
  pub reads : read_as q ≡ m
  pub links : LinksTrue p → LinksTrue q

-- the sector that is kept of its first data page
abbrev pub first_kept : Fields → ℕ
first_kept kept = get_or kept.pages 0 0

-- ---- the mark
-- the record writes by which it is opened by what is kept, none where it is open there
abbrev pub opens_kept : Pack → Fields → List Event
opens_kept p kept = open_writes kept.mark (first_kept kept) (sector_at p (first_kept kept)).value

-- A call that does the record writes by which the mark is opened, none where it is open.
pub record Opens {T E : Type 0} (memory : E) (old new : Taped) (result : Result T E) : Type 0 where
  pub at : ℕ
  pub placed : place (sights (pack old)) disk_descriptor 1 ≡ Some at
  pub writes : Writes memory (opening_writes (pack old) at) 3 old new result

abbrev pub opened : Fields → Fields
opened kept = record kept { mark = mark_open }

-- ---- serials
-- a serial fits 31 bits, and the greatest of them is that of no file
abbrev pub most_last : ℕ
most_last = 2147483646

-- the record write by which the serial after the last one that is kept is given
abbrev pub gives_kept : Pack → Fields → List Event
gives_kept p kept = serial_writes (first_kept kept) (kept.last + 1) (sector_at p (first_kept kept)).value

-- Either the serials are spent, and nothing was written, nor is it Ok; or the call does the record write of the one after the last.
pub data GivesOne {T E : Type 0} (memory : E) (kept : Fields) (old new : Taped) (result : Result T E) : Type 0 where
  spent : most_last ≤ kept.last → added old new ≡ [] → OnOk result ⊥ → GivesOne memory kept old new result
  given : (at : ℕ) → kept.last < most_last → place (sights (pack old)) disk_descriptor 1 ≡ Some at → Writes memory (serial_writes at (kept.last + 1) (sector_at (pack old) at).value) 3 old new result → GivesOne memory kept old new result

-- each file that lives on the pack has a lower serial
abbrev pub IsAboveLiving : Pack → ℕ → Type 0
IsAboveLiving p serial = (f : Fid) → lives (sights p) f ≡ true → serial_of f < serial

abbrev pub with_last : ℕ → Fields → Fields
with_last last kept = record kept { last = last }

-- ---- closing
-- the record writes by which the pack is closed with this map, none where it is clean
abbrev pub closes : Pack → List Bool → Fields → List Event
closes p busy kept = closing_writes p busy kept.pages

-- the same by what is kept
abbrev pub closes_kept : List Bool → Fields → List Event
closes_kept busy kept = close_writes kept.mark kept.shape kept.last busy kept.pages

abbrev pub closed : Fields → Fields
closed kept = record kept { mark = mark_clean }
