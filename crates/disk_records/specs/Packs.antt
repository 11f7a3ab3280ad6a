-- A pack, and what events leave of it.
use Rattle.std.specs.Prelude.{◌≡◌, ℕ, zero, suc, ◌&&◌, All, Bool, false, cond, nat_lt, List, [], ◌∷◌, length, take, get_or, set, Option, Some, None}
use Rattle.disk_records.specs.declared.shape.Shape.{Shape}
use Rattle.disk_records.specs.declared.records.Sector.{Sector}
use Rattle.disk_records.specs.declared.records.Page.{Page}
use Rattle.disk_records.specs.declared.records.Event.{Event}
use Rattle.disk_records.specs.declared.records.Event.TheVariants.{Wrote, Shown}
use Rattle.disk_records.specs.Addresses.{is_right_header}
use Rattle.disk_records.specs.Labels.{tag, is_free, page_of}

pub record Pack : Type 0 where
  pub shape : Shape
  pub sectors : List Sector

-- a sector with no words, for a place past the end
abbrev pub no_sector : Sector
no_sector = record { header = []; label = []; value = [] }

abbrev pub sector_at : Pack → ℕ → Sector
sector_at p at = get_or p.sectors at no_sector

-- A sector whose records have as many words as those of a disk.
pub record IsFormed (s : Sector) : Type 0 where
  pub header : length s.header ≡ 2
  pub label : length s.label ≡ 8
  pub value : length s.value ≡ 256

-- each sector of a pack is such a one
abbrev pub AreFormed : Pack → Type 0
AreFormed p = All IsFormed p.sectors

-- ---- what events leave: part 0 is the header, 1 the label, 2 the value
abbrev pub with_part : ℕ → List ℕ → Sector → Sector
with_part zero words s = record s { header = words }
with_part (suc zero) words s = record s { label = words }
with_part (suc (suc n)) words s = record s { value = words }

abbrev pub after_one : Event → List Sector → List Sector
after_one (Wrote at part words) sectors = set sectors at (with_part part words (get_or sectors at no_sector))
after_one (Shown byte) sectors = sectors

abbrev pub after_all : List Event → List Sector → List Sector
after_all [] sectors = sectors
after_all (e ∷ events) sectors = after_all events (after_one e sectors)

-- the pack after these events, in order; each record is whole or absent
abbrev pub after : Pack → List Event → Pack
after p events = record { shape = p.shape; sectors = after_all events p.sectors }

-- the pack where the machine stopped after k of the events
abbrev pub crash : Pack → List Event → ℕ → Pack
crash p events k = after p (take k events)

-- ---- what a sector carries
-- sector 0 isn't used, and a sector with a wrong header isn't either
abbrev pub is_usable : Shape → ℕ → Sector → Bool
is_usable shape at s = nat_lt 0 at && is_right_header shape at s.header

-- the page that the sector at this address carries
abbrev pub carried : Pack → ℕ → Option Page
carried p at = cond (is_usable p.shape at (sector_at p at)) (page_of (sector_at p at).label) None

-- whether the sector at this address is free
abbrev pub is_free_at : Pack → ℕ → Bool
is_free_at p at = cond (is_usable p.shape at (sector_at p at)) (is_free (tag (sector_at p at).label)) false

-- the label of the sector at this address, where its header is right
abbrev pub label_found : Pack → ℕ → Option (List ℕ)
label_found p at = cond (is_usable p.shape at (sector_at p at)) (Some (sector_at p at).label) None
