-- Packs of 48 sectors made by hand.
use Rattle.std.specs.Prelude.{⊤, ◌≡◌, ◌≢◌, ℕ, suc, zero, ◌+◌, ◌*◌, ◌/◌, ◌%◌, List, [], ◌∷◌, ◌++◌, get_or, set, replicate}
use Rattle.disk_records.specs.declared.records.Sector.{Sector}
use Rattle.disk_records.specs.Addresses.{disks_of, cylinders_of}
use Rattle.disk_records.specs.Packs.{no_sector}
use Rattle.disk_records.specs.Tapes.{Taped}
use Rattle.disk_memory.specs.declared.error.NewError.{NewError}
use Rattle.disk_memory.specs.declared.error.NewError.TheVariants.{WrongCount, Memory}
use Rattle.disk_memory.specs.Making.{first_tape}
use Rattle.test_packs.specs.declared.sectors.Placed.{Placed}

-- a value that begins with these words; the others are 0
abbrev pub value_of : List ℕ → List ℕ
value_of front = front ++ replicate 253 0

-- a free sector after its right header: that of pack number 1 and of its real address among two cylinders
abbrev pub free_sector : ℕ → Sector
free_sector at = record {
  header = 1 ∷ (at % 12 * 4096 + at / 24 % 2 * 8 + at / 12 % 2 * 4 + at / 24 / 2 * 2) ∷ [];
  label = replicate 8 65535;
  value = replicate 256 65535;
}

-- the first ones of these
abbrev pub blank_sectors : ℕ → List Sector
blank_sectors zero = []
blank_sectors (suc count) = blank_sectors count ++ (free_sector count ∷ [])

-- the sectors with a page on one of them, and with each of these pages in turn
abbrev pub placed_on : Placed → List Sector → List Sector
placed_on page sectors = set sectors page.at (record (get_or sectors page.at no_sector) { label = page.label; value = value_of page.front })

abbrev pub placed_all : List Placed → List Sector → List Sector
placed_all [] sectors = sectors
placed_all (page ∷ pages) sectors = placed_all pages (placed_on page sectors)

-- a machine over one drive of two cylinders before its first call
pub record IsOver (sectors : List Sector) (keys : List ℕ) (t : Taped) : Type 0 where
  pub disks : disks_of t.form ≡ 1
  pub cylinders : cylinders_of t.form ≡ 2
  pub tape : t ≡ first_tape t.form sectors keys

-- why there is none over so many sectors; out of memory may always come
abbrev pub IsErrorOf : ℕ → NewError → Type 0
IsErrorOf count (WrongCount wanted got) = (wanted ≡ 48) × (got ≡ count) × (count ≢ 48)
IsErrorOf count Memory = ⊤
