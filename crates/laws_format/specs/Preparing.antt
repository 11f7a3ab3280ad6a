-- Preparing the second drive of a pack: its record writes, what each kind of them leaves on any pack, and what all of them leave.
use Rattle.std.specs.Prelude.{List, None, [], length, suc, true, zero, ℕ, ◌*◌, ◌+◌, ◌++◌, ◌<◌, ◌∷◌, ◌≡◌, ◌≤◌}
use Rattle.laws_hint.specs.disk_records.specs.Addresses.{cylinders_of, pages_of}
use Rattle.laws_hint.specs.disk_records.specs.Commands.{ones, release_writes}
use Rattle.laws_hint.specs.disk_records.specs.Labels.{is_free, tag}
use Rattle.laws_hint.specs.disk_records.specs.Packs.{Pack, after, carried, crash, is_free_at, sector_at}
use Rattle.laws_hint.specs.disk_records.specs.declared.records.Event.TheVariants.{Wrote}
use Rattle.laws_hint.specs.disk_records.specs.declared.records.Event.{Event}
use Rattle.laws_hint.specs.disk_records.specs.declared.records.Sector.{Sector}
use Rattle.laws_hint.specs.disk_records.specs.declared.shape.Shape.{Shape}
use Rattle.laws_format.specs.Writing.{headed}
use Rattle.laws_record.specs.QuietLaws.{Relation, with_value}
use Rattle.laws_hint.specs.pack_model.specs.sessions.Format.{sector_writes}
use Rattle.laws_hint.specs.pack_model.specs.showing.Settling.{show}

-- ---- kinds of record writes, on any pack
-- any value of a sector that carries no page
abbrev pub UnusedValue : Relation → Type 0
UnusedValue Kept = (p : Pack) (at : ℕ) (value : List ℕ) → carried p at ≡ None → Kept p (with_value p at value)

abbrev pub with_header : Pack → ℕ → List ℕ → Pack
with_header p at header = after p (Wrote at 0 header ∷ [])

-- any header of a sector with a free label: it may come to be right, and then it is one good sector more
abbrev pub FreeHeader : Relation → Type 0
FreeHeader Kept = (p : Pack) (at : ℕ) (header : List ℕ) → is_free (tag (sector_at p at).label) ≡ true → Kept p (with_header p at header)

-- ---- the record writes of preparing
-- the sectors of one drive, and so the first address of the second drive
abbrev pub drive_pages : Shape → ℕ
drive_pages shape = cylinders_of shape * 24

-- a free sector with the pack's number and its own real address
abbrev pub prepared_sector : Shape → ℕ → ℕ → Sector
prepared_sector shape number at = headed shape number at (ones 8, ones 256)

-- of one sector: its label and its value are made free under whatever header stands there, and then it is written whole
abbrev pub prepared_writes : Shape → ℕ → ℕ → List Event
prepared_writes shape number at = release_writes at ++ sector_writes at (prepared_sector shape number at)

-- of so many sectors, from an address on
abbrev pub preparing_writes : Shape → ℕ → ℕ → ℕ → List Event
preparing_writes shape number at zero = []
preparing_writes shape number at (suc n) = prepared_writes shape number at ++ preparing_writes shape number (suc at) n

-- of every sector of the second drive, rising
abbrev pub prepare_writes : Shape → ℕ → List Event
prepare_writes shape number = preparing_writes shape number (drive_pages shape) (drive_pages shape)

-- ---- what they leave
-- no sector of the second drive carries a page
abbrev pub HasUnusedDrive : Pack → Type 0
HasUnusedDrive p = (at : ℕ) → drive_pages p.shape ≤ at → at < pages_of p.shape → carried p at ≡ None

-- such a pack shows at each crash point what it showed before
abbrev pub PreparingShowsSame : Type 0
PreparingShowsSame = (p : Pack) (number k : ℕ) → p.shape.disks ≡ 2 → length p.sectors ≡ pages_of p.shape → HasUnusedDrive p → show (crash p (prepare_writes p.shape number) k) ≡ show p

-- Of q, which preparing leaves of p, no sector of the first drive has changed, and each of the second is free.
pub record IsPrepared (p q : Pack) : Type 0 where
  pub first : (at : ℕ) → at < drive_pages p.shape → sector_at q at ≡ sector_at p at
  pub frees : (at : ℕ) → drive_pages p.shape ≤ at → at < pages_of p.shape → is_free_at q at ≡ true

-- whatever stood there
abbrev pub PreparingFreesTheDrive : Type 0
PreparingFreesTheDrive = (p : Pack) (number : ℕ) → p.shape.disks ≡ 2 → length p.sectors ≡ pages_of p.shape → IsPrepared p (after p (prepare_writes p.shape number))

-- the record writes of some sectors and of the next one are those of one sector more
abbrev pub PreparingGoesOn : Type 0
PreparingGoesOn = (shape : Shape) (number at n next : ℕ) → next ≡ at + n → preparing_writes shape number at (suc n) ≡ preparing_writes shape number at n ++ prepared_writes shape number next
