-- One page is given its links and its name, and so all pages of a pass are.
use Rattle.std.specs.Prelude.{◌≡◌, ◌≢◌, ℕ, true, Bool, List, get_or, length, Option, Some, None}
use Rattle.std.specs.Option.{option_map}
use Rattle.alto_words.specs.declared.fid.Fid.{Fid}
use Rattle.disk_records.specs.declared.records.Page.{Page}
use Rattle.disk_records.specs.Packs.{Pack, carried, sector_at}
use Rattle.pack_model.specs.hints.Links.{HasLinks, next_link, previous_link}
use Rattle.pack_model.specs.reading.Files.{place}
use Rattle.pack_model.specs.reading.Leaders.{Leader}
use Rattle.pack_model.specs.reading.Sights.{sights}
use Rattle.pack_model.specs.reading.Sights.Sight.{hidden, leads}
use Rattle.scav_table.specs.declared.row.Row.{Row}
use Rattle.scav_table.specs.Laws.{IsFirstAbove, WritesAt}
use Rattle.scav_table.specs.Rows.{is_below, row_at}
use Rattle.scav_pages.specs.declared.links.Pending.{Pending}
use Rattle.scav_pages.specs.Walks.{AreWords}
use Rattle.laws_mend.specs.Parts.{Lasting}

-- the links are those that its page has to have
pub record MayMendPage (p : Pack) (page : Pending) (next : ℕ) : Type 0 where
  pub lasting : Lasting p
  pub carries : carried p page.row.at ≡ Some page.row.page
  pub next_is : next ≡ next_link p.shape (sights p) (get_or (sights p) page.row.at hidden)
  pub previous_is : page.previous ≡ previous_link p.shape (sights p) (get_or (sights p) page.row.at hidden)

-- one sector alone is written, and it carries the page before and after
pub record WritesPage (at : ℕ) (page : Page) (p q : Pack) : Type 0 where
  pub written : WritesAt at p q
  pub was : carried p at ≡ Some page
  pub carries : carried q at ≡ Some page

-- it has them, and every page stays where it is
pub record PageLinked (at : ℕ) (p q : Pack) (done : Unit {0}) : Type 0 where
  pub lasting : Lasting q
  pub places : (f : Fid) (n : ℕ) → place (sights q) f n ≡ place (sights p) f n
  pub links : HasLinks q at
  pub others : (i : ℕ) → i ≢ at → HasLinks p i → HasLinks q i
  pub shown : (i : ℕ) → i ≢ at → get_or (sights q) i hidden ≡ get_or (sights p) i hidden

-- a leader page with this value and true links
pub record MayName (p : Pack) (row : Row) (value : List ℕ) : Type 0 where
  pub lasting : Lasting p
  pub carries : carried p row.at ≡ Some row.page
  pub value_is : value ≡ (sector_at p row.at).value
  pub long : length value ≡ 256
  pub links : HasLinks p row.at

-- its links are true still, and its name can be read; every page stays where it is
pub record PageMended (at : ℕ) (p q : Pack) (done : Unit {0}) : Type 0 where
  pub lasting : Lasting q
  pub places : (f : Fid) (n : ℕ) → place (sights q) f n ≡ place (sights p) f n
  pub links : HasLinks q at
  pub others : (i : ℕ) → i ≢ at → HasLinks p i → HasLinks q i
  pub shown : (i : ℕ) → i ≢ at → get_or (sights q) i hidden ≡ get_or (sights p) i hidden
  pub name : (f : Fid) (readable : Bool) (l : Leader) → get_or (sights q) at hidden ≡ leads f readable l → readable ≡ true

-- ---- all pages
-- its links are true, and its name can be read, if it is a leader page
pub record IsMended (p : Pack) (at : ℕ) : Type 0 where
  pub links : HasLinks p at
  pub name : (f : Fid) (readable : Bool) (l : Leader) → get_or (sights p) at hidden ≡ leads f readable l → readable ≡ true

-- so it is with each row below the pending one, whose previous link is true
pub record MendedBelow (p : Pack) (pending : Pending) : Type 0 where
  pub lasting : Lasting p
  pub words : AreWords pending.row
  pub carries : carried p pending.row.at ≡ Some pending.row.page
  pub previous_is : pending.previous ≡ previous_link p.shape (sights p) (get_or (sights p) pending.row.at hidden)
  pub below : (at : ℕ) (r : Row) → row_at p at ≡ Some r → is_below r pending.row ≡ true → IsMended p at

-- before the first row none is pending
abbrev pub MendedTo : Pack → Option Pending → Type 0
MendedTo p None = Lasting p
MendedTo p (Some pending) = MendedBelow p pending

abbrev pub last_row : Option Pending → Option Row
last_row pending = option_map (λ x. x.row) pending

-- the next row is this one
pub record MayMeet (p : Pack) (pending : Option Pending) (row : Row) : Type 0 where
  pub mended : MendedTo p pending
  pub first : IsFirstAbove p (last_row pending) row
  pub words : AreWords row

-- and is pending
abbrev pub RowMet : Pack → Pack → Pending → Type 0
RowMet p q pending = MendedBelow q pending

-- the pending page is written, if there is one
abbrev pub WritesPending : Option Pending → Pack → Pack → Type 0
WritesPending None p q = q ≡ p
WritesPending (Some pending) p q = WritesPage pending.row.at pending.row.page p q
