-- What the record writes of the guarded sector commands mean, at each place where they may be crash: who carries which page, what is
-- free, what the sectors show, and which words they hold, links and bytes after the count among them. The crash before the first
-- write is the pack itself.
use Rattle.std.specs.Prelude.{◌≡◌, ◌≢◌, ℕ, ◌<◌, ◌≤◌, Bool, true, false, cond, nat_lt, List, set, Option, Some, None}
use Rattle.pack_model.specs.disk_records.specs.declared.records.Page.{Page}
use Rattle.pack_model.specs.disk_records.specs.declared.records.Sector.{Sector}
use Rattle.pack_model.specs.disk_records.specs.Commands.{value_writes, relabel_writes, claim_writes, release_writes, ones}
use Rattle.pack_model.specs.disk_records.specs.Labels.{tag, page_of}
use Rattle.pack_model.specs.disk_records.specs.Packs.{Pack, crash, sector_at, carried, is_free_at}
use Rattle.pack_model.specs.reading.Sights.{Sight, page_sight, sights}
use Rattle.pack_model.specs.reading.Sights.Sight.{free}

-- a sector with another label and another value after its header
abbrev pub with_words : Sector → List ℕ → List ℕ → Sector
with_words s label value = record s { label = label; value = value }

-- every sector carries what it carried, is free where it was, and shows what it showed; other words may stand at this address
-- alone
pub record LooksSame (at : ℕ) (p q : Pack) : Type 0 where
  pub pages : (i : ℕ) → carried q i ≡ carried p i
  pub frees : (i : ℕ) → is_free_at q i ≡ is_free_at p i
  pub shown : sights q ≡ sights p
  pub others : (i : ℕ) → i ≢ at → sector_at q i ≡ sector_at p i

-- one sector carries this now, is free or not, shows this, and holds these words; every other is as before, word by word
pub record ChangesOne (at : ℕ) (page : Option Page) (is_free : Bool) (sight : Sight) (sector : Sector) (p q : Pack) : Type 0 where
  pub page_here : carried q at ≡ page
  pub free_here : is_free_at q at ≡ is_free
  pub pages : (i : ℕ) → i ≢ at → carried q i ≡ carried p i
  pub frees : (i : ℕ) → i ≢ at → is_free_at q i ≡ is_free_at p i
  pub shown : sights q ≡ set (sights p) at sight
  pub here : sector_at q at ≡ sector
  pub others : (i : ℕ) → i ≢ at → sector_at q i ≡ sector_at p i

-- One sector carries this page now, with the bytes that this label counts of this value: after its header, which stays, it holds
-- this label and this value.
abbrev pub ComesToHold : ℕ → Page → List ℕ → List ℕ → Pack → Pack → Type 0
ComesToHold at page label value p q = ChangesOne at (Some page) false (page_sight page.fid page.number (tag label).bytes value) (with_words (sector_at p at) label value) p q

-- A value write: the same page, and other bytes.
abbrev pub ValueWritesKeepThePage : Type 0
ValueWritesKeepThePage = (p : Pack) (at : ℕ) (page : Page) (value : List ℕ) (k : ℕ) → carried p at ≡ Some page → 0 < k → ComesToHold at page (sector_at p at).label value p (crash p (value_writes at value) k)

-- Another label for the same page, and the value that stands there: the same page at both crash points, with as many bytes as the label
-- says.
abbrev pub RelabelKeepsThePage : Type 0
RelabelKeepsThePage = (p : Pack) (at : ℕ) (page : Page) (label : List ℕ) (k : ℕ) → carried p at ≡ Some page → page_of label ≡ Some page → 0 < k → ComesToHold at page label (sector_at p at).value p (crash p (relabel_writes at label (sector_at p at).value) k)

-- Taking a free sector: nothing looks different until the label is written, though the value stands there before, and from then
-- on the sector carries the page.
pub record TakesAtTheLabel (p : Pack) (at : ℕ) (page : Page) (label value : List ℕ) (k : ℕ) : Type 0 where
  pub before : k ≤ 1 → LooksSame at p (crash p (claim_writes at label value) k)
  pub filled : k ≡ 1 → sector_at (crash p (claim_writes at label value) k) at ≡ with_words (sector_at p at) (sector_at p at).label value
  pub taken : 2 ≤ k → ComesToHold at page label value p (crash p (claim_writes at label value) k)

abbrev pub ClaimTakesAtTheLabel : Type 0
ClaimTakesAtTheLabel = (p : Pack) (at : ℕ) (page : Page) (label value : List ℕ) (k : ℕ) → is_free_at p at ≡ true → page_of label ≡ Some page → TakesAtTheLabel p at page label value k

-- A sector that is made free: it holds ones for a label from the first write on, and ones for a value from the second.
abbrev pub released : Sector → ℕ → Sector
released s k = with_words s (ones 8) (cond (nat_lt k 2) s.value (ones 256))

-- Making a sector free: it is free from the label on.
abbrev pub ReleaseFreesAtTheLabel : Type 0
ReleaseFreesAtTheLabel = (p : Pack) (at : ℕ) (page : Page) (k : ℕ) → carried p at ≡ Some page → 0 < k → ChangesOne at None true free (released (sector_at p at) k) p (crash p (release_writes at) k)
