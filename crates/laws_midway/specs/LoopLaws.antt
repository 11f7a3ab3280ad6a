-- What stays known of the sectors to come midway in a call's own loop.
use Rattle.std.specs.Prelude.{All, List, Some, drop, length, take, true, ℕ, ◌+◌, ◌≡◌, ◌≢◌, ◌≤◌}
use Rattle.laws_hint.specs.alto_words.specs.declared.fid.Fid.{Fid}
use Rattle.laws_hint.specs.disk_records.specs.Commands.{relabel_writes}
use Rattle.laws_hint.specs.disk_records.specs.Packs.{Pack, after, carried, is_free_at, sector_at}
use Rattle.laws_hint.specs.disk_records.specs.declared.records.Event.{Event}
use Rattle.laws_hint.specs.disk_records.specs.declared.records.Page.{Page}
use Rattle.laws_hint.specs.MapMeanings.{HasEachSector}
use Rattle.laws_hint.specs.laws_operation.specs.ByteLaws.{Bear}
use Rattle.laws_hint.specs.pack_model.specs.operations.Commands.{Claim, all_claimed, claims_writes, releases_writes, sectors_of}
use Rattle.laws_hint.specs.pack_model.specs.reading.Sights.{sights}

-- ---- releases, and claims
-- the sector is none of these
abbrev pub IsApart : ℕ → List ℕ → Type 0
IsApart i ats = All (λ at. i ≢ at) ats

-- on any pack releases leave each sector that isn't one of theirs
abbrev pub ReleasesLeaveOtherSectors : Type 0
ReleasesLeaveOtherSectors = (p : Pack) (ats : List ℕ) (i : ℕ) → IsApart i ats → sector_at (after p (releases_writes ats)) i ≡ sector_at p i

-- on any pack, once the first k pages of a row that begins with page n are released, the rest bear theirs still
abbrev pub ReleasesLeaveTheRest : Type 0
ReleasesLeaveTheRest = (p : Pack) (f : Fid) (n k : ℕ) (pages : List ℕ) → Bear (sights p) f n pages → k ≤ length pages → Bear (sights (after p (releases_writes (take k pages)))) f (n + k) (drop k pages)

-- on any pack claims leave each sector that isn't one of theirs
abbrev pub ClaimsLeaveOtherSectors : Type 0
ClaimsLeaveOtherSectors = (p : Pack) (claims : List Claim) (i : ℕ) → IsApart i (sectors_of (all_claimed claims)) → sector_at (after p (claims_writes claims)) i ≡ sector_at p i

-- on any pack a sector that carries a page is none of free ones
abbrev pub CarriedIsApartFromFree : Type 0
CarriedIsApartFromFree = (p : Pack) (at : ℕ) (page : Page) (ats : List ℕ) → carried p at ≡ Some page → All (λ i. is_free_at p i ≡ true) ats → IsApart at ats

-- and carries it still after claims of these
abbrev pub ClaimsLeaveCarriedPages : Type 0
ClaimsLeaveCarriedPages = (p : Pack) (claims : List Claim) (at : ℕ) (page : Page) → carried p at ≡ Some page → All (λ i. is_free_at p i ≡ true) (sectors_of (all_claimed claims)) → carried (after p (claims_writes claims)) at ≡ Some page

-- and another label with a value leaves each other sector
abbrev pub RelabelLeavesOtherSectors : Type 0
RelabelLeavesOtherSectors = (p : Pack) (at i : ℕ) (label value : List ℕ) → i ≢ at → sector_at (after p (relabel_writes at label value)) i ≡ sector_at p i

-- ---- any events
-- a pack with a sector for each address of its shape has one after them
abbrev pub EachSectorStays : Type 0
EachSectorStays = (p : Pack) (events : List Event) → HasEachSector p → HasEachSector (after p events)
