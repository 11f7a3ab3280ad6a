-- Free sectors after the record writes of operations, on any pack.
use Rattle.std.specs.Prelude.{All, List, Some, [], true, ℕ, ◌∷◌, ◌≡◌, ◌≢◌}
use Rattle.laws_contents.specs.alto_words.specs.declared.fid.Fid.{Fid}
use Rattle.laws_contents.specs.disk_records.specs.Packs.{Pack, after, is_free_at}
use Rattle.laws_contents.specs.disk_records.specs.declared.records.Event.{Event}
use Rattle.laws_contents.specs.pack_model.specs.operations.Commands.{claims_writes, Claim, all_claimed, releases_writes, sectors_of, values_writes}
use Rattle.laws_contents.specs.pack_model.specs.reading.Files.{place}
use Rattle.laws_contents.specs.pack_model.specs.operations.Operations.{cut_writes, drop_writes, enter_writes, release_file_writes, grow_writes, make_writes}
use Rattle.laws_contents.specs.pack_model.specs.reading.Sights.{sights}
use Rattle.laws_operation.specs.ByteLaws.{Bear}

-- each sector that was free, and is none of these, is free still
abbrev pub StayFreeBut : List ℕ → Pack → List Event → Type 0
StayFreeBut claimed p events = (i : ℕ) → is_free_at p i ≡ true → All (λ at. i ≢ at) claimed → is_free_at (after p events) i ≡ true

-- each sector that was free is free still
abbrev pub StayFree : Pack → List Event → Type 0
StayFree p events = (i : ℕ) → is_free_at p i ≡ true → is_free_at (after p events) i ≡ true

-- those sectors are free that were, and no others
abbrev pub SameFree : Pack → List Event → Type 0
SameFree p events = (i : ℕ) → is_free_at (after p events) i ≡ is_free_at p i

-- ---- values
-- after any values the same sectors are free: after a put, a title, a stamp, a leaving, a freed slot, a new serial, the mark, closing
abbrev pub ValuesLeaveFreeSectors : Type 0
ValuesLeaveFreeSectors = (p : Pack) (values : List (ℕ × List ℕ)) → SameFree p (values_writes values)

-- after the values of an entering the same sectors are free
abbrev pub EnterLeavesFreeSectors : Type 0
EnterLeavesFreeSectors = (p : Pack) (before : List (ℕ × List ℕ)) (at : ℕ) (value : List ℕ) → SameFree p (enter_writes before at value)

-- ---- claims
-- after claims, of whatever sectors, each sector that was free, except those that they claim, is free still: so between the claims of an
-- operation
abbrev pub ClaimsKeepUnclaimedFree : Type 0
ClaimsKeepUnclaimedFree = (p : Pack) (claims : List Claim) → StayFreeBut (sectors_of (all_claimed claims)) p (claims_writes claims)

-- after a make each sector that was free, but the two that it claims, is free still
abbrev pub MakeKeepsUnclaimedFree : Type 0
MakeKeepsUnclaimedFree = (p : Pack) (page leader : Claim) → StayFreeBut (page.at ∷ leader.at ∷ []) p (make_writes page leader)

-- after a growth or a widening each sector that was free, but those that it claims, is free still; the sector that gets another label bears
-- a page
abbrev pub GrowKeepsUnclaimedFree : Type 0
GrowKeepsUnclaimedFree = (p : Pack) (f : Fid) (n : ℕ) (claims : List Claim) (at : ℕ) (label value : List ℕ) → place (sights p) f n ≡ Some at → StayFreeBut (sectors_of (all_claimed claims)) p (grow_writes claims at label value)

-- ---- releases
-- after a cut each sector that was free is free still; the sector that gets another label bears a page
abbrev pub CutTakesNoSector : Type 0
CutTakesNoSector = (p : Pack) (f : Fid) (n at : ℕ) (label value later : List ℕ) → place (sights p) f n ≡ Some at → StayFree p (cut_writes at label value later)

-- after a drop, of whatever sectors, each sector that was free is free still
abbrev pub DropTakesNoSector : Type 0
DropTakesNoSector = (p : Pack) (at : ℕ) (pages : List ℕ) (slot_at : ℕ) (value : List ℕ) → StayFree p (drop_writes at pages slot_at value)

-- after the releases of a drop, before the value in which its entry's slot is free, each sector that was free is free still
abbrev pub ReleaseTakesNoSector : Type 0
ReleaseTakesNoSector = (p : Pack) (at : ℕ) (pages : List ℕ) → StayFree p (release_file_writes at pages)

-- all of these sectors are free after the record writes
abbrev pub FreeThen : Pack → List Event → List ℕ → Type 0
FreeThen p events ats = All (λ i. is_free_at (after p events) i ≡ true) ats

-- the sectors that bear pages of a file in a row are free once they are released, as its leader and data pages are in a drop
abbrev pub ReleaseFreesItsPages : Type 0
ReleaseFreesItsPages = (p : Pack) (f : Fid) (n : ℕ) (pages : List ℕ) → Bear (sights p) f n pages → FreeThen p (releases_writes pages) pages

-- the sectors that bear a file's leader and its first data pages are free after a drop that releases them
abbrev pub DropFreesItsPages : Type 0
DropFreesItsPages = (p : Pack) (f : Fid) (at : ℕ) (pages : List ℕ) (slot_at : ℕ) (value : List ℕ) → Bear (sights p) f 0 (at ∷ pages) → FreeThen p (drop_writes at pages slot_at value) (at ∷ pages)

-- the sectors that bear pages of a file in a row are free after a cut that releases them
abbrev pub CutFreesItsPages : Type 0
CutFreesItsPages = (p : Pack) (f : Fid) (n at : ℕ) (label value later : List ℕ) → Bear (sights p) f n later → FreeThen p (cut_writes at label value later) later
