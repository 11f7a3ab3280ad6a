-- A pack that is scavengeable isn't refused, and the other way.
use Rattle.std.proofs.Common.{◌≡◌, ◌≤◌, ℕ, Bool, true, false, cond, not, nat_le, List, get_or, Option, None, Some, refl, arith, le-leb}
use Rattle.std.proofs.lemmas.Bool.Decides.{nat_tests}
use Rattle.laws_operation.specs.disk_records.specs.Packs.{sector_at}
use Rattle.laws_operation.specs.disk_records.specs.declared.shape.Shape.{Shape}
use Rattle.laws_operation.specs.pack_model.specs.reading.Sights.{Sight, sights}
use Rattle.laws_operation.specs.pack_model.specs.reading.Sights.Sight.{hidden, free, stray, leads, holds}
use Rattle.laws_operation.specs.pack_model.specs.scavenger.Needed.{needed}
use Rattle.laws_operation.specs.pack_model.specs.scavenger.Scavenging.{Refusal, root_stands}
use Rattle.laws_operation.specs.pack_model.specs.scavenger.Scavenging.Refusal.{root_bad, root_taken, pack_full}
use Rattle.laws_operation.specs.pack_model.specs.states.InUse.{available, is_good}
use Rattle.laws_room.specs.RoomLaws.{ScavengeableIsUnrefused}

-- sector 1 has a right header if it may become SysDir's leader
good_root : (shape : Shape) (ss : List Sight) (s : Sight) → root_stands shape ss s ≡ true → is_good s ≡ true
good_root shape ss hidden stands = cc
good_root shape ss free stands = refl
good_root shape ss stray stands = refl
good_root shape ss (leads f readable l) stands = refl
good_root shape ss (holds f n bytes) stands = refl

-- three tests, one after another
abbrev first_of : (good stands room : Bool) → Refusal → Refusal → Refusal → Option Refusal
first_of good stands room one two three = cond (not good) (Some one) (cond (not stands) (Some two) (cond room None (Some three)))

none_of : (good stands room : Bool) (one two three : Refusal) → good ≡ true → stands ≡ true → room ≡ true → first_of good stands room one two three ≡ None
none_of true true true one two three good stands room = refl
none_of true true false one two three good stands room = cc
none_of true false room one two three good stands more = cc
none_of false stands room one two three good more most = cc

passed : (good stands room : Bool) (one two three : Refusal) → first_of good stands room one two three ≡ None → (stands ≡ true) × (room ≡ true)
passed true true true one two three none = (refl, refl)
passed true true false one two three none = absurd cc
passed true false room one two three none = absurd cc
passed false stands room one two three none = absurd cc

within : (least most : ℕ) → nat_le least most ≡ true → least ≤ most
within least most is = grind (arith, nat_tests, is)

pub scavengeable_is_unrefused : ScavengeableIsUnrefused
scavengeable_is_unrefused p =
    let ss : List Sight = sights p in
    let first : Sight = get_or ss 1 hidden in
    let least : ℕ = needed p.shape ss in
    let most : ℕ = available p.shape ss in
    let bad : Refusal = root_bad (sector_at p 1).header in
    let taken : Refusal = root_taken (sector_at p 1).label in
    let full : Refusal = pack_full least most in (
      λ may. none_of (is_good first) (root_stands p.shape ss first) (nat_le least most) bad taken full (good_root p.shape ss first may.root) may.root (le-leb least most may.room),
      λ none. let both = passed (is_good first) (root_stands p.shape ss first) (nat_le least most) bad taken full none in record { root = both.0; room = within least most both.1 },
    )
