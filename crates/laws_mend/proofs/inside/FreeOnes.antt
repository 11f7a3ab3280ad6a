-- Sectors that are needed are free.
use Rattle.std.proofs.Common.{◌∙◌, ◌≡◌, ◌<◌, ◌≤◌, ◌∷◌, List, [], ap, arith, cond, false, get_or, refl, suc, true, zero, ℕ}
use Rattle.laws_room.specs.disk_records.specs.Labels.{is_free, tag}
use Rattle.laws_room.specs.disk_records.specs.Packs.{Pack, is_free_at, sector_at}
use Rattle.laws_room.specs.pack_model.specs.reading.Model.{good_one}
use Rattle.laws_room.specs.pack_model.specs.reading.Sights.{Sight, sights}
use Rattle.laws_room.specs.pack_model.specs.reading.Sights.Sight.{hidden, free, stray, leads, holds}
use Rattle.laws_room.specs.pack_model.specs.states.InUse.{how_many, is_free_sight}
use Rattle.laws_room.specs.laws_operation.proofs.Showing.{free_is, usable_is}
use Rattle.laws_mend.proofs.inside.Counting.{used_available_is_free}
use Rattle.laws_mend.specs.NumberLaws.{NeededIsFree, TwoNeededAreFree}

-- what is shown as free is free
pub shown_free : (p : Pack) (at : ℕ) → get_or (sights p) at hidden ≡ free → is_free_at p at ≡ true
shown_free p at is = ap (λ b. cond b (is_free (tag (sector_at p at).label)) false) (usable_is p at (ap good_one is)) ∙ free_is p at is

-- ---- one free sight, and two
pub some_free : (xs : List Sight) → 0 < how_many is_free_sight xs → (i : ℕ) × (get_or xs i hidden ≡ free)
some_free [] h = absurd (omega arith)
some_free (hidden ∷ xs) h = let r = some_free xs (omega arith) in (suc r.0, r.1)
some_free (free ∷ xs) h = (0, refl)
some_free (stray ∷ xs) h = let r = some_free xs (omega arith) in (suc r.0, r.1)
some_free (leads f b l ∷ xs) h = let r = some_free xs (omega arith) in (suc r.0, r.1)
some_free (holds f n bytes ∷ xs) h = let r = some_free xs (omega arith) in (suc r.0, r.1)

two_free : (xs : List Sight) → 2 ≤ how_many is_free_sight xs → (i : ℕ) × (j : ℕ) × (i < j) × (get_or xs i hidden ≡ free) × (get_or xs j hidden ≡ free)
two_free [] h = absurd (omega arith)
two_free (hidden ∷ xs) h = let r = two_free xs (omega arith) in (suc r.0, suc r.1, omega arith, r.3, r.4)
two_free (free ∷ xs) h = let r = some_free xs (omega arith) in (0, suc r.0, omega arith, refl, r.1)
two_free (stray ∷ xs) h = let r = two_free xs (omega arith) in (suc r.0, suc r.1, omega arith, r.3, r.4)
two_free (leads f b l ∷ xs) h = let r = two_free xs (omega arith) in (suc r.0, suc r.1, omega arith, r.3, r.4)
two_free (holds f n bytes ∷ xs) h = let r = two_free xs (omega arith) in (suc r.0, suc r.1, omega arith, r.3, r.4)

-- ---- the laws
pub needed_is_free : NeededIsFree
needed_is_free p used s some =
    let same = used_available_is_free p used in
    let room = s.room in
    let many : 0 < how_many is_free_sight (sights p) = omega arith in
    let r = some_free (sights p) many in
    (r.0, shown_free p r.0 r.1)

-- sector 0 is never free
not_first : (p : Pack) → is_free_at p 0 ≡ true → ⊥
not_first p e = cc

pub two_needed_are_free : TwoNeededAreFree
two_needed_are_free p used s some =
    let same = used_available_is_free p used in
    let room = s.room in
    let many : 2 ≤ how_many is_free_sight (sights p) = omega arith in
    let r = two_free (sights p) many in
    (r.1, after_first r.0 r.1 r.2 (shown_free p r.0 r.3), shown_free p r.1 r.4)
  where
    after_first : (i j : ℕ) → i < j → is_free_at p i ≡ true → 2 ≤ j
    after_first zero j less first = absurd (not_first p first)
    after_first (suc i) j less first = omega arith
