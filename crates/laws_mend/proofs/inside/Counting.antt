-- Free and available sectors, one by one.
use Rattle.std.proofs.Common.{◌≡◌, ◌+◌, ◌∷◌, Bool, List, [], ap, arith, false, get_or, inl, inr, not, refl, subst, suc, true, ℕ}
use Rattle.std.specs.Prelude.{◌&&◌, ◌⊎◌}
use Rattle.laws_room.specs.disk_records.specs.declared.shape.Shape.{Shape}
use Rattle.laws_room.specs.pack_model.specs.reading.Files.{numbered}
use Rattle.laws_room.specs.pack_model.specs.reading.Sights.{Sight, sights}
use Rattle.laws_room.specs.pack_model.specs.reading.Sights.Sight.{hidden, free, stray, leads, holds}
use Rattle.laws_room.specs.pack_model.specs.scavenger.Reports.{freed_sectors}
use Rattle.laws_room.specs.pack_model.specs.states.InUse.{available, how_many, in_use, is_available, is_free_sight, is_good, one_if}
use Rattle.laws_mend.specs.NumberLaws.{FreedAndFree, UsedAvailableIsFree}

-- the sector is available and not free
abbrev pub goes : Shape → List Sight → ℕ × Sight → Bool
goes shape ss e = is_available shape ss e && not (is_free_sight e.1)

-- ---- one sector

-- an available sector is free, or it goes
one_splits : (shape : Shape) (ss : List Sight) (at : ℕ) (s : Sight) → one_if (goes shape ss (at, s)) + one_if (is_free_sight s) ≡ one_if (is_available shape ss (at, s))
one_splits shape ss at hidden = refl
one_splits shape ss at free = refl
one_splits shape ss at stray = refl
one_splits shape ss at (leads f r l) = by (not (in_use shape ss (at, leads f r l)))
  where
    by : (b : Bool) → one_if (b && true) + 0 ≡ one_if b
    by false = refl
    by true = refl
one_splits shape ss at (holds f n bytes) = by (not (in_use shape ss (at, holds f n bytes)))
  where
    by : (b : Bool) → one_if (b && true) + 0 ≡ one_if b
    by false = refl
    by true = refl

-- ---- all of them
all_split : (shape : Shape) (ss : List Sight) (at : ℕ) (xs : List Sight) → how_many (goes shape ss) (numbered at xs) + how_many is_free_sight xs ≡ how_many (is_available shape ss) (numbered at xs)
all_split shape ss at [] = refl
all_split shape ss at (x ∷ xs) = (let here = one_splits shape ss at x in let later = all_split shape ss (suc at) xs in omega arith)

pub freed_and_free : FreedAndFree
unfolding available
freed_and_free p = all_split p.shape (sights p) 0 (sights p)

-- ---- where each good sector is free or in use
none_pass : (test : ℕ × Sight → Bool) (at : ℕ) (xs : List Sight) → ((i k : ℕ) → k ≡ at + i → test (k, get_or xs i hidden) ≡ false) → how_many test (numbered at xs) ≡ 0
none_pass test at [] h = refl
none_pass test at (x ∷ xs) h =
    let here : one_if (test (at, x)) ≡ 0 = ap one_if (h 0 at (omega arith)) in
    let later : how_many test (numbered (suc at) xs) ≡ 0 = none_pass test (suc at) xs (λ i k e. h (suc i) k (omega arith)) in
    omega arith

stays : (shape : Shape) (ss : List Sight) (i : ℕ) (s : Sight) → (is_good s ≡ true → (s ≡ free) ⊎ (in_use shape ss (i, s) ≡ true)) → goes shape ss (i, s) ≡ false
stays shape ss i hidden h = refl
stays shape ss i free h = refl
stays shape ss i stray h = elim (h refl) [ inl e ↦ cc | inr e ↦ cc ]
stays shape ss i (leads f r l) h = elim (h refl) [ inl e ↦ cc | inr e ↦ ap (λ b. (true && not b) && true) e ]
stays shape ss i (holds f n bytes) h = elim (h refl) [ inl e ↦ cc | inr e ↦ ap (λ b. (true && not b) && true) e ]

pub used_available_is_free : UsedAvailableIsFree
used_available_is_free p used =
    let each : (i k : ℕ) → k ≡ 0 + i → goes p.shape (sights p) (k, get_or (sights p) i hidden) ≡ false =
    λ i k e. subst (λ j. goes p.shape (sights p) (j, get_or (sights p) i hidden) ≡ false) (omega arith) (stays p.shape (sights p) i (get_or (sights p) i hidden) (used.used i)) in
    let none : freed_sectors p.shape (sights p) ≡ 0 = none_pass (goes p.shape (sights p)) 0 (sights p) each in
    let both = freed_and_free p in
    omega arith
