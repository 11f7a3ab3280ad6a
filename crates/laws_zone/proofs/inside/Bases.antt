-- The bases of levels, at which a zone may end.
use Rattle.std.proofs.Common.{◌≡◌, ◌≤◌, ◌<◌, ℕ, zero, suc, List, refl, subst, take, arith}
use Rattle.std.proofs.lemmas.List.{take-take}
use Rattle.std.proofs.lemmas.List.Sums.{sum_by-take-le}
use Rattle.std.specs.Prelude.{sum_by}
use Rattle.world_model.specs.Levels.{all_levels, level_base, level_words}
use Rattle.world_model.specs.ZoneWords.{tag_size}
use Rattle.laws_zone.specs.LevelLaws.{BasesAreWithin, BasesEndZones, BasesFall}

takes_more : (a b : ℕ) (l : List ℕ) → a ≤ b → sum_by (λ n. n) (take a l) ≤ sum_by (λ n. n) (take b l)
takes_more a b l less = subst (λ (k : List ℕ). sum_by (λ n. n) k ≤ sum_by (λ n. n) (take b l)) (take-take a b l less) (sum_by-take-le (λ n. n) (take b l) a)

-- a higher level has a lower base
pub base_falls : (a b : ℕ) → a ≤ b → level_base b ≤ level_base a
unfolding level_base
base_falls a b less = let more = takes_more a b level_words less in omega (arith, more)

pub base_even : (level : ℕ) → level ≤ all_levels → tag_size (level_base level) ≡ level_base level
unfolding level_base
base_even zero most = refl
base_even (suc zero) most = refl
base_even (suc (suc zero)) most = refl
base_even (suc (suc (suc zero))) most = refl
base_even (suc (suc (suc (suc zero)))) most = refl
base_even (suc (suc (suc (suc (suc zero))))) most = refl
base_even (suc (suc (suc (suc (suc (suc zero)))))) most = refl
base_even (suc (suc (suc (suc (suc (suc (suc zero))))))) most = refl
base_even (suc (suc (suc (suc (suc (suc (suc (suc zero)))))))) most = refl
base_even (suc (suc (suc (suc (suc (suc (suc (suc (suc n))))))))) most = let all : all_levels ≡ 8 = refl in absurd (omega (arith, most, all))

pub bases_are_within : BasesAreWithin
unfolding level_base
bases_are_within level = omega arith

eight : level_base all_levels ≡ 40960
unfolding level_base
eight = refl

pub bases_end_zones : BasesEndZones
bases_end_zones level most =
    let falls = base_falls level all_levels most in
    let low = eight in
    record { after = omega (arith, falls, low); even = base_even level most; most = bases_are_within level }

-- ---- one level after another
falls_one : (level : ℕ) → level < all_levels → level_base (suc level) < level_base level
unfolding level_base
falls_one zero l = let e : level_base 0 ≡ 65536 = refl in let f : level_base 1 ≡ 64512 = refl in omega (arith, e, f)
falls_one (suc zero) l = let e : level_base 1 ≡ 64512 = refl in let f : level_base 2 ≡ 63488 = refl in omega (arith, e, f)
falls_one (suc (suc zero)) l = let e : level_base 2 ≡ 63488 = refl in let f : level_base 3 ≡ 61440 = refl in omega (arith, e, f)
falls_one (suc (suc (suc zero))) l = let e : level_base 3 ≡ 61440 = refl in let f : level_base 4 ≡ 57344 = refl in omega (arith, e, f)
falls_one (suc (suc (suc (suc zero)))) l = let e : level_base 4 ≡ 57344 = refl in let f : level_base 5 ≡ 53248 = refl in omega (arith, e, f)
falls_one (suc (suc (suc (suc (suc zero))))) l = let e : level_base 5 ≡ 53248 = refl in let f : level_base 6 ≡ 49152 = refl in omega (arith, e, f)
falls_one (suc (suc (suc (suc (suc (suc zero)))))) l = let e : level_base 6 ≡ 49152 = refl in let f : level_base 7 ≡ 45056 = refl in omega (arith, e, f)
falls_one (suc (suc (suc (suc (suc (suc (suc zero))))))) l = let e : level_base 7 ≡ 45056 = refl in let f : level_base 8 ≡ 40960 = refl in omega (arith, e, f)
falls_one (suc (suc (suc (suc (suc (suc (suc (suc n)))))))) l = let all : all_levels ≡ 8 = refl in absurd (omega (arith, l, all))

pub bases_fall : BasesFall
bases_fall low high less most =
    let one = falls_one low (omega (arith, less, most)) in
    let more = base_falls (suc low) high (omega (arith, less)) in
    omega (arith, one, more)
