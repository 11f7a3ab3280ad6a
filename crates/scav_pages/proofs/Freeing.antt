-- Sectors that aren't free, one after another.
use Rattle.std.proofs.Common.{◌≡◌, ℕ, ◌+◌, ◌<◌, ◌≤◌, ◌==◌, Bool, true, false, refl, sym, subst, arith}
use Rattle.std.proofs.lemmas.Bool.Decides.{nat_tests}
use Rattle.disk_records.specs.Packs.{Pack, is_free_at}

-- one sector more
pub none_more : (p : Pack) (from at : ℕ) → ((k : ℕ) → from ≤ k → k < at → is_free_at p k ≡ false) → is_free_at p at ≡ false → (k : ℕ) → from ≤ k → k < at + 1 → is_free_at p k ≡ false
none_more p from at so_far here k l m = by_test (k == at) refl
  where
    by_test : (t : Bool) → (k == at) ≡ t → is_free_at p k ≡ false
    by_test true e = let same : k ≡ at = grind (arith, nat_tests, e) in subst (λ n. is_free_at p n ≡ false) (sym same) here
    by_test false e = so_far k l (grind (arith, nat_tests, e))
