-- How many sector commands the pages of a directory take with any hints, one page after another.
use Rattle.std.proofs.Common.{Bool, Some, add-one, ap, arith, false, nat_lt, refl, true, ℕ, ◌+◌, ◌∙◌, ◌≡◌, ◌≤◌}
use Rattle.std.proofs.lemmas.Bool.Decides.{nat_tests}
use Rattle.alto_words.specs.declared.fid.Fid.{Fid}
use Rattle.disk_records.specs.Packs.{Pack, carried}
use Rattle.page_seeking.specs.Seeking.{page_number}
use Rattle.directory.specs.Found.{page_runs}

next_runs : (k : ℕ) → page_runs (k + 1) ≡ page_runs k + (k + 54)
next_runs k = ap page_runs (add-one k)

-- one page more was sought
pub one_page_more : {now new : ℕ} (old k : ℕ) → now ≤ old + page_runs k → new ≤ now + (k + 1 + 53) → new ≤ old + page_runs (k + 1)
one_page_more old k before one = let next = next_runs k in omega (arith, before, one, next)

-- or none
pub no_page_more : {now : ℕ} (old k : ℕ) → now ≤ old + page_runs k → now ≤ old + page_runs (k + 1)
no_page_more old k before = let next = next_runs k in omega (arith, before, next)

-- the pages up to the next one are carried
pub carries_next : (p : Pack) (d : Fid) (k at : ℕ) → carried p at ≡ Some (page_number d (k + 1)) → ((n : ℕ) → 1 ≤ n → n ≤ k → (at : ℕ) × (carried p at ≡ Some (page_number d n))) → (n : ℕ) → 1 ≤ n → n ≤ k + 1 → (at : ℕ) × (carried p at ≡ Some (page_number d n))
carries_next p d k at here before n some most = by (nat_lt k n) refl
  where
    by : (t : Bool) → nat_lt k n ≡ t → (at : ℕ) × (carried p at ≡ Some (page_number d n))
    by true last = let same : k + 1 ≡ n = grind (arith, nat_tests, most) in (at, here ∙ ap (λ m. Some (page_number d m)) same)
    by false low = before n some (grind (arith, nat_tests))
