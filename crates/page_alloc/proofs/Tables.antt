-- Tables of busy bits that are corrected.
use Rattle.std.proofs.Common.{◌≡◌, ◌≢◌, ℕ, zero, suc, ◌+◌, ◌<◌, ◌≤◌, ◌⊎◌, ◌&&◌, inl, inr, Bool, true, false, not, IsTrue, List, [], ◌∷◌, length, take, get_or, set, refl, sym, ◌∙◌, ap, subst, arith}
use Rattle.std.specs.Prelude.{All, Contains, nat_lt}
use Rattle.std.proofs.lemmas.List.Elements.{All-more, All-weaker, Contains-get_or}
use Rattle.disk_records.specs.Packs.{Pack, is_free_at}
use Rattle.disk_records.specs.Tapes.{Looks, Taped, pack}
use Rattle.hint_cache.specs.Bits.{busy_at}
use Rattle.page_alloc.specs.Free.{is_offered_free, IsCorrectedAt, IsCorrected, IsCorrectedBut}
use Rattle.page_alloc.specs.Inside.{IsCheckedAt, AreChecked}
use Rattle.disk_records.proofs.Looking.{looks_pack}
use Rattle.page_alloc.proofs.FreeLists.{lt-test, le-test}

pub corrected_twice : (p : Pack) (a b c : List Bool) → IsCorrected p a b → IsCorrected p b c → IsCorrected p a c
corrected_twice p a b c x y at = elim (y at) [
  | inl same ↦ elim (x at) [ inl before ↦ inl (same ∙ before) | inr told ↦ inr (same ∙ told) ]
  | inr told ↦ inr told
]

-- one bit is as its label says, and the others are as they were
pub corrected_here : (p : Pack) (a b : List Bool) (at : ℕ) → ((k : ℕ) → k ≢ at → busy_at b k ≡ busy_at a k) → busy_at b at ≡ not (is_free_at p at) → IsCorrected p a b
corrected_here p a b at others here k = by (nat_lt k at) (nat_lt at k) refl refl
  where
    by : (lower higher : Bool) → nat_lt k at ≡ lower → nat_lt at k ≡ higher → IsCorrectedAt p a b k
    by true higher low high = let below = lt-test k at low in inl (others k (omega (arith, below)))
    by false true low high = let above = lt-test at k high in inl (others k (omega (arith, above)))
    by false false low high =
        let x = le-test k at low in
        let y = le-test at k high in
        let same : at ≡ k = omega (arith, x, y) in
        inr (subst (λ (j : ℕ). busy_at b j ≡ not (is_free_at p j)) same here)

-- ---- bits that are set
set_here : (bits : List Bool) (at : ℕ) → busy_at (set bits at true) at ≡ true
set_here [] at = refl
set_here (x ∷ bits) zero = refl
set_here (x ∷ bits) (suc at) = set_here bits at

set_busy : (bits : List Bool) (at k : ℕ) → busy_at bits k ≡ true → busy_at (set bits at true) k ≡ true
set_busy [] at k is = is
set_busy (x ∷ bits) zero zero is = refl
set_busy (x ∷ bits) zero (suc k) is = is
set_busy (x ∷ bits) (suc at) zero is = is
set_busy (x ∷ bits) (suc at) (suc k) is = set_busy bits at k is

set_others : (bits : List Bool) (at k : ℕ) → (busy_at (set bits at true) k ≡ busy_at bits k) ⊎ (at ≡ k)
set_others [] at k = inl refl
set_others (x ∷ bits) zero zero = inr refl
set_others (x ∷ bits) zero (suc k) = inl refl
set_others (x ∷ bits) (suc at) zero = inl refl
set_others (x ∷ bits) (suc at) (suc k) = elim (set_others bits at k) [ inl same ↦ inl same | inr here ↦ inr (ap suc here) ]

-- one address more is marked
pub marked_busy : (bits : List Bool) (taken : List ℕ) (i : ℕ) → i < length taken → All (λ at. busy_at bits at ≡ true) (take i taken) → All (λ at. busy_at (set bits (get_or taken i 0) true) at ≡ true) (take (i + 1) taken)
marked_busy bits taken i h busy =
    let at = get_or taken i 0 in
    let P : ℕ → Type 0 = λ k. busy_at (set bits at true) k ≡ true in
    All-more P taken i 0 h (All-weaker (λ k. busy_at bits k ≡ true) P (λ k is. set_busy bits at k is) (take i taken) busy) (set_here bits at)

pub marked_others : (first bits : List Bool) (taken : List ℕ) (i : ℕ) → i < length taken → ((at : ℕ) → (busy_at bits at ≡ busy_at first at) ⊎ Contains taken at) → (at : ℕ) → (busy_at (set bits (get_or taken i 0) true) at ≡ busy_at first at) ⊎ Contains taken at
marked_others first bits taken i h others at =
    elim (set_others bits (get_or taken i 0) at) [
      | inl same ↦ elim (others at) [ inl before ↦ inl (same ∙ before) | inr is ↦ inr is ]
      | inr here ↦ inr (subst (Contains taken) here (Contains-get_or taken i 0 h))
    ]

-- a corrected table whose taken addresses are marked
pub corrected_but : (p : Pack) (taken : List ℕ) (a b c : List Bool) → IsCorrected p a b → ((at : ℕ) → (busy_at c at ≡ busy_at b at) ⊎ Contains taken at) → IsCorrectedBut p taken a c
corrected_but p taken a b c x y at =
    elim (y at) [
      | inl same ↦ elim (x at) [ inl before ↦ inl (inl (same ∙ before)) | inr told ↦ inl (inr (same ∙ told)) ]
      | inr is ↦ inr is
    ]

-- ---- after calls that write nothing
pub corrected_then : {told : Bool} {most : ℕ} {x y : Taped} (a b c : List Bool) → Looks told most x y → IsTrue told → IsCorrected (pack x) a b → IsCorrected (pack y) b c → IsCorrected (pack x) a c
corrected_then {told} {most} {x} {y} a b c looks t before now = corrected_twice (pack x) a b c before (subst (λ p. IsCorrected p b c) (looks_pack looks t) now)

pub free_then : {told : Bool} {most : ℕ} {x y : Taped} (at : ℕ) (free : Bool) → Looks told most x y → IsTrue told → free ≡ is_free_at (pack y) at → free ≡ is_free_at (pack x) at
free_then at free looks t is = is ∙ ap (λ p. is_free_at p at) (looks_pack looks t)

-- ---- offers whose labels have been looks at
-- what is checked stays so
pub checked_corrected : (p : Pack) (offers a b : List Bool) (end : ℕ) → AreChecked p offers a end → IsCorrected p a b → AreChecked p offers b end
checked_corrected p offers a b end checked x at first low free = elim (x at) [ inl same ↦ same ∙ checked at first low free | inr told ↦ told ]

-- one sector more
pub checked_more : (p : Pack) (offers now : List Bool) (end : ℕ) → AreChecked p offers now end → IsCheckedAt p offers now end → AreChecked p offers now (end + 1)
checked_more p offers now end checked here at first low free = by (nat_lt at end) refl
  where
    by : (inner : Bool) → nat_lt at end ≡ inner → busy_at now at ≡ not (is_free_at p at)
    by true e = checked at first (lt-test at end e) free
    by false e = let high = le-test at end e in let same : end ≡ at = omega (arith, low, high) in subst (λ k. busy_at offers k ≡ false → busy_at now k ≡ not (is_free_at p k)) same here free

-- after calls that write nothing
pub checked_then : {told : Bool} {most : ℕ} {x y : Taped} (offers a b : List Bool) (end : ℕ) → Looks told most x y → IsTrue told → AreChecked (pack x) offers a end → IsCorrected (pack x) a b → AreChecked (pack y) offers b end
checked_then {told} {most} {x} {y} offers a b end looks t checked corrected = subst (λ p. AreChecked p offers b end) (sym (looks_pack looks t)) (checked_corrected (pack x) offers a b end checked corrected)

-- sectors that aren't offered are passed over
pub checked_passed_over : (p : Pack) (offers now : List Bool) (from end : ℕ) → ((k : ℕ) → from ≤ k → k < end → busy_at offers k ≡ true) → AreChecked p offers now from → AreChecked p offers now end
checked_passed_over p offers now from end busy checked at first low free = by (nat_lt at from) refl
  where
    by : (inner : Bool) → nat_lt at from ≡ inner → busy_at now at ≡ not (is_free_at p at)
    by true e = checked at first (lt-test at from e) free
    by false e = let here : busy_at offers at ≡ true = busy at (le-test at from e) low in cc

-- the next offer, whose bit says by now what its label says
pub checked_step : (p : Pack) (offers a b : List Bool) (from at : ℕ) → ((k : ℕ) → from ≤ k → k < at → busy_at offers k ≡ true) → AreChecked p offers a from → ((k : ℕ) → k ≢ at → busy_at b k ≡ busy_at a k) → busy_at b at ≡ not (is_free_at p at) → AreChecked p offers b (at + 1)
checked_step p offers a b from at busy checked others here =
    let so_far = checked_corrected p offers a b at (checked_passed_over p offers a from at busy checked) (corrected_here p a b at others here) in
    checked_more p offers b at so_far (λ free. here)

with_true : (b : Bool) → b ≡ b && true
with_true true = refl
with_true false = refl

pub offer_then : {told : Bool} {most : ℕ} {x y : Taped} (offers : List Bool) (at : ℕ) (free : Bool) → Looks told most x y → IsTrue told → busy_at offers at ≡ false → free ≡ is_free_at (pack y) at → free ≡ is_offered_free (pack x) offers at
offer_then {told} {most} {x} {y} offers at free looks t offered is = is ∙ ap (λ p. is_free_at p at) (looks_pack looks t) ∙ with_true (is_free_at (pack x) at) ∙ ap (λ busy. is_free_at (pack x) at && not busy) (sym offered)
