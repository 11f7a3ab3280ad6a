-- The moves of a make: the fifth commits.
use Rattle.std.proofs.Common.{Err, List, ap, arith, cond, false, length, nat_le, nat_lt, refl, suc, take, true, zero, [], ℕ, ◌&&◌, ◌+◌, ◌-◌, ◌<◌, ◌^◌, ◌∙◌, ◌∷◌, ◌≡◌, ◌≤◌}
use Rattle.std.proofs.lemmas.Bool.Decides.{nat_tests}
use Rattle.disk_records.specs.Commands.{claim_writes}
use Rattle.disk_records.specs.Events.{IsFirstOf}
use Rattle.disk_records.specs.declared.records.Event.{Event}
use Rattle.disk_records.specs.declared.records.Tally.{Tally}
use Rattle.label_check.specs.declared.errors.GuardError.TheVariants as guard
use Rattle.pack_model.specs.operations.Operations.{make_moves}
use Rattle.pack_model.specs.operations.Step.{Operation}
use Rattle.pack_model.specs.sessions.Tallies.{counted, took_effect}
use Rattle.file_pages.specs.Counting.{counted_after}

pub few_quiet : (o : Operation) (t : Tally) (w n : ℕ) → n ≤ 4 → counted w (take n (make_moves o)) t ≡ t
few_quiet o t w zero few = refl
few_quiet o t w (suc zero) few = refl
few_quiet o t w (suc (suc zero)) few = refl
few_quiet o t w (suc (suc (suc zero))) few = refl
few_quiet o t w (suc (suc (suc (suc zero)))) few = refl
few_quiet o t w (suc (suc (suc (suc (suc n))))) few = absurd (omega (arith, few))

-- after a fault of the second claim its record writes are known by the count: the second of them commits
pub later_counts : (o : Operation) (t : Tally) (first mid last at : ℕ) (label value : List ℕ) (events : List Event) → IsFirstOf (claim_writes at label value) events → first + 3 ≡ mid → mid + length events ≡ last → last < 2 ^ 64 - 1
    → counted_after mid 2 last (Err guard.DiskFault) t ≡ counted first (take (3 + length events) (make_moves o)) t
later_counts o t first mid last at label value events h start rise small = by events h rise
  where
    no : {n : ℕ} → mid + n ≡ last → n < 2 → cond (nat_lt (mid + 2) (2 ^ 64) && nat_le (mid + 2) last) (took_effect (mid + 2) t) t ≡ t
    no rise few = let off : (nat_lt (mid + 2) (2 ^ 64) && nat_le (mid + 2) last) ≡ false = grind (arith, nat_tests) in ap (λ b. cond b (took_effect (mid + 2) t) t) off

    yes : {n : ℕ} → mid + n ≡ last → 2 ≤ n → cond (nat_lt (mid + 2) (2 ^ 64) && nat_le (mid + 2) last) (took_effect (mid + 2) t) t ≡ took_effect (suc (suc (suc (suc (suc first))))) t
    yes rise many =
        let on : (nat_lt (mid + 2) (2 ^ 64) && nat_le (mid + 2) last) ≡ true = grind (arith, nat_tests) in
        let same : mid + 2 ≡ suc (suc (suc (suc (suc first)))) = omega arith in
        ap (λ b. cond b (took_effect (mid + 2) t) t) on ∙ ap (λ k. took_effect k t) same

    by : (events : List Event) → IsFirstOf (claim_writes at label value) events → mid + length events ≡ last → counted_after mid 2 last (Err guard.DiskFault) t ≡ counted first (take (3 + length events) (make_moves o)) t
    by [] h rise = no rise (omega arith)
    by (x ∷ []) h rise = no rise (omega arith)
    by (x ∷ y ∷ []) h rise = yes rise (omega arith)
    by (x ∷ y ∷ z ∷ []) h rise = yes rise (omega arith)
    by (x ∷ y ∷ z ∷ u ∷ events) h rise = absurd h.1.1.1
