use Rattle.std.proofs.Common.{◌≡◌, ℕ, ◌+◌, ◌⊎◌, true, length, take, sym, ◌∙◌, ap, subst, arith}
use Rattle.std.specs.Prelude.{All, Contains}
use Rattle.std.proofs.lemmas.List.{length-set, take_all}
use Rattle.hint_cache.specs.Bits.{busy_at}
use Rattle.page_alloc.proofs.Tables.{marked_busy, marked_others}
use Rattle.page_alloc.proofs.take.mark_busy.Goals as goal

pub loop-at-preserved : goal.loop-at-preserved
loop-at-preserved c =
    let taken = c.args.taken.now in
    let i = c.loop-at.at-index in
    let within = c.loop-at-test.true in
    record {
      sized = ap length c.set.ensures ∙ length-set c.loop-at.table _ true ∙ c.loop-at.invariant.sized;
      busy = subst (λ bits. All (λ at. busy_at bits at ≡ true) (take (i + 1) taken)) (sym c.set.ensures) (marked_busy c.loop-at.table taken i within c.loop-at.invariant.busy);
      others = subst (λ bits. (at : ℕ) → (busy_at bits at ≡ busy_at c.args.table.now at) ⊎ Contains taken at) (sym c.set.ensures) (marked_others c.args.table.now c.loop-at.table taken i within c.loop-at.invariant.others);
    }

pub returns-clause-busy : goal.returns-clause-busy
returns-clause-busy c = subst (All (λ at. busy_at c.loop-at.table at ≡ true)) (take_all c.loop-at.at-index c.args.taken.now (omega arith)) c.loop-at.invariant.busy
