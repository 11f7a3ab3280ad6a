use Rattle.std.proofs.Common.{All, List, ap, length, subst, sym, true, ℕ, ◌<◌, ◌∙◌, ◌≡◌}
use Rattle.std.proofs.lemmas.List.{length-set}
use Rattle.std.proofs.lemmas.List.Elements.{All-head, All-tail}
use Rattle.laws_hint.specs.MapChanges.{marked}
use Rattle.file_pages.proofs.new_hints.mark_busy.Goals as goal

pub set-requires : goal.set-requires
set-requires c =
    let table = c.loop-at.table in
    All-head (λ i. i < length table) c.in-Some.at.now c.in-Some.later.now (subst (All (λ i. i < length table)) c.in-Some.ensures.cases.0 c.loop-at.invariant.within)

pub loop-at-preserved : goal.loop-at-preserved
loop-at-preserved c =
    let table = c.loop-at.table in
    let at = c.in-Some.at.now in
    let later = c.in-Some.later.now in
    let rest = c.in-Some.ensures.cases.0 in
    let same : length c.set.new.self ≡ length table = ap length c.set.ensures ∙ length-set table at true in
    record {
      within = subst (λ n. All (λ i. i < n) later) (sym same) (All-tail (λ i. i < length table) at later (subst (All (λ i. i < length table)) rest c.loop-at.invariant.within));
      sized = same ∙ c.loop-at.invariant.sized;
      marked = ap (marked true later) c.set.ensures ∙ ap (λ (l : List ℕ). marked true l table) (sym rest) ∙ c.loop-at.invariant.marked;
    }
