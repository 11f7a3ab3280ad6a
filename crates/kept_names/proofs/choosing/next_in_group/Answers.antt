use Rattle.std.proofs.Common.{◌≡◌, ℕ, ◌+◌, true, List, sym, ap, subst, ◌∙◌, inl, inr, arith}
use Rattle.std.proofs.lemmas.Bool.Decides.{leb_tells}
use Rattle.std.specs.FinMap.{FinMap}
use Rattle.alto_words.specs.Fid.{fid_cmp}
use Rattle.alto_words.specs.Names.{suffixed}
use Rattle.pack_model.specs.showing.Settling.{is_taken}
use Rattle.pack_model.specs.showing.View.{Home}
use Rattle.kept_names.specs.Passed.{AreTaken}
use Rattle.kept_names.proofs.choosing.next_in_group.Goals as goal

-- the next one is taken, too
taken_more : (homes : FinMap fid_cmp Home) (name : List ℕ) (first count : ℕ) → AreTaken homes name first (first + count) → is_taken homes (suffixed name (first + count)) ≡ true → AreTaken homes name first (first + (count + 1))
taken_more homes name first count before here k from less = elim (leb_tells (first + count) k) as (λ _. is_taken homes (suffixed name k) ≡ true) [
  | inl later ↦ (let same : first + count ≡ k = omega (arith, later.1, less) in subst (λ j. is_taken homes (suffixed name j) ≡ true) same here)
  | inr sooner ↦ before k from sooner.1
]

pub loop-count-init : goal.loop-count-init
loop-count-init c = λ homes stands is. subst (λ n. AreTaken homes c.args.name c.args.group.first (c.args.group.first + n)) (sym c.count-count.ensures) (is c.args.name c.args.group.first (omega arith))

pub loop-count-preserved : goal.loop-count-preserved
loop-count-preserved c = λ homes stands is.
    taken_more homes c.args.name c.args.group.first c.loop-count.count (c.loop-count.invariant homes stands is)
    (ap (is_taken homes) (sym c.suffixed.ensures) ∙ sym (c.is_taken.ensures homes stands) ∙ c.if-not-is_taken.false)

pub returns-then-not-is_taken-clause-free : goal.returns-then-not-is_taken-clause-free
returns-then-not-is_taken-clause-free c = λ homes stands is. record {
  free = ap (is_taken homes) (sym c.suffixed.ensures) ∙ sym (c.is_taken.ensures homes stands) ∙ c.if-not-is_taken.true;
  taken = c.loop-count.invariant homes stands is;
}
