use Rattle.std.proofs.Common.{◌≡◌, ◌++◌, ◌∷◌, [], List, ℕ, Some, None, true, ap, sym, ◌∙◌, arith}
use Rattle.std.proofs.lemmas.Bool.{cond-true}
use Rattle.std.proofs.lemmas.Bool.Decides.{Decides-eqb, nat_tests}
use Rattle.std.proofs.lemmas.Slice.Eq.{strip_suffix_is}
use Rattle.alto_words.specs.Names.{is_stored_name}
use Rattle.alto_words.proofs.Parsed.{not_stored, stored_ends}
use Rattle.alto_words.proofs.Unmarked.{unmarked_stored, unmarked_unstored}
use Rattle.alto_words.proofs.name.Name.unmarked.Goals as goal
use Rattle.alto_words.proofs.name.Name.unmarked.Goals.{then-is_empty-via-then-is_empty, then-is_empty-via-else-is_empty+then-stem-gt-MAX_STEM}

pub returns-in_err-stem : goal.returns-in_err-stem
returns-in_err-stem c =
    let bytes = c.args.bytes.now in
    let cases = rw c.as_slice.ensures at c.in_err-stem.ensures.cases in
    c.from_residual.ensures ∙ not_stored bytes (λ s. let e = stored_ends bytes s in strip_suffix_is Decides-eqb bytes (46 ∷ []) None cases e.0 e.1)

pub returns-then-is_empty : goal.returns-then-is_empty
returns-then-is_empty c =
    let bytes = c.args.bytes.now in
    let x = c.in_ok-stem.stem in
    let cases = rw c.as_slice.ensures at c.in_ok-stem.ensures.cases in
    let is = strip_suffix_is Decides-eqb bytes (46 ∷ []) (Some x) cases in
    unmarked_unstored bytes x.now is c.requires (
    elim c.then-is_empty.branch [
      | then-is_empty-via-then-is_empty w ↦ grind (arith, nat_tests)
      | then-is_empty-via-else-is_empty+then-stem-gt-MAX_STEM w ↦ grind (arith, nat_tests)
    ])

-- the text is the bytes
same : (c : goal.After-push) → c.push.new.self ≡ c.args.bytes.now
same c = c.push.ensures ∙ ap (λ (t : List ℕ). t ++ c.args.bytes.now) c.new-text.ensures

stored : (c : goal.After-push) → is_stored_name c.args.bytes.now ≡ true
stored c =
    let x = c.in_ok-stem.stem in
    let cases = rw c.as_slice.ensures at c.in_ok-stem.ensures.cases in
    let is = strip_suffix_is Decides-eqb c.args.bytes.now (46 ∷ []) (Some x) cases in
    unmarked_stored c.args.bytes.now x.now is c.requires (grind (arith, nat_tests)) (omega (arith, c.if-stem-gt-MAX_STEM.false))

pub invariant_of-result : goal.invariant_of-result
invariant_of-result c = ap is_stored_name (same c) ∙ stored c

pub returns : goal.returns
returns c = ap (λ (t : List ℕ). Some t) (same c) ∙ sym (cond-true (is_stored_name c.args.bytes.now) (Some c.args.bytes.now) None (stored c))
