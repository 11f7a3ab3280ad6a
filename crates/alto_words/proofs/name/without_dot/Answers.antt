use Rattle.std.proofs.Common.{ap, refl, sym, ◌∙◌, ◌++◌, ◌∷◌, []}
use Rattle.std.proofs.lemmas.Bool.Decides.{Decides-eqb}
use Rattle.std.proofs.lemmas.Slice.Eq.{strip_suffix_is}
use Rattle.alto_words.proofs.Names.{with_dot-stem}
use Rattle.alto_words.proofs.Stems.{without_dot-stem}
use Rattle.alto_words.proofs.name.without_dot.Goals as goal

pub returns-clause-with : goal.returns-clause-with
returns-clause-with c =
    let cases = rw c.as_slice.ensures at c.strip_suffix.ensures.cases in
    with_dot-stem c.args.text.now c.strip_suffix.result c.args.text refl
    (strip_suffix_is Decides-eqb c.args.text.now (46 ∷ []) c.strip_suffix.result cases)
    ∙ ap (λ x. x.now ++ 46 ∷ []) (sym c.unwrap_or.ensures)

pub returns-clause-without : goal.returns-clause-without
returns-clause-without c =
    let cases = rw c.as_slice.ensures at c.strip_suffix.ensures.cases in
    ap (λ x. x.now) c.unwrap_or.ensures
    ∙ without_dot-stem c.args.text.now c.strip_suffix.result c.args.text refl (strip_suffix_is Decides-eqb c.args.text.now (46 ∷ []) c.strip_suffix.result cases)
