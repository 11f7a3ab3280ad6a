use Rattle.std.proofs.Common.{◌≡◌, ◌++◌, ◌∷◌, [], true, length, List, ℕ, Some, ap, ◌∙◌, arith}
use Rattle.std.proofs.lemmas.Bool.Decides.{nat_tests}
use Rattle.alto_words.specs.Names.{is_stored_name, version_text}
use Rattle.alto_words.proofs.Stems.{none_made, some_made, made_is, fits_stem}
use Rattle.alto_words.proofs.Versions.{version_short}
use Rattle.alto_words.proofs.name.Name.with_stem.Goals as goal
use Rattle.alto_words.proofs.name.Name.with_stem.Goals.{then-is_empty-via-then-is_empty, then-is_empty-via-else-is_empty+then-not-has_name_characters}

pub returns-then-is_empty : goal.returns-then-is_empty
returns-then-is_empty c =
    none_made c.args.stem.now c.args.version c.requires.unmarked c.requires.least c.requires.most (
    elim c.then-is_empty.branch [
      | then-is_empty-via-then-is_empty w ↦ grind (arith, nat_tests)
      | then-is_empty-via-else-is_empty+then-not-has_name_characters w ↦ grind (arith, nat_tests)
    ])

pub overflow_sub-as_bytes : goal.overflow_sub-as_bytes
overflow_sub-as_bytes c = omega (arith, version_short c.args.version c.requires.most, ap length (c.as_bytes.ensures ∙ c.version_mark-mark.ensures))

pub returns-then-stem-as_bytes : goal.returns-then-stem-as_bytes
returns-then-stem-as_bytes c =
    let size = ap length (c.as_bytes.ensures ∙ c.version_mark-mark.ensures) in
    let short = version_short c.args.version c.requires.most in
    none_made c.args.stem.now c.args.version c.requires.unmarked c.requires.least c.requires.most (grind (arith, nat_tests))

-- the stem, the version and a `.`, one after another
made : (c : goal.After-push-3) → c.push-3.new.self ≡ c.args.stem.now ++ version_text c.args.version ++ (46 ∷ [])
made c =
    c.push-3.ensures
    ∙ ap (λ (t : List ℕ). t ++ 46 ∷ []) (c.push-2.ensures ∙ (λ i. (c.push.ensures ∙ ap (λ (t : List ℕ). t ++ c.args.stem.now) c.new-text.ensures) i ++ (c.as_bytes-2.ensures ∙ c.version_mark-mark.ensures) i))

fits : (c : goal.After-push-3) → fits_stem c.args.stem.now c.args.version ≡ true
fits c =
    let size = ap length (c.as_bytes.ensures ∙ c.version_mark-mark.ensures) in
    let short = version_short c.args.version c.requires.most in
    grind (arith, nat_tests)

pub invariant_of-result : goal.invariant_of-result
invariant_of-result c = ap is_stored_name (made c) ∙ made_is c.args.stem.now c.args.version c.requires.unmarked c.requires.least c.requires.most ∙ fits c

pub returns : goal.returns
returns c = ap (λ (t : List ℕ). Some t) (made c) ∙ some_made c.args.stem.now c.args.version c.requires.unmarked c.requires.least c.requires.most (fits c)
