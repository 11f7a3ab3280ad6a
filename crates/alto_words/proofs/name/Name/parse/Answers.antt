use Rattle.std.proofs.Common.{Some, None, take, ap, sym, ◌∙◌}
use Rattle.alto_words.specs.Names.{after_mark, version_in}
use Rattle.alto_words.proofs.Marks.{unmarked_without}
use Rattle.alto_words.proofs.Parsed.{name_in-marked, stored_with-stem}
use Rattle.alto_words.proofs.name.Name.parse.Goals as goal

pub with_stem-requires-clause-unmarked : goal.with_stem-requires-clause-unmarked
with_stem-requires-clause-unmarked c = ap after_mark c.without_dot.ensures.without ∙ unmarked_without c.args.text.now c.in-None.ensures.none

pub returns-in_err-version-in-Some : goal.returns-in_err-version-in-Some
returns-in_err-version-in-Some c =
    let stated = c.in_err-version-in-Some.ensures.value ∙ ap version_in c.without_dot-in-Some.ensures.without in
    c.from_residual.ensures ∙ sym (name_in-marked c.args.text.now c.in-Some.at None c.in-Some.ensures.some (sym stated))

pub with_stem-requires-in-Some-clause-unmarked : goal.with_stem-requires-in-Some-clause-unmarked
with_stem-requires-in-Some-clause-unmarked c =
    ap after_mark c.without_dot-in-Some-2.ensures.without ∙ unmarked_without (take c.in-Some.at c.args.text.now) c.in-Some.ensures.some.first

pub returns-in_ok-version-in-Some : goal.returns-in_ok-version-in-Some
returns-in_ok-version-in-Some c =
    let n = c.in_ok-version-in-Some.version in
    let stated = c.in_ok-version-in-Some.ensures.value ∙ ap version_in c.without_dot-in-Some.ensures.without in
    c.with_stem-in-Some.ensures
    ∙ sym (
    name_in-marked c.args.text.now c.in-Some.at (Some n) c.in-Some.ensures.some (sym stated)
    ∙ stored_with-stem (take c.in-Some.at c.args.text.now) c.without_dot-in-Some-2.result.now n c.without_dot-in-Some-2.ensures.with
    )
