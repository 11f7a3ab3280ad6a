use Rattle.std.proofs.Common.{ap, sym, ◌∙◌}
use Rattle.alto_words.specs.Names.{with_dot}
use Rattle.alto_words.proofs.Stems.{with_version-stem}
use Rattle.alto_words.proofs.name.Name.with_version.Goals as goal

pub with_stem-requires-clause-unmarked : goal.with_stem-requires-clause-unmarked
with_stem-requires-clause-unmarked c =
    (with_version-stem c.args.self.now c.without_dot.result.now c.args.n c.requires.bare c.requires.least c.requires.most (ap with_dot (sym c.as_bytes.ensures.value) ∙ c.without_dot.ensures.with)).0

pub returns : goal.returns
returns c =
    c.with_stem.ensures
    ∙ (with_version-stem c.args.self.now c.without_dot.result.now c.args.n c.requires.bare c.requires.least c.requires.most (ap with_dot (sym c.as_bytes.ensures.value) ∙ c.without_dot.ensures.with)).1
