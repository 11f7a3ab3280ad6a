use Rattle.std.proofs.Common.{sym, ◌∙◌}
use Rattle.exec_words.proofs.Cutting.{none_found}
use Rattle.exec_words.proofs.cut.first_place.Goals as goal

pub returns-then-not-contains : goal.returns-then-not-contains
returns-then-not-contains c = none_found c.args.byte c.args.text.now (sym c.contains.ensures.value ∙ c.if-not-contains.true)
