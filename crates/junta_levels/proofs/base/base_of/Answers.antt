use Rattle.std.proofs.Common.{◌-◌, [], ◌∷◌, ap, get_or, ◌∙◌}
use Rattle.junta_levels.proofs.Bases.{base_in_table}
use Rattle.junta_levels.proofs.base.base_of.Goals as goal

pub returns : goal.returns
returns c =
    ap (λ n. get_or (64512 ∷ 63488 ∷ 61440 ∷ 57344 ∷ 53248 ∷ 49152 ∷ 45056 ∷ 40960 ∷ []) (n - 1) 0) c.from.ensures
    ∙ base_in_table c.args.level c.requires.least c.requires.most
