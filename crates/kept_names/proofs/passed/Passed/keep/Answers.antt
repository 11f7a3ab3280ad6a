use Rattle.std.proofs.Common.{ap, ◌∙◌, cond, Some, arith}
use Rattle.std.specs.Ordering.{is_eq}
use Rattle.std.specs.BTreeMap.{get}
use Rattle.kept_names.specs.Homes.{qualified_cmp}
use Rattle.kept_names.proofs.Passing.{passed_kept}
use Rattle.kept_names.proofs.passed.Passed.keep.Goals as goal

pub returns-clause-passed : goal.returns-clause-passed
returns-clause-passed c = λ homes is taken.
    passed_kept homes c.args.self.now (record { counts = c.insert.new.self }) c.args.name c.args.first c.args.count is c.requires.most (omega arith) taken
    (λ q. c.in_ok-insert.ensures.updates.0 q ∙ ap (λ p. cond (is_eq (qualified_cmp p q)) (Some c.args.count) (get qualified_cmp c.args.self.now.counts q)) c.suffix_in_root.ensures)
