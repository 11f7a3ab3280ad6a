use Rattle.std.proofs.Common.{◌≡◌, [], rules, true}
use Rattle.pack_model.specs.operations.Step.Operation.{widen}
use Rattle.directory.proofs.EntrySteps.{value_first}
use Rattle.directory.proofs.entering.write_first.Goals as goal

pub returns-clause-writes : goal.returns-clause-writes
returns-clause-writes g c told =
    let yes : c.args.wanted ≡ true = search rules in
    value_first c.args.at c.args.value.now c.args.wanted (widen c.args.page.fid) [] _ _ c.write_page.result c.in_directory.result c.in_directory.ensures yes (c.write_page.ensures.writes (widen c.args.page.fid) [] told)
