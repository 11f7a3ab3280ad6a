use Rattle.std.proofs.Common.{◌+◌}
use Rattle.std.specs.FinMap.{FinMap}
use Rattle.alto_words.specs.Fid.{fid_cmp}
use Rattle.pack_model.specs.showing.View.{Home}
use Rattle.kept_names.specs.Homes.{StandsFor}
use Rattle.kept_names.specs.Passed.{AreTaken, IsPassed}
use Rattle.kept_names.proofs.choosing.next_in_group.Given as goal

abbrev pub invariant-loop-count : goal.invariant-loop-count
invariant-loop-count l = (homes : FinMap fid_cmp Home) → StandsFor l.names homes → IsPassed homes l.passed → AreTaken homes l.name l.group.first (l.group.first + l.count)
