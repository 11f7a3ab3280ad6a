use Rattle.std.specs.FinMap.{FinMap}
use Rattle.alto_words.specs.Fid.{fid_cmp}
use Rattle.pack_model.specs.showing.View.{Home}
use Rattle.kept_names.specs.Homes.{StandsFor}
use Rattle.kept_names.specs.Passed.{IsPassed}
use Rattle.kept_names.proofs.Grouping.{AreBehind}
use Rattle.kept_names.proofs.choosing.free_suffix.Given as goal

abbrev pub invariant-loop-group : goal.invariant-loop-group
invariant-loop-group l = record {
  passed : (homes : FinMap fid_cmp Home) → StandsFor l.names homes → IsPassed homes l.fn.passed → IsPassed homes l.passed;
  behind : (homes : FinMap fid_cmp Home) → StandsFor l.names homes → IsPassed homes l.fn.passed → AreBehind l.group-items homes l.name l.group-index;
}
