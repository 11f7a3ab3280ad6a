use Rattle.std.proofs.Common.{map, take}
use Rattle.std.specs.FinMap.{FinMap}
use Rattle.alto_words.specs.Fid.{fid_cmp}
use Rattle.pack_model.specs.showing.View.{Home}
use Rattle.pack_model.specs.showing.Settling.{settled}
use Rattle.kept_names.specs.Homes.{StandsFor}
use Rattle.kept_names.specs.Passed.{IsPassed}
use Rattle.pack_reading.specs.Shows.{seen_file}
use Rattle.pack_reading.proofs.settle.settle.Given as goal

abbrev pub invariant-loop-file : goal.invariant-loop-file
invariant-loop-file l = record {
  names : (homes : FinMap fid_cmp Home) → StandsFor l.fn.names homes → StandsFor l.names (settled homes (map seen_file (take l.file-index l.files)));
  passed : (homes : FinMap fid_cmp Home) → StandsFor l.fn.names homes → IsPassed (settled homes (map seen_file (take l.file-index l.files))) l.passed;
}
