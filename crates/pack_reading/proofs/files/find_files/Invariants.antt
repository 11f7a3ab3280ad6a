use Rattle.std.proofs.Common.{◌≡◌, ◌++◌, map}
use Rattle.pack_reading.specs.Kept.{found_in}
use Rattle.pack_reading.proofs.Joins.{AreLeft}
use Rattle.pack_reading.proofs.files.find_files.Given as goal

abbrev pub invariant-loop-fid : goal.invariant-loop-fid
invariant-loop-fid l = record {
  files : l.files.items ++ map (λ e. found_in l.fn.pages e.0 e.1) l.fid-iterator ≡ map (λ e. found_in l.fn.pages e.0 e.1) l.leaders.kept.entries;
  left : AreLeft l.fn.pages l.pages l.fid-iterator;
}
