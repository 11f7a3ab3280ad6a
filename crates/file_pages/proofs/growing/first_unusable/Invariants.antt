use Rattle.std.proofs.Common.{All, length}
use Rattle.std.specs.Prelude.{Contains}
use Rattle.file_pages.specs.Growing.{IsSector}
use Rattle.file_pages.proofs.growing.first_unusable.Given as goal

abbrev pub invariant-loop-at : goal.invariant-loop-at
invariant-loop-at l = record {
  back : All (IsSector l.shape) l.rest → All (IsSector l.shape) l.fresh;
  on : All (IsSector l.shape) l.fresh → All (IsSector l.shape) l.rest;
  given : All (Contains l.fresh) l.rest;
}

abbrev pub decreases-loop-at : goal.decreases-loop-at
decreases-loop-at l = length l.rest
