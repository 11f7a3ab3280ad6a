use Rattle.std.proofs.Common.{All, length, true, ◌<◌, ◌≡◌}
use Rattle.laws_hint.specs.MapChanges.{marked}
use Rattle.file_pages.proofs.new_hints.mark_busy.Given as goal

abbrev pub invariant-loop-at : goal.invariant-loop-at
invariant-loop-at l =
    record {
      within : All (λ at. at < length l.table) l.rest;
      sized : length l.table ≡ length l.fn.table;
      marked : marked true l.rest l.table ≡ marked true l.fresh l.fn.table;
    }

abbrev pub decreases-loop-at : goal.decreases-loop-at
decreases-loop-at l = length l.rest
