use Rattle.std.proofs.Common.{[], drop, length, ℕ, ◌+◌, ◌≡◌, ◌≤◌, ◌⊎◌}
use Rattle.page_seeking.specs.Seeking.{Refused}
use Rattle.file_pages.proofs.NewListed.{ListsSome}
use Rattle.file_pages.proofs.NewNotes.{NotedSoFar}
use Rattle.file_pages.proofs.new_hints.note_pages.Given as goal

abbrev pub invariant-loop-at : goal.invariant-loop-at
invariant-loop-at l =
    record {
      numbers : l.before + length l.rest ≡ l.last + length l.fresh;
      grows : l.fn.cache.refused ≤ l.cache.refused;
      least : l.last ≤ l.before;
      left : (k : ℕ) → l.before ≡ l.last + k → drop k l.fresh ≡ l.rest;
      listed : (k : ℕ) → l.before ≡ l.last + k → ListsSome l.fid l.last l.fresh k l.cache.entries ⊎ Refused l.fn.cache l.cache;
      quiet : l.fresh ≡ [] → l.cache ≡ l.fn.cache;
      notes : NotedSoFar l.fid l.last l.fresh l.before l.rest l.fn.cache.entries l.cache.entries ⊎ Refused l.fn.cache l.cache;
    }

abbrev pub decreases-loop-at : goal.decreases-loop-at
decreases-loop-at l = length l.rest
