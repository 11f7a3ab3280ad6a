use Rattle.std.proofs.Common.{◌≡◌, ◌≤◌, ℕ}
use Rattle.pack_reading.specs.Kept.{page_kept, KeepsOthers}
use Rattle.pack_reading.proofs.Joins.{Joining}
use Rattle.pack_reading.proofs.bytes.join_pages.Given as goal

abbrev pub invariant-loop-number : goal.invariant-loop-number
invariant-loop-number l = record {
  joining : Joining (page_kept l.fn.pages l.fid) 65535 l.number l.bytes.items;
  ahead : (n : ℕ) → l.number ≤ n → page_kept l.pages l.fid n ≡ page_kept l.fn.pages l.fid n;
  others : KeepsOthers l.fid l.fn.pages l.pages;
}
