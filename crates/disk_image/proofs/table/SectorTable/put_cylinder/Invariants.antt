use Rattle.std.proofs.Common.{◌≡◌, ℕ, ◌+◌, ◌*◌, ◌<◌, ◌≤◌, take, drop, vec_len, vec_capacity}
use Rattle.disk_image.specs.Kept.{sector_in, HasBytes}
use Rattle.disk_image.proofs.table.SectorTable.put_cylinder.Given as goal

abbrev pub invariant-loop-sector : goal.invariant-loop-sector
invariant-loop-sector l = record {
  capacity : l.first + 24 ≤ vec_capacity l.self.sectors;
  long : l.first + l.sector ≤ vec_len l.self.sectors;
  here : (k : ℕ) → k < l.sector → HasBytes (sector_in l.self (l.first + k)) (take 532 (drop (k * 532) l.bytes));
  below : (k : ℕ) → k < l.first → sector_in l.self k ≡ sector_in l.fn.self k;
  above : (k : ℕ) → l.first + 24 ≤ k → sector_in l.self k ≡ sector_in l.fn.self k;
}
