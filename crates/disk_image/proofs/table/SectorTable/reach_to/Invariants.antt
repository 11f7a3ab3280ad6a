use Rattle.std.proofs.Common.{◌≡◌, ℕ, vec_len, vec_capacity}
use Rattle.disk_image.specs.Kept.{sector_in}
use Rattle.disk_image.proofs.table.SectorTable.reach_to.Given as goal

abbrev pub invariant-loop : goal.invariant-loop
invariant-loop l = record {
  long : vec_len l.self.sectors ≡ l.counter;
  capacity : vec_capacity l.self.sectors ≡ vec_capacity l.fn.self.sectors;
  same : (k : ℕ) → sector_in l.self k ≡ sector_in l.fn.self k;
}
