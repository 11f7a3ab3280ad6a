use Rattle.std.proofs.Common.{◌≤◌, ◌*◌, ℕ, List, Option}
use Rattle.pack_reading.specs.Lengths.{CountsPages}
use Rattle.pack_reading.proofs.Counting.{Counting}
use Rattle.pack_reading.proofs.counts.Counts.length.Given as goal

abbrev pub invariant-loop-number : goal.invariant-loop-number
invariant-loop-number l = record {
  counted : (pages : ℕ → Option (List ℕ)) → CountsPages l.self l.fid pages → Counting pages l.number l.length;
  most : l.length ≤ l.number * 65535;
}
