use Rattle.std.proofs.Common.{◌≤◌}
use Rattle.std.specs.Vec.{vec_len}
use Rattle.disk_memory.proofs.block.fill_up.Given as goal

abbrev pub invariant-loop : goal.invariant-loop
invariant-loop l = record { before : vec_len l.fn.blocks ≤ l.counter; made : l.counter ≤ vec_len l.blocks }
