use Rattle.std.proofs.Common.{◌≡◌, ◌+◌, ◌-◌, ◌≤◌}
use Rattle.alto_words.specs.Fid.{disk_descriptor}
use Rattle.disk_records.specs.Packs.{Pack}
use Rattle.pack_model.specs.reading.Sights.{sights}
use Rattle.pack_model.specs.scavenger.Needed.{missing}
use Rattle.scavenger.specs.Descriptors.{IsSystem}
use Rattle.scavenger.proofs.system.System.lacks.Given as goal

abbrev pub invariant-loop-number : goal.invariant-loop-number
invariant-loop-number l = record {
  few : l.lacks + 1 ≤ l.number;
  lacks : (p : Pack) → IsSystem p l.self → l.lacks ≡ missing (sights p) disk_descriptor (l.number - 1);
}
