use Rattle.std.proofs.Common.{take}
use Rattle.disk_records.specs.Packs.{Pack}
use Rattle.scav_names.specs.Catalogues.{HoldsNames}
use Rattle.scav_names.specs.Parting.{IsPartedTo, lives_then}
use Rattle.scav_names.proofs.parted.part_entries.Given as goal

abbrev pub invariant-loop-entry : goal.invariant-loop-entry
invariant-loop-entry l = (p : Pack) → HoldsNames p l.names → IsPartedTo (lives_then p) (take l.entry-index l.entry-items) l.parted
