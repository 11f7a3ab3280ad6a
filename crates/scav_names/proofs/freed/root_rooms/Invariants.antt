use Rattle.std.proofs.Common.{◌≡◌, drop}
use Rattle.disk_records.specs.Packs.{Pack}
use Rattle.scav_names.specs.Catalogues.{HoldsNames, root_slots}
use Rattle.scav_names.specs.Parting.{IsParted, unkept_entries}
use Rattle.scav_names.proofs.RootItems.{IsFreeing, free_all}
use Rattle.scav_names.proofs.freed.root_rooms.Given as goal

abbrev pub invariant-loop-entry : goal.invariant-loop-entry
invariant-loop-entry l = record {
  living : l.names.living ≡ l.fn.names.living;
  entries_are : l.names.entries ≡ l.fn.names.entries;
  pages : l.names.root_pages ≡ l.fn.names.root_pages;
  rooms : (p : Pack) → HoldsNames p l.fn.names → IsParted p l.parted → IsFreeing l.names.rooms (drop l.entry-index l.entry-items) (free_all (unkept_entries p) (root_slots p));
}
