-- What a mending of names keeps at each crash point.
use Rattle.std.specs.Prelude.{List}
use Rattle.laws_mend.specs.disk_records.specs.declared.records.Event.{Event}
use Rattle.laws_mend.specs.disk_records.specs.Packs.{Pack}
use Rattle.laws_mend.specs.pack_model.specs.scavenger.Scavenging.{Keeps, Throughout, Unmarked}

-- The pack q, at some crash point of a mending of names of p: what a scavenge keeps is kept, and it has no clean mark if it had none. What
-- is viewed changes with each entry of a nameless file.
pub record KeepsOpen (p q : Pack) : Type 0 where
  pub keeps : Keeps p q
  pub unmarked : Unmarked p → Unmarked q

-- each crash point of these record writes does so
abbrev pub AllKeepOpen : Pack → List Event → Type 0
AllKeepOpen p events = Throughout (KeepsOpen p) p events
