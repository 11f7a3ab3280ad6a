-- What a mending of pages keeps at each crash point.
use Rattle.std.specs.Prelude.{◌≡◌, List}
use Rattle.laws_room.specs.disk_records.specs.declared.records.Event.{Event}
use Rattle.laws_room.specs.disk_records.specs.Packs.{Pack}
use Rattle.laws_room.specs.pack_model.specs.reading.Model.{read_as}
use Rattle.laws_room.specs.pack_model.specs.scavenger.Scavenging.{Keeps, Throughout, Unmarked}
use Rattle.laws_room.specs.pack_model.specs.showing.View.{view}

-- The pack q, at some crash point of a mending of p: what a scavenge keeps is kept, it is viewed as before, and it has no clean mark if it
-- had none.
pub record Tends (p q : Pack) : Type 0 where
  pub keeps : Keeps p q
  pub viewed : view (read_as q) ≡ view (read_as p)
  pub unmarked : Unmarked p → Unmarked q

-- each crash point of these record writes tends so
abbrev pub AllTends : Pack → List Event → Type 0
AllTends p events = Throughout (Tends p) p events
