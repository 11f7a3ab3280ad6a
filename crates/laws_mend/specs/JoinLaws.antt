-- Mendings one after another, broken off, and what they come to.
use Rattle.std.specs.Prelude.{◌≡◌, [], List}
use Rattle.laws_room.specs.disk_records.specs.declared.records.Event.{Event}
use Rattle.laws_room.specs.disk_records.specs.Events.{IsFirstOf}
use Rattle.laws_room.specs.disk_records.specs.Packs.{Pack, after}
use Rattle.laws_room.specs.pack_model.specs.scavenger.Reports.{adopted_files}
use Rattle.laws_room.specs.pack_model.specs.scavenger.Scavenging.{Keeps, Throughout, Unmarked}
use Rattle.laws_room.specs.pack_model.specs.states.Sound.{Clean}
use Rattle.laws_room.specs.laws_record.specs.ChainLaws.{KeptTogether}
use Rattle.laws_mend.specs.Tending.{Tends, AllTends}

-- with no record write, and from one pack to the next and on
abbrev pub NothingTends : Type 0
NothingTends = (p : Pack) → Tends p p

abbrev pub TendsOn : Type 0
TendsOn = (p q r : Pack) → Tends p q → Tends q r → Tends p r

-- two runs of record writes, the second from where the first ends, are one
abbrev pub TendsJoin : Type 0
TendsJoin = KeptTogether Tends

-- a run that breaks off
abbrev pub TendsBreaksOff : Type 0
TendsBreaksOff = (p : Pack) (events some : List Event) → IsFirstOf events some → AllTends p events → AllTends p some

-- What a run of a mending comes to: the last pack tends so, and gives names to as many files; each crash point keeps what a scavenge keeps,
-- and none is clean where there was no clean mark.
pub record Ends (p : Pack) (events : List Event) : Type 0 where
  pub last : Tends p (after p events)
  pub adopted : adopted_files (after p events) ≡ adopted_files p
  pub kept : Throughout (Keeps p) p events
  pub unclean : Unmarked p → Throughout (λ q. Clean q → ⊥) p events

abbrev pub TendingEnds : Type 0
TendingEnds = (p : Pack) (events : List Event) → AllTends p events → Ends p events
