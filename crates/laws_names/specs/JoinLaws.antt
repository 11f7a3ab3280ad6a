-- Mendings of names one after another, broken off, and what they come to.
use Rattle.std.specs.Prelude.{◌∷◌, [], ℕ, List}
use Rattle.laws_mend.specs.disk_records.specs.declared.records.Event.{Event}
use Rattle.laws_mend.specs.disk_records.specs.declared.records.Event.TheVariants.{Wrote}
use Rattle.laws_mend.specs.disk_records.specs.Events.{IsFirstOf}
use Rattle.laws_mend.specs.disk_records.specs.Packs.{Pack, after}
use Rattle.laws_mend.specs.pack_model.specs.scavenger.Scavenging.{Keeps, Throughout, Unmarked}
use Rattle.laws_mend.specs.pack_model.specs.states.Sound.{Clean}
use Rattle.laws_mend.specs.laws_record.specs.ChainLaws.{KeptTogether}
use Rattle.laws_mend.specs.Tending.{AllTends}
use Rattle.laws_names.specs.Keeping.{AllKeepOpen, KeepsOpen}

-- with no record write, and from one pack to the next and on
abbrev pub NothingKeepsOpen : Type 0
NothingKeepsOpen = (p : Pack) → KeepsOpen p p

abbrev pub KeepsOpenOn : Type 0
KeepsOpenOn = (p q r : Pack) → KeepsOpen p q → KeepsOpen q r → KeepsOpen p r

-- two runs of record writes, the second from where the first ends, are one
abbrev pub KeepsOpenJoin : Type 0
KeepsOpenJoin = KeptTogether KeepsOpen

-- a run that breaks off
abbrev pub KeepsOpenBreaksOff : Type 0
KeepsOpenBreaksOff = (p : Pack) (events some : List Event) → IsFirstOf events some → AllKeepOpen p events → AllKeepOpen p some

-- one record write, by the pack that it leaves
abbrev pub OneKeepsOpen : Type 0
OneKeepsOpen = (p : Pack) (at part : ℕ) (words : List ℕ) → KeepsOpen p (after p (Wrote at part words ∷ [])) → AllKeepOpen p (Wrote at part words ∷ [])

-- a run of a mending of pages
abbrev pub TendingKeepsOpen : Type 0
TendingKeepsOpen = (p : Pack) (events : List Event) → AllTends p events → AllKeepOpen p events

-- What a run of a mending of names comes to: the last pack keeps so; each crash point keeps what a scavenge keeps, and none is clean where
-- there was no clean mark.
pub record EndsOpen (p : Pack) (events : List Event) : Type 0 where
  pub last : KeepsOpen p (after p events)
  pub kept : Throughout (Keeps p) p events
  pub unclean : Unmarked p → Throughout (λ q. Clean q → ⊥) p events

abbrev pub KeepsOpenEnds : Type 0
KeepsOpenEnds = (p : Pack) (events : List Event) → AllKeepOpen p events → EndsOpen p events
