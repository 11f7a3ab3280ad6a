-- The record writes of a scavenge: those before the last, and the last.
use Rattle.std.specs.Prelude.{◌≡◌, ℕ, Bool, List, [], ◌∷◌, ◌++◌, Some, Result, OnOk, reverse}
use Rattle.std.specs.Option.{option_map_or}
use Rattle.alto_words.specs.Fid.{disk_descriptor}
use Rattle.disk_records.specs.Commands.{value_writes}
use Rattle.disk_records.specs.declared.records.Event.{Event}
use Rattle.disk_records.specs.declared.records.Event.TheVariants.{Wrote}
use Rattle.disk_records.specs.Events.{IsFirstOf}
use Rattle.disk_records.specs.Packs.{Pack, after, sector_at}
use Rattle.disk_records.specs.Tapes.{Taped, added, pack}
use Rattle.pack_model.specs.operations.Commands.{values_writes}
use Rattle.pack_model.specs.reading.Files.{place}
use Rattle.pack_model.specs.reading.Sights.{sights}
use Rattle.pack_model.specs.scavenger.Reports.{Scavenged}
use Rattle.pack_model.specs.scavenger.Scavenging.{Mends, Throughout}
use Rattle.pack_model.specs.sessions.Descriptor.{closed_values, opened_value}
use Rattle.scavenger.specs.Marks.{MarkOpened}

-- from the first record write on, each crash point keeps what a scavenge keeps, with a mark that isn't clean
abbrev pub AllMend : Pack → List Event → Type 0
AllMend p [] = Unit {0}
AllMend p (e ∷ events) = Throughout (Mends p) (after p (e ∷ [])) events

-- All record writes of a scavenge of p: the last one ends it, and then the pack is scavenged.
pub record EndsIt (p : Pack) (events : List Event) : Type 0 where
  pub before : List Event
  pub at : ℕ
  pub part : ℕ
  pub words : List ℕ
  pub split : events ≡ before ++ Wrote at part words ∷ []
  pub mends : AllMend p before
  pub scavenged : Scavenged p (after p events)

-- those that were done, whatever it answers: none of them ends it, or the last one does
pub data ScavengeWrites (p : Pack) (events : List Event) : Type 0 where
  some : AllMend p events → ScavengeWrites p events
  all : EndsIt p events → ScavengeWrites p events

-- the record write by which a session opens the mark: nothing but the mark changes in DiskDescriptor's first data page; none if no sector
-- carries that
abbrev pub mark_writes : Pack → List Event
mark_writes p = option_map_or (λ at. value_writes at (opened_value (sector_at p at).value)) (place (sights p) disk_descriptor 1) []

-- the first record write, if one is done, is that one, where there is one
abbrev pub OpensMark : Pack → List Event → Type 0
OpensMark p [] = Unit {0}
OpensMark p (e ∷ events) = (at : ℕ) → place (sights p) disk_descriptor 1 ≡ Some at → e ≡ Wrote at 2 (opened_value (sector_at p at).value)

-- the mark is opened by that record write
pub record Opens {T E : Type 0} (old new : Taped) (result : Result T E) : Type 0 where
  pub some : IsFirstOf (mark_writes (pack old)) (added old new)
  pub ok : OnOk result (added old new ≡ mark_writes (pack old))
  pub mends : AllMend (pack old) (added old new)
  pub opened : OnOk result (MarkOpened (pack old) (pack new))

-- DiskDescriptor's pages are written with a last serial and a map, from the last to the first: at every answer a prefix of that
pub record Closes {T E : Type 0} (last : ℕ) (busy : List Bool) (pages : List ℕ) (old new : Taped) (result : Result T E) : Type 0 where
  pub some : IsFirstOf (values_writes (reverse (closed_values old.form last busy 0 pages))) (added old new)
  pub ok : OnOk result (added old new ≡ values_writes (reverse (closed_values old.form last busy 0 pages)))
