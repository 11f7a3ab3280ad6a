-- Closing with the true map leaves all hints true.
use Rattle.std.specs.Prelude.{Bool, List, [], ℕ, ◌≡◌, ◌≢◌}
use Rattle.laws_line.specs.disk_records.specs.Packs.{Pack, after}
use Rattle.laws_line.specs.disk_records.specs.declared.records.Event.{Event}
use Rattle.laws_line.specs.pack_model.specs.sessions.Descriptor.{close_writes}
use Rattle.laws_line.specs.pack_model.specs.hints.Links.{LinksTrue}
use Rattle.laws_line.specs.pack_model.specs.reading.Model.{read_as}
use Rattle.laws_line.specs.pack_model.specs.reading.Sights.{sights}
use Rattle.laws_line.specs.pack_model.specs.states.Sound.{Clean, Sound, mark_clean, mark_of}
use Rattle.laws_line.specs.pack_model.specs.hints.Tables.{HintsTrue, TableTrue}
use Rattle.laws_line.specs.pack_model.specs.states.Whole.{Tidy, Whole}
use Rattle.laws_line.specs.laws_operation.specs.DescriptorLaws.{MayClose}

-- the record writes by which this pack is closed, with this map, in these sectors of DiskDescriptor's data pages
abbrev pub closing_writes : Pack → List Bool → List ℕ → List Event
closing_writes p busy pages = close_writes (mark_of (sights p)) p.shape (read_as p).last busy pages

-- Of q, which closing leaves of p, all hints are true; it is clean, and sound where p was.
pub record ClosedTrue (p q : Pack) : Type 0 where
  pub hints : HintsTrue q
  pub clean : Clean q
  pub sound : Sound p → Sound q

-- so it is with the true map, where links are true and the mark isn't clean
abbrev pub ClosingLeavesHintsTrue : Type 0
ClosingLeavesHintsTrue = (p : Pack) (busy : List Bool) (pages : List ℕ) → Whole p → Tidy p → MayClose p pages → mark_of (sights p) ≢ mark_clean → LinksTrue p → TableTrue p busy → ClosedTrue p (after p (closing_writes p busy pages))

-- where it is, nothing is written
abbrev pub ClosingLeavesACleanPack : Type 0
ClosingLeavesACleanPack = (p : Pack) (busy : List Bool) (pages : List ℕ) → mark_of (sights p) ≡ mark_clean → closing_writes p busy pages ≡ []
