-- What all record writes of an operation do, and what stays known over them.
use Rattle.std.specs.Prelude.{All, List, false, ℕ, ◌≡◌}
use Rattle.laws_hint.specs.alto_words.specs.declared.fid.Fid.{Fid}
use Rattle.laws_hint.specs.disk_records.specs.Packs.{Pack, after, is_free_at}
use Rattle.laws_hint.specs.disk_records.specs.declared.records.Event.{Event}
use Rattle.laws_call.specs.Acting.{Acts}
use Rattle.laws_call.specs.Writing.{Written}
use Rattle.laws_hint.specs.laws_lookup.specs.OtherLaws.{KeepsPages, LeavesOthers}
use Rattle.laws_hint.specs.laws_lookup.specs.StayLaws.{MisledBefore}
use Rattle.laws_hint.specs.pack_model.specs.operations.Step.Operation.{cut, drop_file, enter, grow, leave, make, put, stamp, title, widen}
use Rattle.laws_hint.specs.pack_model.specs.operations.Step.{Operation}
use Rattle.laws_hint.specs.pack_model.specs.states.Whole.{Tidy, Whole}

abbrev pub WrittenActs : Type 0
WrittenActs = (p : Pack) (o : Operation) (claimed released : List ℕ) (writes : List Event) → Whole p → Tidy p → Written p o claimed released writes → Acts p o claimed released writes

-- ---- what stays known
-- the file or the directory whose pages are written
abbrev pub written_file : Operation → Fid
written_file (make f name moment) = f
written_file (put f offset new) = f
written_file (grow f new) = f
written_file (cut f n) = f
written_file (title f name) = f
written_file (stamp f moment) = f
written_file (drop_file f) = f
written_file (leave d name) = d
written_file (enter d name f) = d
written_file (widen d) = d

-- each operation except a drop, which writes the directory with the file's entry too
abbrev pub IsOnOne : Operation → Type 0
IsOnOne (make f name moment) = Unit {0}
IsOnOne (put f offset new) = Unit {0}
IsOnOne (grow f new) = Unit {0}
IsOnOne (cut f n) = Unit {0}
IsOnOne (title f name) = Unit {0}
IsOnOne (stamp f moment) = Unit {0}
IsOnOne (drop_file f) = ⊥
IsOnOne (leave d name) = Unit {0}
IsOnOne (enter d name f) = Unit {0}
IsOnOne (widen d) = Unit {0}

-- All other files are as they were, and the leader of the file that is written stands where it stood; each hint that misleads misled
-- before; and the sectors that are released weren't free.
pub record StaysKnown (p : Pack) (o : Operation) (released : List ℕ) (writes : List Event) : Type 0 where
  pub others : IsOnOne o → LeavesOthers (written_file o) p (after p writes)
  pub leader : IsOnOne o → KeepsPages (written_file o) 0 p (after p writes)
  pub misled : MisledBefore p writes
  pub held : All (λ at. is_free_at p at ≡ false) released

abbrev pub WrittenStaysKnown : Type 0
WrittenStaysKnown = (p : Pack) (o : Operation) (claimed released : List ℕ) (writes : List Event) → Whole p → Tidy p → Written p o claimed released writes → StaysKnown p o released writes
