-- Each cut of an operation is read as the model before it or after it, and is mendable where both are ready.
use Rattle.std.proofs.Common.{List, [], inl, inr, subst, sym, ◌∷◌, ◌≡◌, ◌⊎◌}
use Rattle.disk_records.specs.Packs.{Pack, after}
use Rattle.disk_records.specs.declared.records.Event.{Event}
use Rattle.disk_records.specs.declared.records.Event.TheVariants.{Wrote}
use Rattle.pack_model.specs.operations.Entering.{entry_value, values_first}
use Rattle.pack_model.specs.sessions.Meanings.{Mendable, reading}
use Rattle.pack_model.specs.reading.Model.{Model, read_as}
use Rattle.pack_model.specs.sessions.Moves.{Obeys, rest, write}
use Rattle.pack_model.specs.operations.Operations.{Move, enter_writes}
use Rattle.pack_model.specs.operations.Operations.Move.{commits, mends, quiet}
use Rattle.pack_model.specs.scavenger.Scavenging.{Throughout, Unmarked}
use Rattle.pack_model.specs.operations.Step.{Operation, step}
use Rattle.pack_model.specs.states.Whole.{Whole}
use Rattle.laws_line.proofs.inside.ReadyRoom.{ready_has_room}
use Rattle.laws_line.specs.Ready.{Ready}
use Rattle.laws_room.specs.laws_operation.proofs.EnterStages.{views_of}
use Rattle.laws_room.specs.laws_operation.specs.NameLaws.{entry_room}
use Rattle.laws_line.proofs.inside.crashes.EnterCuts.{ReadsReady, enter_ready}
use Rattle.laws_line.proofs.inside.crashes.OneCommit.{Once, Quiets, moves_once}
use Rattle.laws_line.proofs.inside.crashes.Spared.{enter_leaves_the_system}
use Rattle.laws_line.proofs.inside.crashes.Still.{Still, still_after, still_throughout, system_still, unmarked_still}
use Rattle.laws_line.specs.CrashLaws.{CrashesOfAnOperation, CrashesOfEnter}
use Rattle.laws_line.specs.SystemLaws.{LeavesSystem}
use Rattle.laws_room.specs.laws_operation.proofs.enter.Laws.{enter_carries_out}
use Rattle.laws_room.proofs.marks.Laws.{unmarked_is_unclean}
use Rattle.laws_room.proofs.rooms.Laws.{scavengeable_by_model}

-- ---- what cuts are read as
-- one model or another
abbrev pub IsEither : Model → Model → Pack → Type 0
IsEither m n q = (read_as q ≡ m) ⊎ (read_as q ≡ n)

behind : (m : Model) {n : Model} {p : Pack} {events : List Event} {os : List Move} → Obeys reading n p events os → Quiets os → Throughout (IsEither m n) p events
behind m (rest here) h = inr here
behind m (write {o = quiet} here makes later) h = (inr here, behind m later h)
behind m (write {o = commits x} here makes later) h = absurd h
behind m (write {o = mends n} here makes later) h = absurd h

either : (o : Operation) {m : Model} {p : Pack} {events : List Event} {os : List Move} → Obeys reading m p events os → Once o os → Throughout (IsEither m (step m o)) p events
either o (rest here) h = absurd h
either o (write {o = quiet} here makes later) h = (inl here, either o later h)
either o {m} (write {p = p} {at = at} {part = part} {words = words} {events = events} {o = commits x} {ops = os} here makes later) h =
    (inl here, behind m (subst (λ y. Obeys reading (step m y) (after p (Wrote at part words ∷ [])) events os) h.0 later) h.1)
either o (write {o = mends n} here makes later) h = absurd h

-- ---- properties of each cut
pub both_throughout : (P Q R : Pack → Type 0) → ((q : Pack) → P q → Q q → R q) → (p : Pack) (events : List Event) → Throughout P p events → Throughout Q p events → Throughout R p events
both_throughout P Q R f p [] h k = f p h k
both_throughout P Q R f p (e ∷ events) h k = (f p h.0 k.0, both_throughout P Q R f (after p (e ∷ [])) events h.1 k.1)

-- a pack on which the system stands, without the clean mark, that is read as a ready model
pub mendable_still : (p q : Pack) → Whole p → Unmarked p → Still p q → Ready (read_as q) → Mendable q
mendable_still p q w unmarked s ready = record {
  scavengeable = (scavengeable_by_model q (system_still p q s w)).1 (ready_has_room (read_as q) ready);
  clean_is_sound = λ clean. absurd (unmarked_is_unclean q (unmarked_still p q s unmarked) clean);
}

-- one of two ready models
pub mendable_either : (p q : Pack) (m n : Model) → Whole p → Unmarked p → Ready m → Ready n → Still p q → IsEither m n q → Mendable q
mendable_either p q m n w unmarked first last s h = mendable_still p q w unmarked s (elim h [ inl e ↦ subst Ready (sym e) first | inr e ↦ subst Ready (sym e) last ])

-- so each cut of an operation can be scavenged
pub crashes_of_an_operation : CrashesOfAnOperation
crashes_of_an_operation p events o w c spares = record {
  obeys = views_of c.meets.obeys;
  cuts = λ unmarked first last. both_throughout (Still p) (IsEither (read_as p) (step (read_as p) o)) Mendable (λ q. mendable_either p q (read_as p) (step (read_as p) o) w unmarked first last) p events (still_throughout p events spares)
      (either o c.meets.obeys (moves_once (read_as p) o));
  unmarked = unmarked_still p (after p events) (still_after p events spares);
  reads = c.ends;
  whole = c.meets.whole;
  tidy = c.meets.tidy;
}

-- and each cut of an entering
pub crashes_of_enter : CrashesOfEnter
crashes_of_enter p d name f a old b left words at next_at w t h =
    let events : List Event = enter_writes (values_first p (entry_room a old at next_at) words) at (entry_value p (entry_room a old at next_at) words) in
    let spares : LeavesSystem p events = enter_leaves_the_system p d name f a old b left words at next_at w h in
    let s = enter_carries_out p d name f a old b left words at next_at w t h in
    record {
      obeys = s.sees.obeys;
      cuts = λ unmarked first last. both_throughout (Still p) ReadsReady Mendable (λ q still ready. mendable_still p q w unmarked still ready) p events (still_throughout p events spares) (enter_ready p w t d name f a old b left words at next_at h first last);
      unmarked = unmarked_still p (after p events) (still_after p events spares);
      reads = s.ends;
      whole = s.sees.whole;
      tidy = s.sees.tidy;
    }
