-- Properties of each crash, by parts of the events; and moves whose crash points can be scavenged.
use Rattle.std.proofs.Common.{List, [], ap, subst, suc, sym, zero, ℕ, ◌++◌, ◌∷◌}
use Rattle.disk_records.specs.Events.{IsFirstOf}
use Rattle.disk_records.specs.Packs.{Pack, after, crash}
use Rattle.disk_records.specs.declared.records.Event.{Event}
use Rattle.pack_model.specs.sessions.Moves.{rest, write}
use Rattle.pack_model.specs.scavenger.Scavenging.{Throughout}
use Rattle.pack_model.specs.showing.Settling.{settle}
use Rattle.pack_model.specs.showing.View.{view}
use Rattle.laws_room.specs.laws_record.proofs.Chaining.{at_cut}
use Rattle.laws_line.specs.PartLaws.{CrashByCrash, CrashesOfBothParts, CrashesOfParts, OperationsAreInSession, ReadAndMendableOperates, ViewedAndMendableInSession, ViewedAndMendableOperates}

-- ---- a property of packs
module _ (P : Pack → Type 0) where
  -- the first crash
  first_cut : (p : Pack) (events : List Event) → Throughout P p events → P p
  first_cut p [] r = r
  first_cut p (e ∷ events) r = r.0

  first_part : (p : Pack) (a b : List Event) → Throughout P p (a ++ b) → Throughout P p a
  first_part p [] b r = first_cut p b r
  first_part p (e ∷ a) b r = (r.0, first_part (after p (e ∷ [])) a b r.1)

  broken_part : (p : Pack) (wanted events : List Event) → IsFirstOf wanted events → Throughout P p wanted → Throughout P p events
  broken_part p wanted [] h r = first_cut p wanted r
  broken_part p [] (e ∷ events) h r = elim h [ ]
  broken_part p (w ∷ wanted) (e ∷ events) h r = (r.0, subst (λ x. Throughout P (after p (x ∷ [])) events) (sym h.0) (broken_part (after p (w ∷ [])) wanted events h.1 r.1))

  later_part : (p : Pack) (a b : List Event) → Throughout P p (a ++ b) → Throughout P (after p a) b
  later_part p [] b r = r
  later_part p (e ∷ a) b r = later_part (after p (e ∷ [])) a b r.1

  pub crashes_of_parts : CrashesOfParts P
  crashes_of_parts = record { first = first_part; broken = broken_part; later = later_part }

  pub crashes_of_both_parts : CrashesOfBothParts P
  crashes_of_both_parts p [] b r s = s
  crashes_of_both_parts p (e ∷ a) b r s = (r.0, crashes_of_both_parts (after p (e ∷ [])) a b r.1 s)

  from_cuts : (p : Pack) (events : List Event) → ((k : ℕ) → P (crash p events k)) → Throughout P p events
  from_cuts p [] h = h zero
  from_cuts p (e ∷ events) h = (h zero, from_cuts (after p (e ∷ [])) events (λ k. h (suc k)))

  pub crash_by_crash : CrashByCrash P
  crash_by_crash p events = (at_cut P p events, from_cuts p events)

-- ---- moves
pub viewed_and_mendable_operates : ViewedAndMendableOperates
viewed_and_mendable_operates m p _ _ (rest here) r = rest (record { views = here; mendable = r })
viewed_and_mendable_operates m p _ _ (write {at = at} {part = part} {words = words} {events = events} {o = o} {ops = ops} here makes later) r = write (record { views = here; mendable = r.0 }) makes (viewed_and_mendable_operates _ _ events ops later r.1)

pub viewed_and_mendable_in_session : ViewedAndMendableInSession
viewed_and_mendable_in_session m p _ _ (rest here) r = rest (record { shows = ap settle here; mendable = r })
viewed_and_mendable_in_session m p _ _ (write {at = at} {part = part} {words = words} {events = events} {o = o} {ops = ops} here makes later) r = write (record { shows = ap settle here; mendable = r.0 }) makes (viewed_and_mendable_in_session _ _ events ops later r.1)

pub operations_are_in_session : OperationsAreInSession
operations_are_in_session m p _ _ (rest here) = rest (record { shows = ap settle here.views; mendable = here.mendable })
operations_are_in_session m p _ _ (write {at = at} {part = part} {words = words} {events = events} {o = o} {ops = ops} here makes later) = write (record { shows = ap settle here.views; mendable = here.mendable }) makes (operations_are_in_session _ _ events ops later)

pub read_and_mendable_operates : ReadAndMendableOperates
read_and_mendable_operates m p _ _ (rest here) r = rest (record { views = ap view here; mendable = r })
read_and_mendable_operates m p _ _ (write {at = at} {part = part} {words = words} {events = events} {o = o} {ops = ops} here makes later) r = write (record { views = ap view here; mendable = r.0 }) makes (read_and_mendable_operates _ _ events ops later r.1)
