-- Record writes that make moves of a model, one after another.
use Rattle.std.proofs.Common.{◌≡◌, ℕ, ◌≤◌, zero, suc, List, [], ◌∷◌, ◌++◌, length, take, refl, sym, subst, ◌∙◌, ap, arith, Result, Ok, Err, OnOk}
use Rattle.pack_model.specs.disk_records.specs.declared.records.Event.{Event}
use Rattle.pack_model.specs.disk_records.specs.Events.{IsFirstOf}
use Rattle.pack_model.specs.disk_records.specs.Packs.{Pack, after}
use Rattle.pack_model.specs.disk_records.specs.Tapes.{Taped, pack, added}
use Rattle.pack_model.specs.disk_records.proofs.Growing.{after-append, nothing_added}
use Rattle.pack_model.specs.sessions.Moves.{Meaning, steps, Obeys, rest, write, IsStartOf, Does}

-- ---- prefixes of lists
-- all of a list is a prefix of it
pub start_self : {X : Type 0} (ops : List X) → IsStartOf ops ops
start_self [] = tt
start_self (o ∷ ops) = (refl, start_self ops)

-- the same list before both
pub start_after : {X : Type 0} (done ops wanted : List X) → IsStartOf ops wanted → IsStartOf (done ++ ops) (done ++ wanted)
start_after [] ops wanted h = h
start_after (d ∷ done) ops wanted h = (refl, start_after done ops wanted h)

-- a prefix that is no longer than so many first ones is a prefix of these
pub start_within : {X : Type 0} (a all : List X) (k : ℕ) → IsStartOf a all → length a ≤ length (take k all) → IsStartOf a (take k all)
start_within [] all k h few = tt
start_within (x ∷ a) [] k h few = elim h [ ]
start_within (x ∷ a) (y ∷ all) zero h few = absurd (omega arith)
start_within (x ∷ a) (y ∷ all) (suc k) h few = (h.0, start_within a all k h.1 (omega arith))

-- ---- runs of writes
-- the events make a prefix of the wanted moves
pub record MadeFirst {M O : Type 0} (means : Meaning M O) (m : M) (p : Pack) (events : List Event) (wanted : List O) : Type 0 where
  pub ops : List O
  pub start : IsStartOf ops wanted
  pub each : Obeys means m p events ops

-- the model after moves and then more of them
pub steps-append : {M O : Type 0} (means : Meaning M O) (m : M) (ops more : List O) → steps means m (ops ++ more) ≡ steps means (steps means m ops) more
steps-append means m [] more = refl
steps-append means m (o ∷ ops) more = steps-append means (means.step m o) ops more

module _ {M O : Type 0} (means : Meaning M O) where
  -- the pack after the writes stands for the model after the moves
  pub stands_last : {m : M} {p : Pack} {events : List Event} {ops : List O} → Obeys means m p events ops → means.Stands (steps means m ops) (after p events)
  stands_last (rest here) = here
  stands_last (write here makes later) = stands_last later

  -- two runs of writes, the second from where the first ends, are one
  pub obeys_then : {m : M} {p : Pack} {a b : List Event} {ops more : List O} → Obeys means m p a ops → Obeys means (steps means m ops) (after p a) b more → Obeys means m p (a ++ b) (ops ++ more)
  obeys_then (rest here) next = next
  obeys_then (write here makes later) next = write here makes (obeys_then later next)

  -- each cut stands for the model after as many moves
  pub crash_of_run : {m : M} {p : Pack} {events : List Event} {ops : List O} → Obeys means m p events ops → (k : ℕ) → means.Stands (steps means m (take k ops)) (after p (take k events))
  crash_of_run (rest here) zero = here
  crash_of_run (rest here) (suc k) = here
  crash_of_run (write here makes later) zero = here
  crash_of_run (write here makes later) (suc k) = crash_of_run later k

  -- a prefix of the writes make a prefix of the moves
  pub obeys_first : {m : M} {p : Pack} {writes : List Event} {wanted : List O} → Obeys means m p writes wanted → (events : List Event) → IsFirstOf writes events → MadeFirst means m p events wanted
  obeys_first (rest here) [] first = record { ops = []; start = tt; each = rest here }
  obeys_first (rest here) (x ∷ events) first = elim first [ ]
  obeys_first (write {o = o} here makes later) [] first = record { ops = []; start = tt; each = rest here }
  obeys_first (write {o = o} here makes later) (x ∷ events) first =
      let l = obeys_first later events first.1 in
      record { ops = o ∷ l.ops; start = (refl, l.start); each = rw first.0 (write here makes l.each) }

-- ---- calls
module _ {M O : Type 0} (means : Meaning M O) where
  -- nothing is wanted and nothing was written
  pub does_nothing : {T E : Type 0} (p : Pack) (result : Result T E) → means.Stands (means.read p) p → Does means p [] [] result
  does_nothing p result here =
      record {
        ops = [];
        start = tt;
        each = rest here;
        all = elim result as (λ r. OnOk r (◌≡◌ {A = List O} [] [])) [ Ok y ↦ refl | Err e ↦ tt ];
        ends = elim result as (λ r. OnOk r (means.read p ≡ means.read p)) [ Ok y ↦ refl | Err e ↦ tt ];
      }

  -- the same of a machine to which nothing has happened since
  pub does_start : {T E : Type 0} (x : Taped) (result : Result T E) → means.Stands (means.read (pack x)) (pack x) → Does means (pack x) (added x x) [] result
  does_start {T} {E} x result here = let none : added x x ≡ [] = nothing_added x.events in rw none (does_nothing (pack x) result here)

  -- a call that says which writes it does makes their moves, and at every answer a prefix of them
  pub does_first : {T E : Type 0} {p : Pack} {writes : List Event} {wanted : List O} (events : List Event) (result : Result T E) → Obeys means (means.read p) p writes wanted → means.read (after p writes) ≡ steps means (means.read p) wanted → IsFirstOf writes events → OnOk result (events ≡ writes) → Does means p events wanted result
  does_first {T} {E} {p} {writes} {wanted} events (Ok x) all ends first ok =
      record { ops = wanted; start = start_self wanted; each = subst (λ l. Obeys means (means.read p) p l wanted) (sym ok) all; all = refl; ends = ap (λ l. means.read (after p l)) ok ∙ ends }
  does_first {T} {E} {p} {writes} {wanted} events (Err e) all ends first ok =
      let l = obeys_first means all events first in
      record { ops = l.ops; start = l.start; each = l.each; all = tt; ends = tt }

  module _ {T U E F : Type 0} where
    -- two calls that name their packs: all of the first, and then the next goes on
    pub then_does : {p : Pack} {a b : List Event} {wanted more : List O} {x : U} {result : Result T E} → Does {E = F} means p a wanted (Ok x) → Does means (after p a) b more result → Does means p (a ++ b) (wanted ++ more) result
    then_does {p} {a} {b} {wanted} {more} {x} {result} first next =
        record {
          ops = wanted ++ next.ops;
          start = start_after wanted next.ops more next.start;
          each = obeys_then means (subst (λ o. Obeys means (means.read p) p a o) first.all first.each) (subst (λ m. Obeys means m (after p a) b next.ops) first.ends next.each);
          all = elim result as (λ r. OnOk r (next.ops ≡ more) → OnOk r (wanted ++ next.ops ≡ wanted ++ more)) [ Ok y ↦ λ e. ap (λ l. wanted ++ l) e | Err e ↦ λ h. tt ] next.all;
          ends = elim result as (λ r. OnOk r (means.read (after (after p a) b) ≡ steps means (means.read (after p a)) more) → OnOk r (means.read (after p (a ++ b)) ≡ steps means (means.read p) (wanted ++ more))) [
            | Ok y ↦ λ e. ap means.read (after-append p a b) ∙ e ∙ ap (λ m. steps means m more) first.ends ∙ sym (steps-append means (means.read p) wanted more)
            | Err e ↦ λ h. tt
          ] next.ends;
        }
