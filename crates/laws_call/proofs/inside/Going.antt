-- Calls one after another as the operations of a line.
use Rattle.std.proofs.Common.{Err, List, Ok, OnOk, Result, Some, [], ap, refl, subst, sym, ℕ, ◌++◌, ◌∙◌, ◌∷◌, ◌≡◌, ◌≤◌}
use Rattle.std.proofs.lemmas.List.{append-nil}
use Rattle.laws_hint.specs.alto_words.specs.Fid.{disk_descriptor}
use Rattle.laws_hint.specs.alto_words.specs.declared.fid.Fid.{Fid}
use Rattle.laws_hint.specs.disk_records.proofs.FirstOnes.{first_all, first_front, first_then}
use Rattle.laws_hint.specs.disk_records.specs.Events.{IsFirstOf}
use Rattle.laws_hint.specs.disk_records.specs.Packs.{Pack, after, sector_at}
use Rattle.laws_hint.specs.disk_records.specs.Tapes.{added, pack}
use Rattle.laws_hint.specs.disk_records.specs.declared.records.Event.{Event}
use Rattle.laws_hint.specs.pack_model.specs.operations.Committing.{serial_moves}
use Rattle.laws_hint.specs.pack_model.specs.operations.Step.Operation.{make}
use Rattle.laws_hint.specs.pack_model.specs.operations.Step.{Operation}
use Rattle.laws_hint.specs.pack_model.specs.reading.Files.{place}
use Rattle.laws_hint.specs.pack_model.specs.reading.Model.{read_as}
use Rattle.laws_hint.specs.pack_model.specs.reading.Sights.{sights}
use Rattle.laws_hint.specs.pack_model.specs.sessions.Descriptor.{serial_writes}
use Rattle.laws_hint.specs.pack_model.specs.sessions.Moves.{IsStartOf}
use Rattle.laws_hint.specs.pack_laws.proofs.Moving.{start_self}
use Rattle.laws_call.specs.Acting.{Around, Operates, begun, refused}
use Rattle.laws_call.specs.GoingLaws.{CallJoins, LineStops, NoCallYet, OperationJoins, SerialAndMakeJoin, SilentCallJoins}
use Rattle.laws_call.specs.Going.{Goes}
use Rattle.laws_hint.specs.laws_line.proofs.crashes.Laws.{lines_join}
use Rattle.laws_hint.specs.laws_line.specs.CrashLaws.{Batch, StaysMendable, does, makes, over, with_serial}

-- ---- prefixes and answers
start_front : {X : Type 0} (a b : List X) → IsStartOf a (a ++ b)
start_front [] b = tt
start_front (x ∷ a) b = (refl, start_front a b)

start_longer : {X : Type 0} (a b c : List X) → IsStartOf a b → IsStartOf a (b ++ c)
start_longer [] b c h = tt
start_longer (x ∷ a) [] c h = elim h [ ]
start_longer (x ∷ a) (y ∷ b) c h = (h.0, start_longer a b c h.1)

never_ok : {T E : Type 0} (P : Type 0) (result : Result T E) → OnOk result ⊥ → OnOk result P
never_ok P (Ok x) bad = absurd bad
never_ok P (Err e) bad = tt

on_ok : {T E : Type 0} (P Q : Type 0) (result : Result T E) → (P → Q) → OnOk result P → OnOk result Q
on_ok P Q (Ok x) f h = f h
on_ok P Q (Err e) f h = tt

always : {T E : Type 0} (P : Type 0) (result : Result T E) → P → OnOk result P
always P (Ok x) h = h
always P (Err e) h = tt

-- ---- calls
-- one operation as a line
alone : {p : Pack} {events : List Event} {o : Operation} → serial_moves o ≡ [] → StaysMendable p events o → Batch p events (o ∷ [])
alone {p} {events} {o} none stays = subst (λ l. Batch p l (o ∷ [])) (append-nil events) (does none stays over)

-- a make and its serial
made : {p : Pack} {at last : ℕ} {events : List Event} {f : Fid} {name : List ℕ} {moment : ℕ} → place (sights p) disk_descriptor 1 ≡ Some at → (read_as p).last ≤ last → StaysMendable (with_serial p at last) events (make f name moment)
    → Batch p (serial_writes at last (sector_at p at).value ++ events) (make f name moment ∷ [])
made {p} {at} {last} {events} {f} {name} {moment} placed above stays = subst (λ l. Batch p (serial_writes at last (sector_at p at).value ++ l) (make f name moment ∷ [])) (append-nil events) (makes placed above stays over)

pub no_call_yet : (T E : Type 0) → NoCallYet T E
no_call_yet T E p result = record { begun = []; start = tt; writes = []; line = over; some = tt; all = always (([] ≡ []) × ([] ≡ [])) result (refl, refl) }

module _ {U F : Type 0} {p : Pack} {ops : List Operation} {events : List Event} {x : U} (first : Goes {E = F} p ops events (Ok x)) where
  -- all of the line so far
  before : Batch p events ops
  before = subst (λ l. Batch p l ops) (sym first.all.1) (subst (λ l. Batch p first.writes l) first.all.0 first.line)

  -- and then a line of one operation, of which some first record writes were made
  then_one : {T E : Type 0} (o : Operation) (writes some : List Event) (result : Result T E) → Batch (after p events) writes (o ∷ []) → IsFirstOf writes some → OnOk result (some ≡ writes) → Goes p (ops ++ o ∷ []) (events ++ some) result
  then_one o writes some result one prefix all = record {
    begun = ops ++ o ∷ [];
    start = start_self (ops ++ o ∷ []);
    writes = events ++ writes;
    line = lines_join p events writes ops (o ∷ []) before one;
    some = first_then events writes events some refl prefix;
    all = on_ok (some ≡ writes) ((ops ++ o ∷ [] ≡ ops ++ o ∷ []) × (events ++ some ≡ events ++ writes)) result (λ e. (refl, ap (λ l. events ++ l) e)) all;
  }

pub operation_joins : (T U E F : Type 0) → OperationJoins T U E F
operation_joins T U E F p ops events x o writes some result first none stays prefix all = then_one first o writes some result (alone none stays) prefix all

pub call_joins : (T U E F : Type 0) → CallJoins T U E F
call_joins T U E F p ops events x fault memory o claimed old new result first same none (refused quiet bad rich) = record {
  begun = ops;
  start = start_front ops (o ∷ []);
  writes = events;
  line = before first;
  some = subst (IsFirstOf events) (sym (ap (λ l. events ++ l) quiet.silent ∙ append-nil events)) (first_all events);
  all = never_ok ((ops ≡ ops ++ o ∷ []) × (events ++ added old.tape new.tape ≡ events)) result bad;
}
call_joins T U E F p ops events x fault memory o claimed old new result first same none (begun b) =
    then_one first o b.writes (added old.tape new.tape) result (subst (λ q. Batch q b.writes (o ∷ [])) same (alone none b.acts.stays)) b.some b.all

pub silent_call_joins : (T U E F : Type 0) → SilentCallJoins T U E F
silent_call_joins T U E F p ops events x result first = record { begun = ops; start = start_self ops; writes = events; line = before first; some = first_all events; all = always ((ops ≡ ops) × (events ≡ events)) result (refl, refl) }

pub line_stops : (T U E F : Type 0) → LineStops T U E F
line_stops T U E F p ops more events result error first = record { begun = first.begun; start = start_longer first.begun ops more first.start; writes = first.writes; line = first.line; some = first.some; all = tt }

-- ---- a serial and its make
pub serial_and_make_join : (T U E F : Type 0) → SerialAndMakeJoin T U E F
serial_and_make_join T U E F p ops events x f name moment at last writes first placed above stays = record {
  serial_breaks = λ some error prefix. then_one first (make f name moment) (serial_writes at last (sector_at (after p events) at).value ++ writes) some (Err error) (made placed above stays) (first_front (serial_writes at last (sector_at (after p events) at).value) writes some prefix) tt;
  make_joins = λ fault memory claimed old new result same h. by old new result same h;
}
  where
    by : {fault memory : E} {claimed : List ℕ} (old new : Around) (result : Result T E) → pack old.tape ≡ with_serial (after p events) at last → Operates fault memory (make f name moment) claimed old new result
        → Goes p (ops ++ make f name moment ∷ []) (events ++ (serial_writes at last (sector_at (after p events) at).value ++ added old.tape new.tape)) result
    by old new result same (refused quiet bad rich) =
        then_one first (make f name moment) (serial_writes at last (sector_at (after p events) at).value ++ writes) _ result (made placed above stays)
        (first_then (serial_writes at last (sector_at (after p events) at).value) writes (serial_writes at last (sector_at (after p events) at).value) (added old.tape new.tape) refl (subst (IsFirstOf writes) (sym quiet.silent) tt))
        (never_ok (serial_writes at last (sector_at (after p events) at).value ++ added old.tape new.tape ≡ serial_writes at last (sector_at (after p events) at).value ++ writes) result bad)
    by old new result same (begun b) =
        then_one first (make f name moment) (serial_writes at last (sector_at (after p events) at).value ++ b.writes) _ result (made placed above (subst (λ q. StaysMendable q b.writes (make f name moment)) same b.acts.stays))
        (first_then (serial_writes at last (sector_at (after p events) at).value) b.writes (serial_writes at last (sector_at (after p events) at).value) (added old.tape new.tape) refl b.some)
        (on_ok (added old.tape new.tape ≡ b.writes) (serial_writes at last (sector_at (after p events) at).value ++ added old.tape new.tape ≡ serial_writes at last (sector_at (after p events) at).value ++ b.writes) result (λ e. ap (λ l. serial_writes at last (sector_at (after p events) at).value ++ l) e) b.all)
