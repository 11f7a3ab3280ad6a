-- Files that were found, over several operations.
use Rattle.std.proofs.Common.{Err, List, Ok, OnOk, Result, Some, [], ap, false, subst, sym, ℕ, ◌++◌, ◌∙◌, ◌∷◌, ◌≡◌}
use Rattle.std.proofs.lemmas.Result.{on_ok_weaker}
use Rattle.std.specs.Option.{option_map}
use Rattle.laws_call.specs.alto_words.specs.Fid.{is_fid}
use Rattle.laws_call.specs.alto_words.specs.declared.fid.Fid.{Fid}
use Rattle.laws_call.specs.alto_words.specs.declared.wanted.Wanted.TheVariants.{Exact}
use Rattle.laws_call.proofs.several.Laws.{done_stands}
use Rattle.laws_call.specs.disk_records.proofs.Growing.{after-append, pack-after, pack-silent}
use Rattle.laws_call.specs.disk_records.specs.Packs.{Pack, after, sector_at}
use Rattle.laws_call.specs.disk_records.specs.Tapes.{pack}
use Rattle.laws_call.specs.disk_records.specs.declared.records.Event.{Event}
use Rattle.laws_call.specs.disk_records.specs.declared.records.Place.{Place}
use Rattle.laws_call.specs.disk_records.specs.declared.records.Place.TheVariants.{Entry, Held, Next, Root}
use Rattle.laws_call.specs.Acting.{begun, refused}
use Rattle.laws_call.specs.Going.{Goes}
use Rattle.laws_call.specs.Several.{look, none, then}
use Rattle.laws_call.specs.Writing.{Written, cuts, drops, enters, grows, leaves, makes, puts, stamps, titles, widens}
use Rattle.laws_call.specs.laws_line.proofs.crashes.Laws.{crashes_of_an_unmarked_line}
use Rattle.laws_call.specs.laws_line.specs.CrashLaws.{Batch, LineStays, with_serial}
use Rattle.laws_call.specs.laws_line.specs.Ready.{steps_of}
use Rattle.laws_call.specs.laws_lookup.proofs.slots.Laws.{lookup_is_the_models}
use Rattle.laws_call.specs.laws_operation.proofs.descriptor.Laws.{serial_carries_out}
use Rattle.laws_call.specs.pack_model.specs.operations.Committing.{moves_of_all}
use Rattle.laws_call.specs.pack_model.specs.operations.Step.Operation.{make}
use Rattle.laws_call.specs.pack_model.specs.operations.Step.{Operation, step}
use Rattle.laws_call.specs.pack_model.specs.reading.Lookup.{entered}
use Rattle.laws_call.specs.pack_model.specs.reading.Model.{Model, dir_items, read_as}
use Rattle.laws_call.specs.pack_model.specs.reading.Versions.{Entered, exact}
use Rattle.laws_call.specs.pack_model.specs.scavenger.Scavenging.{Unmarked}
use Rattle.laws_call.specs.pack_model.specs.sessions.Descriptor.{serial_writes}
use Rattle.laws_call.specs.pack_model.specs.states.Whole.{Tidy, Whole}
use Rattle.laws_steps.proofs.inside.Descriptor.{serial_keeps_found}
use Rattle.laws_steps.proofs.inside.Keeping.{written_keeps_found}
use Rattle.laws_steps.specs.KeepingLaws.{IfByEntry, StaysEntered}
use Rattle.laws_steps.specs.LineKeepingLaws.{CallKeepsFound, DoneKeepsFound, KeepsFound, LaterKeepsFound, MakeKeepsFound, ModelsFoundStaysEntered, NoneKeepsFound, OneCallKeepsFound, OneKeepsFound, SerialAndMakeKeepFound, StaysFound, StaysFoundOver, WrittenKeepsFoundOver}

-- ---- by the model
-- what is asked of an entry follows from another thing that is asked of it
if_by_weaker : {P Q : Type 0} (from : Place) → (P → Q) → IfByEntry from P → IfByEntry from Q
if_by_weaker Root f h = tt
if_by_weaker (Entry d w) f h = f h
if_by_weaker (Next i) f h = tt
if_by_weaker (Held i) f h = tt

pub models_found_stays_entered : ModelsFoundStaysEntered
models_found_stays_entered p o claimed released writes g from t h found = by h found
  where
    by : {o : Operation} {claimed released : List ℕ} {writes : List Event} → Written p o claimed released writes → StaysFound (read_as p) o g from → StaysEntered p o g from
    by (puts can past_end) found = tt
    by (grows file can) found = tt
    by (cuts can) found = tt
    by (titles can stored) found = tt
    by (stamps can size last) found = tt
    by (makes can) found = tt
    by (drops may has) found = found
    by (leaves {d = d} {name = name} has same no_system) found =
        if_by_weaker from (λ (all : (e : Entered) → exact name (dir_items (read_as p) d) ≡ Some e → is_fid g e.0 ≡ false). λ e is.
        all (entered e) (sym (lookup_is_the_models p d (Exact name) t has.living has.directory) ∙ ap (option_map entered) is)) found
    by (enters can leader) found = tt
    by (widens dir can) found = tt

-- ---- over several operations
pub none_keeps_found : NoneKeepsFound
none_keeps_found p g at from stays h = h

pub one_keeps_found : OneKeepsFound
one_keeps_found p o claimed released writes w t h g at from stays found = written_keeps_found p o claimed released writes g at from w t h (models_found_stays_entered p o claimed released writes g from t h stays.0) found

-- a call that wrote nothing isn't done
never_ok : {T E : Type 0} (P : Type 0) (result : Result T E) → OnOk result ⊥ → OnOk result P
never_ok P (Ok x) bad = absurd bad
never_ok P (Err e) bad = tt

pub one_call_keeps_found : (T E : Type 0) → OneCallKeepsFound T E
one_call_keeps_found T E fault memory o claimed old new result w t (refused quiet bad rich) = never_ok _ result bad
one_call_keeps_found T E fault memory o claimed old new result w t (begun b) =
    on_ok_weaker result (λ all. subst (λ l. KeepsFound (pack old.tape) (after (pack old.tape) l) (o ∷ [])) (sym all) (one_keeps_found (pack old.tape) o claimed b.released b.writes w t b.exact)) b.all

pub make_keeps_found : MakeKeepsFound
make_keeps_found p at last f name moment claimed released writes w t there above h g bt from stays found =
    let k = (serial_carries_out p at last w t there above).keeps in
    one_keeps_found (with_serial p at last) (make f name moment) claimed released writes k.whole k.tidy h g bt from (tt, tt) (serial_keeps_found p at last g bt from w t there above found)

-- what stays found over all of them stays so over the first ones, and then over the others
first_ones : (m : Model) (ops more : List Operation) (g : Fid) (from : Place) → StaysFoundOver m (ops ++ more) g from → StaysFoundOver m ops g from
first_ones m [] more g from h = tt
first_ones m (o ∷ ops) more g from h = (h.0, first_ones (step m o) ops more g from h.1)

others : (m : Model) (ops more : List Operation) (g : Fid) (from : Place) → StaysFoundOver m (ops ++ more) g from → StaysFoundOver (steps_of m ops) more g from
others m [] more g from h = h
others m (o ∷ ops) more g from h = others (step m o) ops more g from h.1

pub later_keeps_found : LaterKeepsFound
later_keeps_found p q r ops more reads first second g at from stays h =
    second g at from (subst (λ m. StaysFoundOver m more g from) (sym reads) (others (read_as p) ops more g from stays)) (first g at from (first_ones (read_as p) ops more g from stays) h)

-- ---- over operations that are done
pub done_keeps_found : (E : Type 0) → DoneKeepsFound E
done_keeps_found E fault memory old ops claimed new w t none = none_keeps_found (pack old.tape)
done_keeps_found E fault memory old ops claimed new w t (look {mid = mid} done quiet went) =
    subst (λ q. KeepsFound (pack old.tape) q ops) (sym (pack-silent went.alone.grown quiet.silent)) (done_keeps_found E fault memory old ops claimed mid w t done)
done_keeps_found E fault memory old all_ops all_claimed new w t (then {ops = ops} {claimed = claimed} {own = own} {mid = mid} {o = o} done one) =
    let s = done_stands E fault memory old ops claimed mid w t done in
    later_keeps_found (pack old.tape) (pack mid.tape) (pack new.tape) ops (o ∷ []) s.reads (done_keeps_found E fault memory old ops claimed mid w t done)
    (subst (λ q. KeepsFound (pack mid.tape) q (o ∷ [])) (sym (pack-after one.went.alone.grown)) (one_call_keeps_found (Unit {0}) E fault memory o own mid new (Ok tt) s.whole s.tidy one.operates))

-- ---- over calls
-- the pack after calls
module _ {U F : Type 0} (p : Pack) (ops : List Operation) (events : List Event) (x : U) (w : Whole p) (t : Tidy p) (u : Unmarked p) (first : Goes {E = F} p ops events (Ok x)) where
  stays_line : LineStays p events ops (moves_of_all (read_as p) ops)
  stays_line = crashes_of_an_unmarked_line p events ops w t u (subst (λ l. Batch p l ops) (sym first.all.1) (subst (λ l. Batch p first.writes l) first.all.0 first.line))

pub written_keeps_found_over : (U F : Type 0) → WrittenKeepsFoundOver U F
written_keeps_found_over U F p ops events x o claimed released writes w t u first before h =
    let s = stays_line p ops events x w t u first in
    later_keeps_found p (after p events) (after p (events ++ writes)) ops (o ∷ []) s.reads before
    (subst (λ q. KeepsFound (after p events) q (o ∷ [])) (sym (after-append p events writes)) (one_keeps_found (after p events) o claimed released writes s.whole s.tidy h))

pub call_keeps_found : (T U E F : Type 0) → CallKeepsFound T U E F
call_keeps_found T U E F p ops events x fault memory o claimed old new result w t u first before same (refused quiet bad rich) = never_ok _ result bad
call_keeps_found T U E F p ops events x fault memory o claimed old new result w t u first before same (begun b) =
    on_ok_weaker result (λ all. subst (λ l. KeepsFound p (after p (events ++ l)) (ops ++ o ∷ [])) (sym all)
    (written_keeps_found_over U F p ops events x o claimed b.released b.writes w t u first before (subst (λ q. Written q o claimed b.released b.writes) same b.exact))) b.all

pub serial_and_make_keep_found : (T U E F : Type 0) → SerialAndMakeKeepFound T U E F
serial_and_make_keep_found T U E F p ops events x f name moment at last fault memory claimed old new result w t u first before there above same (refused quiet bad rich) = never_ok _ result bad
serial_and_make_keep_found T U E F p ops events x f name moment at last fault memory claimed old new result w t u first before there above same (begun b) =
    let s = stays_line p ops events x w t u first in
    let serial : List Event = serial_writes at last (sector_at (after p events) at).value in
    let end : after p (events ++ (serial ++ b.writes)) ≡ after (with_serial (after p events) at last) b.writes = after-append p events (serial ++ b.writes) ∙ after-append (after p events) serial b.writes in
    let made : KeepsFound (after p events) (after (with_serial (after p events) at last) b.writes) (make f name moment ∷ []) =
    make_keeps_found (after p events) at last f name moment claimed b.released b.writes s.whole s.tidy there above (subst (λ q. Written q (make f name moment) claimed b.released b.writes) same b.exact) in
    let all : KeepsFound p (after p (events ++ (serial ++ b.writes))) (ops ++ make f name moment ∷ []) =
    later_keeps_found p (after p events) (after p (events ++ (serial ++ b.writes))) ops (make f name moment ∷ []) s.reads before (subst (λ q. KeepsFound (after p events) q (make f name moment ∷ [])) (sym end) made) in
    on_ok_weaker result (λ e. subst (λ l. KeepsFound p (after p (events ++ (serial ++ l))) (ops ++ make f name moment ∷ [])) (sym e) all) b.all
