-- Each cut of a line can be scavenged, and its record writes make its moves.
use Rattle.std.proofs.Common.{Bool, List, [], ap, append_assoc, arith, cond, eqb-true, false, refl, subst, sym, true, ℕ, ◌++◌, ◌∙◌, ◌∷◌, ◌≡◌}
use Rattle.std.specs.Prelude.{◌==◌}
use Rattle.disk_records.proofs.Growing.{after-append}
use Rattle.disk_records.specs.Commands.{value_writes}
use Rattle.disk_records.specs.Packs.{Pack, after, sector_at}
use Rattle.disk_records.specs.declared.records.Event.{Event}
use Rattle.disk_records.specs.declared.records.Event.TheVariants.{Wrote}
use Rattle.pack_model.specs.operations.Committing.{moves_of, moves_of_all}
use Rattle.pack_model.specs.sessions.Descriptor.{opened_value, serial_writes}
use Rattle.pack_model.specs.sessions.Meanings.{Mendable, Views, reading, viewing}
use Rattle.pack_model.specs.reading.Model.{Model, read_as}
use Rattle.pack_model.specs.sessions.Moves.{Obeys, rest, steps, write}
use Rattle.pack_model.specs.operations.Operations.Move.{quiet}
use Rattle.pack_model.specs.operations.Operations.{make_moves}
use Rattle.pack_model.specs.scavenger.Scavenging.{Unmarked}
use Rattle.pack_model.specs.reading.Sights.{sights}
use Rattle.pack_model.specs.states.Sound.{mark_of, mark_open}
use Rattle.pack_model.specs.operations.Step.{Operation, step}
use Rattle.pack_model.specs.operations.Step.Operation.{make}
use Rattle.pack_model.specs.showing.View.{view}
use Rattle.pack_model.specs.states.Whole.{Tidy, Whole}
use Rattle.laws_room.specs.pack_laws.proofs.Moving.{obeys_then, stands_last}
use Rattle.laws_line.specs.Ready.{Ready, ReadyThroughout, steps_of}
use Rattle.laws_room.specs.laws_operation.proofs.EnterStages.{views_of}
use Rattle.laws_room.specs.laws_operation.specs.DescriptorLaws.{OpensMark}
use Rattle.laws_line.proofs.inside.crashes.Cutting.{mendable_still}
use Rattle.laws_line.proofs.inside.Marked.{open_pack_is_unmarked, opened_unmarked, serial_unmarked}
use Rattle.laws_line.proofs.inside.crashes.OneCommit.{moves_step}
use Rattle.laws_line.proofs.inside.crashes.Parting.{crashes_of_both_parts}
use Rattle.laws_line.proofs.inside.crashes.Still.{still_self}
use Rattle.laws_line.specs.CrashLaws.{CrashesOfALine, CrashesOfAnUnmarkedLine, Batch, LineStays, LinesJoin, does, makes, over, with_serial}
use Rattle.laws_line.proofs.inside.SettledAgain.{first_ready}
use Rattle.laws_room.specs.laws_operation.proofs.descriptor.Laws.{open_carries_out, serial_carries_out}
use Rattle.laws_room.proofs.rooms.Laws.{sound_needs_nothing}

-- ---- the last serial aside
-- it is no matter for readiness
ready_last : (m : Model) (k : ℕ) → Ready m → Ready (record m { last = k })
ready_last m k h = record {
  fitting = record { pages = h.fitting.pages; names = h.fitting.names; slots = h.fitting.slots };
  nameless = h.nameless;
  named = record { main = h.named.main; descriptor = h.named.descriptor; others = h.named.others };
  room = h.room;
}

-- nor for the moves of a make, which come to the same from another model that is viewed the same
make_from : {m : Model} {p : Pack} {events : List Event} {o : Operation} → Obeys viewing m p events (make_moves o) → (n : Model) → view m ≡ view n → step m o ≡ step n o → Obeys viewing n p events (make_moves o)
make_from (write h1 m1 (write h2 m2 (write h3 m3 (write h4 m4 (write {p = p} {at = at} {part = part} {words = words} {events = events} h5 m5 later))))) n v e =
    write (h1 ∙ v) m1 (write (h2 ∙ v) m2 (write (h3 ∙ v) m3 (write (h4 ∙ v) m4 (write (h5 ∙ v) m5 (subst (λ x. Obeys viewing x (after p (Wrote at part words ∷ [])) events (quiet ∷ [])) e later)))))

-- ---- one after another
-- one pack that is read as a ready model
mendable_now : (p : Pack) → Whole p → Unmarked p → Ready (read_as p) → Mendable p
mendable_now p w unmarked ready = mendable_still p p w unmarked (still_self p) ready

-- the rest of a line, from the model after its first operation
later_obeys : (q : Pack) (m : Model) (later : List Event) (ops : List Operation) → read_as q ≡ m → Obeys viewing (read_as q) q later (moves_of_all (read_as q) ops) → Obeys viewing m q later (moves_of_all m ops)
later_obeys q m later ops e h = subst (λ x. Obeys viewing x q later (moves_of_all x ops)) e h

leaves : {p : Pack} {events : List Event} {ops : List Operation} → Batch p events ops → Whole p → Tidy p → Unmarked p → LineStays p events ops (moves_of_all (read_as p) ops)
leaves (over {p = p}) w t unmarked = record { obeys = rest refl; cuts = λ ready. mendable_now p w unmarked ready; unmarked = unmarked; whole = w; tidy = t; reads = refl }
leaves (does {p = p} {events = events} {later = later} {o = o} {ops = ops} other s line) w t unmarked =
    let m : Model = read_as p in
    let q : Pack = after p events in
    let h = leaves line s.whole s.tidy (s.unmarked unmarked) in
    let both : after p (events ++ later) ≡ after q later = after-append p events later in
    let next : Obeys viewing (steps viewing m (moves_of m o)) q later (moves_of_all (step m o) ops) = subst (λ x. Obeys viewing x q later (moves_of_all (step m o) ops)) (sym (moves_step Views m o)) (later_obeys q (step m o) later ops s.reads h.obeys) in
    record {
      obeys = subst (λ first. Obeys viewing m p (events ++ later) ((first ++ moves_of m o) ++ moves_of_all (step m o) ops)) (sym other) (obeys_then viewing s.obeys next);
      cuts = λ ready. crashes_of_both_parts Mendable p events later (s.cuts unmarked ready.0 (first_ready (step m o) ops ready.1)) (h.cuts (subst (λ x. ReadyThroughout x ops) (sym s.reads) ready.1));
      unmarked = subst Unmarked (sym both) h.unmarked;
      whole = subst Whole (sym both) h.whole;
      tidy = subst Tidy (sym both) h.tidy;
      reads = ap read_as both ∙ h.reads ∙ ap (λ x. steps_of x ops) s.reads;
    }
leaves (makes {p = p} {at = at} {last = last} {events = events} {later = later} {f = f} {name = name} {moment = moment} {ops = ops} placed more s line) w t unmarked =
    let m : Model = read_as p in
    let o : Operation = make f name moment in
    let q : Pack = with_serial p at last in
    let r : Pack = after q events in
    let g = serial_carries_out p at last w t placed more in
    let still : Unmarked q = serial_unmarked p at last unmarked placed in
    let h = leaves line s.whole s.tidy (s.unmarked still) in
    let both : after q (events ++ later) ≡ after r later = after-append q events later in
    let same : step (read_as q) o ≡ step m o = ap (λ x. step x o) g.reads in
    let reads : read_as r ≡ step m o = s.reads ∙ same in
    let made : Obeys viewing m q events (make_moves o) = make_from s.obeys m (stands_last viewing g.obeys) same in
    record {
      obeys = obeys_then viewing g.obeys (obeys_then viewing made (later_obeys r (step m o) later ops reads h.obeys));
      cuts = λ ready. (
        mendable_now p w unmarked ready.0,
        crashes_of_both_parts Mendable q events later
            (s.cuts still (subst Ready (sym g.reads) (ready_last m last ready.0)) (subst Ready (sym same) (first_ready (step m o) ops ready.1)))
            (h.cuts (subst (λ x. ReadyThroughout x ops) (sym reads) ready.1)),
      );
      unmarked = subst Unmarked (sym both) h.unmarked;
      whole = subst Whole (sym both) h.whole;
      tidy = subst Tidy (sym both) h.tidy;
      reads = ap read_as both ∙ h.reads ∙ ap (λ x. steps_of x ops) reads;
    }

-- ---- lines together
join : {p : Pack} {a : List Event} {ops : List Operation} (b : List Event) (more : List Operation) → Batch p a ops → Batch (after p a) b more → Batch p (a ++ b) (ops ++ more)
join b more over next = next
join b more (does {p = p} {events = events} {later = later} {o = o} {ops = ops} other s line) next =
    subst (λ es. Batch p es (o ∷ (ops ++ more))) (sym (append_assoc events later b)) (does other s (join b more line (subst (λ q. Batch q b more) (after-append p events later) next)))
join b more (makes {p = p} {at = at} {last = last} {events = events} {later = later} {f = f} {name = name} {moment = moment} {ops = ops} placed above s line) next =
    subst (λ es. Batch p (serial_writes at last (sector_at p at).value ++ es) (make f name moment ∷ (ops ++ more))) (sym (append_assoc events later b))
    (makes placed above s (join b more line (subst (λ q. Batch q b more) (after-append (with_serial p at last) events later) next)))

-- ---- the laws
pub lines_join : LinesJoin
lines_join p a b ops more line next = join b more line next

pub crashes_of_an_unmarked_line : CrashesOfAnUnmarkedLine
crashes_of_an_unmarked_line p events ops w t unmarked line = leaves line w t unmarked

pub crashes_of_a_line : CrashesOfALine
crashes_of_a_line p at events [] sound placed some line = absurd (omega arith)
crashes_of_a_line p at events (o ∷ ops) sound placed some line = by (mark_of (sights p) == mark_open) refl (open_carries_out p at o ops sound.whole sound.tidy placed) line
  where
    by : (c : Bool) → (mark_of (sights p) == mark_open) ≡ c → OpensMark p (cond c [] (value_writes at (opened_value (sector_at p at).value))) (cond c [] (quiet ∷ [])) → Batch (after p (cond c [] (value_writes at (opened_value (sector_at p at).value)))) events (o ∷ ops)
        → LineStays p (cond c [] (value_writes at (opened_value (sector_at p at).value)) ++ events) (o ∷ ops) (cond c [] (quiet ∷ []) ++ moves_of_all (read_as p) (o ∷ ops))
    by true e opens line = leaves line sound.whole sound.tidy (open_pack_is_unmarked p sound.whole (eqb-true (mark_of (sights p)) mark_open e))
    by false e opens line =
        let q : Pack = after p (value_writes at (opened_value (sector_at p at).value)) in
        let h = leaves line opens.keeps.whole opens.keeps.tidy (opened_unmarked p at placed) in
        let same : read_as q ≡ read_as p = stands_last reading opens.obeys in
        record {
          obeys = obeys_then viewing (views_of opens.obeys) (later_obeys q (read_as p) events (o ∷ ops) same h.obeys);
          cuts = λ ready. (record { scavengeable = (sound_needs_nothing p sound).1; clean_is_sound = λ clean. sound }, h.cuts (subst (λ x. ReadyThroughout x (o ∷ ops)) (sym same) ready));
          unmarked = h.unmarked;
          whole = h.whole;
          tidy = h.tidy;
          reads = h.reads ∙ ap (λ x. steps_of x (o ∷ ops)) same;
        }
