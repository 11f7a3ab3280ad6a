-- A call that only looks while a line is midway, and one that does several operations, as steps of the line.
use Rattle.std.proofs.Common.{Contains, Err, List, Ok, Result, [], ap, inl, inr, length, refl, subst, sym, ℕ, ◌++◌, ◌∙◌, ◌∷◌, ◌≡◌}
use Rattle.std.proofs.lemmas.List.Elements.{Contains-append_cases}
use Rattle.std.proofs.lemmas.List.{append-nil}
use Rattle.std.proofs.lemmas.Result.{on_ok_weaker}
use Rattle.alto_words.specs.declared.fid.Fid.{Fid}
use Rattle.disk_records.proofs.Growing.{added-twice, grown_twice, pack-after, pack-silent}
use Rattle.disk_records.specs.Events.{writes_in}
use Rattle.disk_records.specs.Packs.{Pack, after}
use Rattle.disk_records.specs.Tapes.{Taped, added, pack}
use Rattle.exec_session.specs.laws_call.proofs.counts.Laws.{quiet_call_is_counted}
use Rattle.exec_session.specs.laws_call.specs.Acting.{Around, IsQuiet, around}
use Rattle.exec_session.specs.laws_call.specs.CountLaws.{CountedSoFar}
use Rattle.exec_session.specs.laws_call.specs.Several.{Does, DoesOne, Done, Went, began, look, looked, none, then, whole}
use Rattle.exec_session.specs.laws_hint.specs.TableLaws.{TableReserves}
use Rattle.exec_session.specs.laws_lookup.specs.StayLaws.{MisledBefore}
use Rattle.exec_session.specs.laws_midway.proofs.lines.Laws.{later_answer_misled_before}
use Rattle.exec_session.specs.laws_operation.specs.LinkLaws.{KeepsLinks}
use Rattle.exec_session.specs.laws_steps.proofs.lines.Laws.{none_keeps_found}
use Rattle.exec_session.specs.laws_steps.specs.LineKeepingLaws.{KeepsFound}
use Rattle.pack_model.specs.hints.Misled.{AnswersMisled}
use Rattle.pack_model.specs.operations.Step.{Operation}
use Rattle.pack_model.specs.reading.Model.{read_as}
use Rattle.pack_model.specs.reading.Sights.{sights}
use Rattle.pack_model.specs.sessions.Descriptor.{DescriptorFits}
use Rattle.pack_model.specs.sessions.Tallies.{Tells}
use Rattle.pack_model.specs.states.Sound.{mark_of, mark_open}
use Rattle.pack_model.specs.states.Whole.{Tidy, Whole}
use Rattle.session_model.specs.Keeping.{Kept}
use Rattle.exec_session.specs.declared.stop.Stop.{Stop}
use Rattle.exec_session.specs.declared.stop.Stop.TheVariants as stop
use Rattle.exec_steps.proofs.Joining.{step_for, step_of_nothing, step_stops, stepped_err, steps_join, steps_ok}
use Rattle.exec_steps.proofs.Stepping.{call_is_a_step, if_hint_weaker}
use Rattle.exec_session.specs.Meant.{IfHint}
use Rattle.exec_steps.specs.Midway.{AreFree, Midway, Stepped, StepsOn, moves_so_far}
use Rattle.exec_steps.specs.Several.{DoesIsAStep, LooksMidway, LooksMidwayStop, MisleadsIn, QuietIsAStep}
use Rattle.exec_steps.specs.Steps.{KeepsFitting}

-- the count of a call that is done tells its record writes
done_tells : (now : Taped) → Tells {T = Unit {0}} stop.DiskFault now (Ok tt)
done_tells now = λ fault. absurd cc

-- ---- a call that only looks
module _ (now new : Taped) (two three : Kept) (k : LooksMidway now new two three) (old : Taped) (base : Kept) (at : ℕ) (done all : List Operation) (rest : List ℕ) (m : Midway old now base two at done all rest) where
  abbrev p : Pack
  p = pack old

  same : pack new ≡ pack now
  same = pack-silent k.grown k.quiet.silent

  both : added old new ≡ added old now ++ added now new
  both = added-twice m.grown k.grown

  here : pack now ≡ after p (added old now)
  here = pack-after m.grown

  events : added old new ≡ added old now
  events = both ∙ ap (λ l. added old now ++ l) k.quiet.silent ∙ append-nil (added old now)

  -- the line is midway still
  midway_still : Midway old new base three at done all rest
  midway_still = record {
    grown = grown_twice m.grown k.grown;
    placed = m.placed;
    wrote = m.wrote;
    events = events ∙ m.events;
    line = m.line;
    many = ap length events ∙ m.many;
    reads = ap read_as same ∙ m.reads;
    whole = subst Whole (sym same) m.whole;
    tidy = subst Tidy (sym same) m.tidy;
    marked = subst (λ q. mark_of (sights q) ≡ mark_open) (sym same) m.marked;
    fits = k.keeps (pack new) (subst (λ q. DescriptorFits q two.shape two.last two.mark two.pages) (sym same) m.fits);
    counted = subst (λ moves. CountedSoFar old.writes base.tally moves (around new three.busy three.tally)) (append-nil (moves_so_far old done all))
        (quiet_call_is_counted old.writes base.tally (moves_so_far old done all) [] (around now two.busy two.tally) (around new three.busy three.tally) m.counted k.counts k.quiet.tally refl (sym (ap writes_in k.quiet.silent)));
    misled = subst (MisledBefore p) (sym events) m.misled;
    links = subst (KeepsLinks p) (sym events) m.links;
    free = subst (λ q. AreFree q rest) (sym same) m.free;
    table = λ was. subst (λ q. TableReserves q three.busy rest) (sym same) (subst (λ bits. TableReserves (pack now) bits rest) (sym k.quiet.bits) (m.table was));
  }

  module _ (T : Type 0) (files : List Fid) where
    quiet_step : (x : T) → Stepped old now new base three at done [] all rest files (Ok x)
    quiet_step x =
        let s = step_of_nothing new three files x old base at done all rest midway_still in
        record {
          wrote = s.wrote;
          events = s.events;
          goes = s.goes;
          within = s.within;
          midway = s.midway;
          found = subst (λ q. KeepsFound (pack now) q []) (sym same) (none_keeps_found (pack now));
          counted = s.counted;
          failing = tt;
        }

    -- it answered an error
    quiet_end : (error : Stop) → MisleadsIn files (around now two.busy two.tally) (around new three.busy three.tally) error → Stepped {T = T} old now new base three at done [] all rest files (Err error)
    quiet_end error hints =
        let s = step_of_nothing new three files tt old base at done all rest midway_still in
        stepped_err T (Unit {0}) old now new base three at done [] all rest files error (record {
          wrote = s.wrote;
          events = s.events;
          goes = record { begun = s.goes.begun; start = s.goes.start; writes = s.goes.writes; line = s.goes.line; some = s.goes.some; all = tt };
          within = s.within;
          midway = tt;
          found = tt;
          counted = λ tells. s.counted (done_tells new);
          failing = if_hint_weaker {T = Unit {0}} _ _ (Err error) (λ place hint wanted found h. record {
            misled = subst (λ l. AnswersMisled p l place hint wanted found) (sym both)
                (later_answer_misled_before p (added old now) (added now new) place hint wanted found m.misled (subst Whole here m.whole) (subst (λ q. AnswersMisled q (added now new) place hint wanted found) here h.1));
            on_disk = h.1.on_disk m.whole;
            file = h.0;
          }) hints;
        })

pub quiet_is_a_step : (T : Type 0) → QuietIsAStep T
quiet_is_a_step T now new two three files x k old base at done all rest m = quiet_step now new two three k old base at done all rest m T files x

pub looks_midway_stop : (T : Type 0) → LooksMidwayStop T
looks_midway_stop T now new two three files error k hints old base at done all rest m = quiet_end now new two three k old base at done all rest m T files error hints

-- ---- what is kept may differ where no step looks
-- with the same table and tally, what is kept of DiskDescriptor fits where it fitted
module _ (two three : Kept) (busy : three.busy ≡ two.busy) (tally : three.tally ≡ two.tally) (keeps : KeepsFitting two three) where
  kept_midway : {old now : Taped} {base : Kept} {at : ℕ} {done all : List Operation} {rest : List ℕ} → Midway old now base two at done all rest → Midway old now base three at done all rest
  kept_midway {old} {now} {base} {at} {done} {all} {rest} m = record {
    grown = m.grown;
    placed = m.placed;
    wrote = m.wrote;
    events = m.events;
    line = m.line;
    many = m.many;
    reads = m.reads;
    whole = m.whole;
    tidy = m.tidy;
    marked = m.marked;
    fits = keeps (pack now) m.fits;
    counted = record { writes = m.counted.writes; tally = tally ∙ m.counted.tally };
    misled = m.misled;
    links = m.links;
    free = m.free;
    table = λ was. subst (λ bits. TableReserves (pack now) bits rest) (sym busy) (m.table was);
  }

  kept_steps : {T : Type 0} (now new : Taped) (one : Kept) (ops : List Operation) (claimed : List ℕ) (files : List Fid) (result : Result T Stop) → StepsOn now new one two ops claimed files result → StepsOn now new one three ops claimed files result
  kept_steps now new one ops claimed files result steps old base at done all rest m =
      let s = steps old base at done all rest m in
      record {
        wrote = s.wrote;
        events = s.events;
        goes = s.goes;
        within = s.within;
        midway = on_ok_weaker result kept_midway s.midway;
        found = s.found;
        counted = λ tells. tally ∙ s.counted tells;
        failing = s.failing;
      }

-- ---- operations that are done
-- what is kept, with this table and this tally
abbrev kept_at : Kept → Around → Kept
kept_at k mid = record k { busy = mid.bits; tally = mid.tally }

in_either : (files : List Fid) (f : Fid) → Contains (files ++ files) f → Contains files f
in_either files f h = elim (Contains-append_cases files files f h) [ inl one ↦ one | inr other ↦ other ]

-- a step of the same files after one that is done
then_steps : {T : Type 0} (a b c : Taped) (one two three : Kept) (first second : List Operation) (claimed more : List ℕ) (files : List Fid) (result : Result T Stop)
    → StepsOn {T = Unit {0}} a b one two first claimed files (Ok tt) → StepsOn b c two three second more files result → StepsOn a c one three (first ++ second) (claimed ++ more) files result
then_steps {T} a b c one two three first second claimed more files result before behind =
    step_for a c one three (first ++ second) (claimed ++ more) (files ++ files) files result (in_either files)
    (steps_join T (Unit {0}) a b c one two three first second claimed more files files tt result before (λ left arrived. behind))

-- a look after operations that are done, from the machine with what is kept of it
after_all : {T : Type 0} (a b c : Taped) (one two three : Kept) (first : List Operation) (claimed : List ℕ) (files : List Fid) (result : Result T Stop)
    → StepsOn {T = Unit {0}} a b one two first claimed files (Ok tt) → StepsOn b c two three [] [] files result → StepsOn a c one three first claimed files result
after_all a b c one two three first claimed files result before behind =
    subst (λ l. StepsOn a c one three first l files result) (append-nil claimed)
    (subst (λ l. StepsOn a c one three l (claimed ++ []) files result) (append-nil first) (then_steps a b c one two three first [] claimed [] files result before behind))

looks_from : (two : Kept) {mid new : Around} → IsQuiet mid new → Went mid new → LooksMidway mid.tape new.tape (kept_at two mid) (kept_at two new)
looks_from two quiet went = record { grown = went.alone.grown; quiet = record { silent = quiet.silent; bits = quiet.bits; tally = quiet.tally }; counts = went.counts; keeps = λ q h. h }

-- a call that is to do one
one_steps : (two : Kept) {o : Operation} {own : List ℕ} {mid new : Around} (files : List Fid) (result : Result (Unit {0}) Stop) → DoesOne stop.DiskFault stop.Memory o own mid new result
    → IfHint result (λ place at wanted found. Contains files wanted.fid × AnswersMisled (pack mid.tape) (added mid.tape new.tape) place at wanted found) → StepsOn mid.tape new.tape (kept_at two mid) (kept_at two new) (o ∷ []) own files result
one_steps two {o} {own} {mid} {new} files result one hints =
    call_is_a_step (Unit {0}) mid.tape new.tape (kept_at two mid) (kept_at two new) o own files result one.serial
    (record { operates = one.operates; grown = one.went.alone.grown; counts = one.went.counts; low = one.low; keeps = λ q h. h; hints = hints })

done_steps : (now : Taped) (two : Kept) (ops : List Operation) (claimed : List ℕ) (files : List Fid) (new : Around) → Done stop.DiskFault stop.Memory (around now two.busy two.tally) ops claimed new
    → StepsOn {T = Unit {0}} now new.tape two (kept_at two new) ops claimed files (Ok tt)
done_steps now two ops claimed files new none = step_of_nothing now two files tt
done_steps now two ops claimed files new (look {mid = mid} done quiet went) =
    after_all now mid.tape new.tape two (kept_at two mid) (kept_at two new) ops claimed files (Ok tt)
    (done_steps now two ops claimed files mid done)
    (quiet_is_a_step (Unit {0}) mid.tape new.tape (kept_at two mid) (kept_at two new) files tt (looks_from two quiet went))
done_steps now two all_ops all_claimed files new (then {ops = ops} {claimed = claimed} {own = own} {mid = mid} {o = o} done one) =
    then_steps now mid.tape new.tape two (kept_at two mid) (kept_at two new) ops (o ∷ []) claimed own files (Ok tt)
    (done_steps now two ops claimed files mid done)
    (one_steps two files (Ok tt) one tt)

-- ---- a call that is to do them
-- an error after a first part of them
part_stops : (T : Type 0) (now new : Taped) (two three : Kept) (first more ops : List Operation) (taken others claimed : List ℕ) (files : List Fid) (error : Stop) → first ++ more ≡ ops → taken ++ others ≡ claimed
    → StepsOn {T = Unit {0}} now new two three first taken files (Err error) → StepsOn {T = T} now new two three ops claimed files (Err error)
part_stops T now new two three first more ops taken others claimed files error all_ops all_claimed steps =
    step_for now new two three ops claimed (files ++ files) files (Err error) (in_either files)
    (subst (λ l. StepsOn {T = T} now new two three l claimed (files ++ files) (Err error)) all_ops
    (subst (λ l. StepsOn {T = T} now new two three (first ++ more) l (files ++ files) (Err error)) all_claimed
    (step_stops T (Unit {0}) now new two three first more taken others files files error steps)))

-- with what is kept except the table and the tally
does_steps : (T : Type 0) (now : Taped) (two : Kept) (ops : List Operation) (claimed : List ℕ) (files : List Fid) (new : Around) (result : Result T Stop) → Does stop.DiskFault stop.Memory (MisleadsIn files) ops claimed (around now two.busy two.tally) new result
    → StepsOn now new.tape two (kept_at two new) ops claimed files result
does_steps T now two ops claimed files new (Ok x) (whole done) = steps_ok T (Unit {0}) now new.tape two (kept_at two new) ops claimed files tt x (done_steps now two ops claimed files new done)
does_steps T now two ops claimed files new (Err e) (began {first = first} {o = o} {taken = taken} {own = own} {mid = mid} more others done all_ops all_claimed one hints) =
    part_stops T now new.tape two (kept_at two new) (first ++ o ∷ []) more ops (taken ++ own) others claimed files e all_ops all_claimed
    (then_steps now mid.tape new.tape two (kept_at two mid) (kept_at two new) first (o ∷ []) taken own files (Err e)
    (done_steps now two first taken files mid done)
    (one_steps two files (Err e) one hints))
does_steps T now two ops claimed files new (Err e) (looked {first = first} {taken = taken} {mid = mid} more others done all_ops all_claimed quiet went hints) =
    part_stops T now new.tape two (kept_at two new) first more ops taken others claimed files e all_ops all_claimed
    (after_all now mid.tape new.tape two (kept_at two mid) (kept_at two new) first taken files (Err e)
    (done_steps now two first taken files mid done)
    (looks_midway_stop (Unit {0}) mid.tape new.tape (kept_at two mid) (kept_at two new) files e (looks_from two quiet went) hints))

pub does_is_a_step : (T : Type 0) → DoesIsAStep T
does_is_a_step T now new two three ops claimed files result keeps does =
    kept_steps (kept_at two (around new three.busy three.tally)) three refl refl keeps now new two ops claimed files result (does_steps T now two ops claimed files (around new three.busy three.tally) result does)
