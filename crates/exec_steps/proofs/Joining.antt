-- Steps of a line, one after the other.
use Rattle.std.proofs.Common.{Contains, Err, List, Ok, OnOk, Result, [], append_assoc, ap, arith, length, length-append, refl, subst, sym, take, take_all, ℕ, ◌++◌, ◌∙◌, ◌≡◌, ◌≤◌}
use Rattle.std.proofs.lemmas.List.Elements.{Contains-append_left, Contains-append_right}
use Rattle.std.proofs.lemmas.List.{append-nil, take-append-le}
use Rattle.std.proofs.lemmas.Result.{on_ok_weaker}
use Rattle.alto_words.specs.declared.fid.Fid.{Fid}
use Rattle.disk_records.proofs.FirstOnes.{first_all}
use Rattle.disk_records.specs.Packs.{Pack}
use Rattle.disk_records.specs.Tapes.{Taped, added, pack}
use Rattle.disk_records.specs.declared.records.Event.{Event}
use Rattle.exec_session.specs.laws_call.proofs.going.Laws.{line_stops}
use Rattle.exec_session.specs.laws_call.specs.Going.{Goes}
use Rattle.exec_session.specs.laws_line.specs.Ready.{steps_of}
use Rattle.exec_session.specs.laws_steps.proofs.lines.Laws.{later_keeps_found, none_keeps_found}
use Rattle.exec_session.specs.laws_steps.specs.LineKeepingLaws.{KeepsFound}
use Rattle.exec_session.specs.pack_laws.proofs.Moving.{start_self}
use Rattle.pack_model.specs.operations.Committing.{moves_of_all}
use Rattle.pack_model.specs.operations.Operations.{Move}
use Rattle.pack_model.specs.operations.Step.{Operation}
use Rattle.pack_model.specs.reading.Model.{read_as}
use Rattle.pack_model.specs.sessions.Tallies.{Tells, counted}
use Rattle.session_model.specs.Keeping.{Kept}
use Rattle.session_model.specs.Turning.{HintFailing}
use Rattle.exec_session.specs.Meant.{IfHint}
use Rattle.exec_session.specs.declared.stop.Stop.{Stop}
use Rattle.exec_session.specs.declared.stop.Stop.TheVariants as stop
use Rattle.exec_steps.specs.Midway.{Arrived, Midway, Stepped, StepsOn, moves_so_far, opened_pack}
use Rattle.exec_steps.specs.Steps.{StepStops, StepsJoin}
use Rattle.exec_steps.proofs.Stepping.{if_hint_weaker, so_far_append, steps_append}

-- ---- which files a hint may be of
failing_right : {T : Type 0} (p : Pack) (events : List Event) (files others : List Fid) (result : Result T Stop) → IfHint result (HintFailing p events others) → IfHint result (HintFailing p events (files ++ others))
failing_right p events files others result = if_hint_weaker _ _ result (λ place at wanted found h. record { misled = h.misled; on_disk = h.on_disk; file = Contains-append_right files others wanted.fid h.file })

-- ---- two steps
-- what is known once the first is done
pub arrived_then : {old a b : Taped} {one two three : Kept} {at : ℕ} {done ops all : List Operation} {claimed rest : List ℕ} → Midway old a one two at done all claimed → Midway old b one three at (done ++ ops) all rest → KeepsFound (pack a) (pack b) ops
    → Arrived (pack a) (pack b) three ops rest
arrived_then {old} {a} {b} {one} {two} {three} {at} {done} {ops} m n found = record {
  whole = n.whole;
  tidy = n.tidy;
  reads = n.reads ∙ steps_append (read_as (pack old)) done ops ∙ ap (λ x. steps_of x ops) (sym m.reads);
  fits = n.fits;
  found = found;
  free = n.free;
}

pub steps_join : (T U : Type 0) → StepsJoin T U
steps_join T U a b c one two three first second claimed more files others x result one_steps two_steps old base at done all rest m =
    let m1 : Midway old a base one at done all (claimed ++ (more ++ rest)) = subst (Midway old a base one at done all) (append_assoc claimed more rest) m in
    let s1 : Stepped old a b base two at done first all (more ++ rest) files (Ok x) = one_steps old base at done all (more ++ rest) m1 in
    let arrived : Arrived (pack a) (pack b) two first (more ++ rest) = arrived_then m1 s1.midway s1.found in
    let s2 : Stepped old b c base three at (done ++ first) second all rest others result = two_steps rest arrived old base at (done ++ first) all rest s1.midway in
    let same : (done ++ first) ++ second ≡ done ++ (first ++ second) = append_assoc done first second in
    record {
      wrote = s2.wrote;
      events = s2.events;
      goes = subst (λ l. Goes (opened_pack (pack old) at) l s2.wrote result) same s2.goes;
      within = subst (λ l. length (added old c) ≤ length (moves_so_far old l all)) same s2.within;
      midway = subst (λ l. OnOk result (Midway old c base three at l all rest)) same s2.midway;
      found = on_ok_weaker result (λ k. later_keeps_found (pack a) (pack b) (pack c) first second arrived.reads s1.found k) s2.found;
      counted = subst (λ l. Tells stop.DiskFault c result → three.tally ≡ counted old.writes (take (length (added old c)) (moves_so_far old l all)) base.tally) same s2.counted;
      failing = failing_right (pack old) (added old c) files others result s2.failing;
    }

-- ---- a step that isn't done
-- its count tells as much, whatever its value would be
tells_too : (T U : Type 0) (b : Taped) (error : Stop) → Tells {T = T} stop.DiskFault b (Err error) → Tells {T = U} stop.DiskFault b (Err error)
tells_too T U b (stop.Refused r) tells = λ e. absurd cc
tells_too T U b (stop.Misled place at wanted found) tells = λ e. absurd cc
tells_too T U b stop.DiskFault tells = λ e. tells refl
tells_too T U b stop.Memory tells = λ e. absurd cc

pub step_stops : (T U : Type 0) → StepStops T U
step_stops T U a b one two first second claimed more files others error steps old base at done all rest m =
    let m1 : Midway old a base one at done all (claimed ++ (more ++ rest)) = subst (Midway old a base one at done all) (append_assoc claimed more rest) m in
    let s : Stepped {T = U} old a b base two at done first all (more ++ rest) files (Err error) = steps old base at done all (more ++ rest) m1 in
    let same : (done ++ first) ++ second ≡ done ++ (first ++ second) = append_assoc done first second in
    let tail : List Move = moves_of_all (steps_of (read_as (pack old)) (done ++ first)) second in
    let longer : moves_so_far old (done ++ (first ++ second)) all ≡ moves_so_far old (done ++ first) all ++ tail = ap (λ l. moves_so_far old l all) (sym same) ∙ so_far_append old (done ++ first) second all in
    let within : length (added old b) ≤ length (moves_so_far old (done ++ first) all) = s.within in
    record {
      wrote = s.wrote;
      events = s.events;
      goes = subst (λ l. Goes {T = T} (opened_pack (pack old) at) l s.wrote (Err error)) same (line_stops T U Stop Stop (opened_pack (pack old) at) (done ++ first) second s.wrote (Err error) error s.goes);
      within = let e = ap length longer ∙ length-append (moves_so_far old (done ++ first) all) tail in omega (arith, e, within);
      midway = tt;
      found = tt;
      counted = λ tells. s.counted (tells_too T U b error tells) ∙ ap (λ l. counted old.writes l base.tally)
          (sym (ap (take (length (added old b))) longer ∙ take-append-le (length (added old b)) (moves_so_far old (done ++ first) all) tail within));
      failing = failed_left (pack old) (added old b) files others error s.failing;
    }
  where
    failed_left : (p : Pack) (events : List Event) (files others : List Fid) (error : Stop) → IfHint {T = U} (Err error) (HintFailing p events files) → IfHint {T = T} (Err error) (HintFailing p events (files ++ others))
    failed_left p events files others (stop.Refused r) h = tt
    failed_left p events files others (stop.Misled place at wanted found) h = record { misled = h.misled; on_disk = h.on_disk; file = Contains-append_left files others wanted.fid h.file }
    failed_left p events files others stop.DiskFault h = tt
    failed_left p events files others stop.Memory h = tt

-- ---- other answers
-- a step whose answer has another value
module _ (T U : Type 0) (old now new : Taped) (one two : Kept) (at : ℕ) (done ops all : List Operation) (left : List ℕ) (files : List Fid) where
  pub stepped_ok : (x : U) (y : T) → Stepped old now new one two at done ops all left files (Ok x) → Stepped old now new one two at done ops all left files (Ok y)
  stepped_ok x y s = record {
    wrote = s.wrote;
    events = s.events;
    goes = record { begun = s.goes.begun; start = s.goes.start; writes = s.goes.writes; line = s.goes.line; some = s.goes.some; all = s.goes.all };
    within = s.within;
    midway = s.midway;
    found = s.found;
    counted = λ tells. s.counted (λ fault. absurd cc);
    failing = tt;
  }

  failing_too : (error : Stop) → IfHint {T = U} (Err error) (HintFailing (pack old) (added old new) files) → IfHint {T = T} (Err error) (HintFailing (pack old) (added old new) files)
  failing_too (stop.Refused r) h = tt
  failing_too (stop.Misled place at wanted found) h = h
  failing_too stop.DiskFault h = tt
  failing_too stop.Memory h = tt

  pub stepped_err : (error : Stop) → Stepped {T = U} old now new one two at done ops all left files (Err error) → Stepped {T = T} old now new one two at done ops all left files (Err error)
  stepped_err error s = record {
    wrote = s.wrote;
    events = s.events;
    goes = record { begun = s.goes.begun; start = s.goes.start; writes = s.goes.writes; line = s.goes.line; some = s.goes.some; all = tt };
    within = s.within;
    midway = tt;
    found = tt;
    counted = λ tells. s.counted (tells_too T U new error tells);
    failing = failing_too error s.failing;
  }

-- and so of a step of each line
module _ (T U : Type 0) (now new : Taped) (two three : Kept) (ops : List Operation) (claimed : List ℕ) (files : List Fid) where
  pub steps_ok : (x : U) (y : T) → StepsOn now new two three ops claimed files (Ok x) → StepsOn now new two three ops claimed files (Ok y)
  steps_ok x y steps old one at done all left m = stepped_ok T U old now new one three at done ops all left files x y (steps old one at done all left m)

  pub steps_err : (error : Stop) → StepsOn {T = U} now new two three ops claimed files (Err error) → StepsOn {T = T} now new two three ops claimed files (Err error)
  steps_err error steps old one at done all left m = stepped_err T U old now new one three at done ops all left files error (steps old one at done all left m)

-- a call that has nothing to do
pub step_of_nothing : {T : Type 0} (now : Taped) (two : Kept) (files : List Fid) (x : T) → StepsOn now now two two [] [] files (Ok x)
step_of_nothing now two files x old one at done all rest m =
    let same : done ++ [] ≡ done = append-nil done in
    record {
      wrote = m.wrote;
      events = m.events;
      goes = subst (λ l. Goes {E = Stop} (opened_pack (pack old) at) l m.wrote (Ok x)) (sym same) (record { begun = done; start = start_self done; writes = m.wrote; line = m.line; some = first_all m.wrote; all = (refl, refl) });
      within = let e = ap (λ l. length (moves_so_far old l all)) same in let k = m.many in omega (arith, e, k);
      midway = subst (λ l. Midway old now one two at l all rest) (sym same) m;
      found = none_keeps_found (pack now);
      counted = λ tells. m.counted.tally ∙ ap (λ l. counted old.writes l one.tally)
          (sym (ap (λ l. take (length (added old now)) (moves_so_far old l all)) same ∙ take_all (length (added old now)) (moves_so_far old done all) (let k = m.many in omega (arith, k))));
      failing = tt;
    }

-- a hint may be of more files
pub step_for : {T : Type 0} (now new : Taped) (two three : Kept) (ops : List Operation) (claimed : List ℕ) (files others : List Fid) (result : Result T Stop) → ((f : Fid) → Contains files f → Contains others f)
    → StepsOn now new two three ops claimed files result → StepsOn now new two three ops claimed others result
step_for now new two three ops claimed files others result more steps old one at done all rest m =
    let s = steps old one at done all rest m in
    record {
      wrote = s.wrote;
      events = s.events;
      goes = s.goes;
      within = s.within;
      midway = s.midway;
      found = s.found;
      counted = s.counted;
      failing = if_hint_weaker _ _ result (λ place at wanted found h. record { misled = h.misled; on_disk = h.on_disk; file = more wanted.fid h.file }) s.failing;
    }
