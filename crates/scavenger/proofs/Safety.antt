-- Each crash point of a scavenge.
use Rattle.std.proofs.Common.{◌≡◌, inl, inr, ℕ, zero, suc, ◌<◌, List, [], ◌∷◌, ◌++◌, length, take, Some, None, Result, Ok, Err, OnOk, IfOk, refl, sym, ap, subst, ◌∙◌, arith}
use Rattle.std.proofs.lemmas.Bool.{cases_lt}
use Rattle.std.proofs.lemmas.List.{length-append, take-append-le, take_all}
use Rattle.disk_records.specs.declared.records.Event.{Event}
use Rattle.disk_records.specs.declared.records.Event.TheVariants.{Wrote}
use Rattle.disk_records.specs.Events.{writes_in}
use Rattle.disk_records.specs.Packs.{Pack, after}
use Rattle.disk_records.specs.Tapes.{Taped, added, pack}
use Rattle.scav_names.specs.laws_record.proofs.Chaining.{at_cut}
use Rattle.scav_names.specs.laws_room.proofs.rooms.Laws.{scavengeable_is_unrefused, sound_needs_nothing}
use Rattle.pack_model.specs.reading.Sights.{sights}
use Rattle.pack_model.specs.scavenger.Needed.{needed}
use Rattle.pack_model.specs.scavenger.Reports.{freed_sectors, adopted_files}
use Rattle.pack_model.specs.scavenger.Scavenging.{Mends, Scavengeable, first_refusal}
use Rattle.pack_model.specs.showing.Settling.{show}
use Rattle.pack_model.specs.states.Sound.{Clean, Sound}
use Rattle.pack_model.specs.states.InUse.{bad_sectors}
use Rattle.scavenger.specs.declared.counts.Counts.{Counts}
use Rattle.scavenger.specs.declared.errors.Report.{Report}
use Rattle.scavenger.specs.declared.errors.ScavError.{ScavError}
use Rattle.scavenger.specs.declared.errors.ScavError.TheVariants.{RootBad, RootTaken, PackFull, DiskFault, Memory}
use Rattle.std.specs.Prelude.{IsErrAnd}
use Rattle.disk_records.specs.Causes.{HasCause, Unfailed}
use Rattle.disk_records.specs.Tapes.{Grown}
use Rattle.disk_records.proofs.Growing.{added-twice, pack-silent}
use Rattle.scav_pages.proofs.Doing.{error_is}
use Rattle.scavenger.specs.Answers.{Answers, IsRefusal, cause_of_scav, refusal_in, report_in}
use Rattle.scavenger.specs.Counting.{Counted}
use Rattle.scavenger.specs.Runs.{AllMend, EndsIt, OpensMark, ScavengeWrites}
use Rattle.scavenger.specs.Runs.ScavengeWrites.{all as all_of, some as some_of}
use Rattle.scavenger.specs.Scavenges.{IsSafe, IsUnrefused, MendsAll, Scavenges}

-- ---- crash points
-- what is said of the pack after these of the events
record SafeAfter (p : Pack) (done : List Event) : Type 0 where
  shown : show (after p done) ≡ show p
  scavengeable : Scavengeable p → Scavengeable (after p done)
  clean : 0 < writes_in done → Clean (after p done) → Sound (after p done)

safe_from : (p : Pack) (events : List Event) (k : ℕ) → SafeAfter p (take k events) → IsSafe p events k
safe_from p events k s = record { shown = s.shown; scavengeable = s.scavengeable; clean = s.clean }

safe_none : (p : Pack) → SafeAfter p []
safe_none p = record { shown = refl; scavengeable = λ s. s; clean = λ some. absurd (omega arith) }

safe_mends : (p : Pack) (events : List Event) (k : ℕ) → AllMend p events → SafeAfter p (take k events)
safe_mends p [] zero mends = safe_none p
safe_mends p [] (suc k) mends = safe_none p
safe_mends p (e ∷ events) zero mends = safe_none p
safe_mends p (e ∷ events) (suc k) mends =
    let m : Mends p (after p (e ∷ take k events)) = at_cut (Mends p) (after p (e ∷ [])) events mends k in
    record { shown = m.keeps.shown; scavengeable = m.keeps.scavengeable; clean = λ some clean. absurd (m.unclean clean) }

safe_ends : (p : Pack) (events : List Event) (k : ℕ) → EndsIt p events → SafeAfter p (take k events)
safe_ends p events k ends = elim (cases_lt (length ends.before) k) [
  | inl over ↦ (
      let long = length-append ends.before (Wrote ends.at ends.part ends.words ∷ []) in
      let size = ap length ends.split in
      subst (SafeAfter p) (sym (take_all k events (omega (arith, over, long, size)))) (record {
        shown = ends.scavenged.shown;
        scavengeable = λ s. (sound_needs_nothing (after p events) ends.scavenged.sound).1;
        clean = λ some clean. ends.scavenged.sound;
      }))
  | inr few ↦ subst (SafeAfter p) (sym (ap (take k) ends.split ∙ take-append-le k ends.before (Wrote ends.at ends.part ends.words ∷ []) few)) (safe_mends p ends.before k ends.mends)
]

pub safe_writes : (p : Pack) (events : List Event) → ScavengeWrites p events → (k : ℕ) → IsSafe p events k
safe_writes p events (some_of mends) k = safe_from p events k (safe_mends p events k mends)
safe_writes p events (all_of ends) k = safe_from p events k (safe_ends p events k ends)

-- ---- with nothing written
pub scavenges_none : {a b : Taped} (e : ScavError) → added a b ≡ [] → Answers (pack a) (Err e) → Scavenges a b (Err e)
scavenges_none {a} {b} e silent answers = record {
  answers = answers;
  silent = λ r is. silent;
  safe = safe_writes (pack a) (added a b) none;
  opens = subst (OpensMark (pack a)) (sym silent) tt;
  writes = none;
  done = tt;
}
  where
    none : ScavengeWrites (pack a) (added a b)
    none = subst (ScavengeWrites (pack a)) (sym silent) (some_of tt)

-- an error that is no refusal
pub unrefused_answers : (p : Pack) (e : ScavError) → refusal_in e ≡ None → Answers p (Err e)
unrefused_answers p (RootBad header) is = absurd cc
unrefused_answers p (RootTaken found) is = absurd cc
unrefused_answers p (PackFull needed free) is = absurd cc
unrefused_answers p DiskFault is = tt
unrefused_answers p Memory is = tt

-- and a refusal
pub refused_answers : (p : Pack) (e : ScavError) → refusal_in e ≡ first_refusal p → Answers p (Err e)
refused_answers p (RootBad header) is = sym is
refused_answers p (RootTaken found) is = sym is
refused_answers p (PackFull needed free) is = sym is
refused_answers p DiskFault is = tt
refused_answers p Memory is = tt

-- ---- a pack that isn't refused
pub scavenges_all : {a b : Taped} (counts : Counts) (bad : ℕ) (result : Result Report ScavError) → first_refusal (pack a) ≡ None → Counted (pack a) counts → bad ≡ bad_sectors (sights (pack a)) → MendsAll counts bad a b result → Scavenges a b result
scavenges_all {a} {b} counts bad result none counted bad_is mends = record {
  answers = answer result mends.unrefused mends.report;
  silent = λ r is. absurd (let both : None ≡ Some r = sym none ∙ is in cc);
  safe = safe_writes (pack a) (added a b) mends.writes;
  opens = mends.opens;
  writes = mends.writes;
  done = mends.done;
}
  where
    answer : (r : Result Report ScavError) → IsUnrefused r → IfOk r (λ report. report_in report ≡ record { files = counts.files; freed = freed_sectors (pack a).shape (sights (pack a)); bad = bad; adopted = adopted_files (pack a) }) → Answers (pack a) r
    answer (Ok report) unrefused is = (none, is ∙ (λ i. record { files = counted.files i; freed = freed_sectors (pack a).shape (sights (pack a)); bad = bad_is i; adopted = adopted_files (pack a) }))
    answer (Err e) unrefused is = unrefused_answers (pack a) e unrefused

-- an error that ends a scavenge before its first record write
pub stops_none : {a b : Taped} (e : ScavError) (result : Result Report ScavError) → IsErrAnd result (λ s. s ≡ e) → added a b ≡ [] → refusal_in e ≡ None → Scavenges a b result
stops_none {a} {b} e result is silent unrefused = subst (Scavenges a b) (sym (error_is result is)) (scavenges_none e silent (unrefused_answers (pack a) e unrefused))

-- a refusal has no cause in a device, after calls in which no fault came
pub refusal_cause : (a b : Taped) (e : ScavError) → Unfailed a b → IsRefusal e → HasCause {T = Report} cause_of_scav a b (Err e)
refusal_cause a b (RootBad header) none is = none
refusal_cause a b (RootTaken found) none is = none
refusal_cause a b (PackFull needed free) none is = none
refusal_cause a b DiskFault none is = absurd is
refusal_cause a b Memory none is = absurd is

-- a mending after calls that wrote nothing
pub scavenges_after : {a b c : Taped} (counts : Counts) (bad : ℕ) (result : Result Report ScavError) → Grown a b → Grown b c → added a b ≡ [] → first_refusal (pack a) ≡ None → Counted (pack a) counts → bad ≡ bad_sectors (sights (pack a)) → (Scavengeable (pack b) → Counted (pack b) counts → MendsAll counts bad b c result) → Scavenges a c result
scavenges_after {a} {b} {c} counts bad result before now silent none counted bad_is mends = scavenges_all counts bad result none counted bad_is (record { opens = subst (OpensMark (pack a)) (sym same) (subst (λ q. OpensMark q (added b c)) here m.opens); writes = subst (ScavengeWrites (pack a)) (sym same) (subst (λ q. ScavengeWrites q (added b c)) here m.writes); done = by result m.done; unrefused = m.unrefused; report = reports result m.report })
  where
    here : pack b ≡ pack a
    here = pack-silent before silent

    same : added a c ≡ added b c
    same = added-twice before now ∙ ap (λ l. l ++ added b c) silent

    m : MendsAll counts bad b c result
    m = mends (subst Scavengeable (sym here) ((scavengeable_is_unrefused (pack a)).1 none)) (subst (λ q. Counted q counts) (sym here) counted)

    by : (r : Result Report ScavError) → OnOk r (EndsIt (pack b) (added b c)) → OnOk r (EndsIt (pack a) (added a c))
    by (Ok report) e = subst (EndsIt (pack a)) (sym same) (subst (λ q. EndsIt q (added b c)) here e)
    by (Err e) d = tt

    reports : (r : Result Report ScavError) → IfOk r (λ report. report_in report ≡ record { files = counts.files; freed = freed_sectors (pack b).shape (sights (pack b)); bad = bad; adopted = adopted_files (pack b) }) → IfOk r (λ report. report_in report ≡ record { files = counts.files; freed = freed_sectors (pack a).shape (sights (pack a)); bad = bad; adopted = adopted_files (pack a) })
    reports (Ok report) is = is ∙ (λ i. record { files = counts.files; freed = freed_sectors (here i).shape (sights (here i)); bad = bad; adopted = adopted_files (here i) })
    reports (Err e) is = tt
