-- A guarded call: its two sector commands one after another.
use Rattle.std.proofs.Common.{◌≡◌, ℕ, ◌+◌, List, [], ◌++◌, length, Result, Ok, Err, None, OnOk, IsErrOf, refl, ◌∙◌, ap, length-append, arith}
use Rattle.std.proofs.lemmas.List.{append-nil}
use Rattle.disk_records.specs.declared.records.Event.{Event}
use Rattle.disk_records.specs.declared.records.Sector.{Sector}
use Rattle.disk_records.specs.declared.records.Plan.{Plan}
use Rattle.disk_records.specs.declared.traits.DiskError.TheVariants.{Mismatch, Failed}
use Rattle.disk_records.specs.declared.traits.DiskError.TheVariants as disk_error
use Rattle.disk_records.specs.Checks.{mismatch as first_mismatch, writes_of}
use Rattle.disk_records.specs.Packs.{Pack, after, sector_at, label_found}
use Rattle.disk_records.specs.Tapes.{Taped, DiskAlone, Ran, pack, added}
use Rattle.disk_records.proofs.FirstOnes.{first_all, first_front, first_then}
use Rattle.disk_records.proofs.Growing.{added-twice, pack-after}
use Rattle.label_check.specs.declared.errors.GuardError.{GuardError}
use Rattle.label_check.specs.declared.errors.GuardError.TheVariants.{Wrong, DiskFault, Memory}
use Rattle.label_check.specs.Guarded.{Guarded, DoneWhole, IfWrong, FoundWrong}
use Rattle.label_check.specs.Steps.{Finished, Refused}

-- a word on Ok from another, and a word on Wrong from one that can't come
on_ok : {P Q : Type 0} (result : Result (Unit {0}) GuardError) → (P → Q) → OnOk result P → OnOk result Q
on_ok (Ok x) f p = f p
on_ok (Err e) f p = tt

if_wrong : (P : _ → Type 0) (result : Result (Unit {0}) GuardError) → IfWrong result (λ found. ⊥) → IfWrong result P
if_wrong P (Ok x) h = tt
if_wrong P (Err (Wrong found)) h = absurd h
if_wrong P (Err DiskFault) h = tt
if_wrong P (Err Memory) h = tt

-- the first command did all of its writes, and the second does some
pub guarded_then : {guard : Pack → Type 0} {at : ℕ} {first second : List Event} {a b c : Taped} {result : Result (Unit {0}) GuardError} → DiskAlone a b → DiskAlone b c
    → DoneWhole guard first 1 a b → Finished second b c result → Guarded guard at first (first ++ second) 2 a c result
guarded_then {guard} {at} {first} {second} {a} {b} {c} {result} x y done finished =
    let both : added a c ≡ added a b ++ added b c = added-twice x.grown y.grown in
    let spare = x.grown.spare in
    let many : length (added a b) ≡ length first = ap length done.wrote in
    let all : length (first ++ second) ≡ length first + length second = length-append first second in
    record {
      some = rw both (first_then first second (added a b) (added b c) done.wrote finished.some);
      guarded = λ some. done.held;
      ok = on_ok result (λ wrote. record { held = done.held; wrote = both ∙ ap (λ l. l ++ added b c) done.wrote ∙ ap (λ l. first ++ l) wrote; runs = omega (arith, done.runs, finished.runs) }) finished.ok;
      wrong = if_wrong (FoundWrong guard at a c) result finished.matched;
      want = λ memory. let less = finished.want memory in record { held = done.held; less = omega (arith, spare, many, all, less); unwritten = rw (both, finished.none memory, done.wrote, append-nil first) (first_all first) };
      runs = omega (arith, done.runs, finished.runs);
    }

-- the first command ends the call, and its error is handed on
pub guarded_less : {guard : Pack → Type 0} {at count : ℕ} {early first : List Event} {a b : Taped} {e : GuardError} (second : List Event) (result : Result (Unit {0}) GuardError) → result ≡ Err e
    → Guarded {T = Unit {0}} guard at early first count a b (Err e) → Guarded guard at first (first ++ second) 2 a b result
guarded_less {first = first} {a = a} {b = b} second result is less =
    let all : length (first ++ second) ≡ length first + length second = length-append first second in
    rw is (record {
      some = first_front first second (added a b) less.some;
      guarded = less.guarded;
      ok = tt;
      wrong = less.wrong;
      want = λ memory. let wants = less.want memory in let spare = wants.less in record { held = wants.held; less = omega (arith, all, spare); unwritten = less.some };
      runs = less.runs;
    })

-- one sector command alone, which finds no mismatch if and only if the guard holds
pub guarded_whole : {guard : Pack → Type 0} {at : ℕ} {plan : Plan} {memory buffer : Sector} {a b : Taped} → (first_mismatch plan memory (sector_at (pack a) at) ≡ None → guard (pack a))
    → Ran at plan memory buffer a b (Ok tt) → Guarded {T = Unit {0}} guard at [] (writes_of at plan memory) 1 a b (Ok tt)
guarded_whole holds ran =
    record {
      some = ran.some;
      guarded = λ some. holds ran.ok.matches;
      ok = record { held = holds ran.ok.matches; wrote = ran.ok.wrote; runs = ran.runs };
      wrong = tt;
      want = λ memory. cc;
      runs = let now = ran.runs in omega arith;
    }

pub guarded_broken : {guard : Pack → Type 0} {at : ℕ} {plan : Plan} {memory buffer : Sector} {a b : Taped} → (first_mismatch plan memory (sector_at (pack a) at) ≡ None → guard (pack a))
    → Ran at plan memory buffer a b (Err Failed) → Guarded {T = Unit {0}} guard at [] (writes_of at plan memory) 1 a b (Err DiskFault)
guarded_broken holds ran =
    record {
      some = ran.some;
      guarded = λ some. holds (ran.checked some);
      ok = tt;
      wrong = tt;
      want = λ memory. cc;
      runs = let now = ran.runs in omega arith;
    }

pub guarded_short : {guard : Pack → Type 0} {at : ℕ} {plan : Plan} {memory buffer : Sector} {a b : Taped} → (first_mismatch plan memory (sector_at (pack a) at) ≡ None → guard (pack a))
    → Ran at plan memory buffer a b (Err disk_error.Memory) → Guarded {T = Unit {0}} guard at [] (writes_of at plan memory) 1 a b (Err Memory)
guarded_short holds ran =
    let short = ran.want refl in
    record {
      some = ran.some;
      guarded = λ some. holds short.matches;
      ok = tt;
      wrong = tt;
      want = λ memory. record { held = holds short.matches; less = short.less; unwritten = rw short.silent tt };
      runs = let now = ran.runs in omega arith;
    }

pub guarded_refused : {guard : Pack → Type 0} {at : ℕ} {plan : Plan} {memory buffer : Sector} {a b c : Taped} {part word : ℕ} (error : GuardError) → (guard (pack a) → first_mismatch plan memory (sector_at (pack a) at) ≡ None)
    → DiskAlone a b → DiskAlone b c → Ran at plan memory buffer a b (Err (Mismatch part word)) → Refused at b c error → Guarded {T = Unit {0}} guard at [] (writes_of at plan memory) 1 a c (Err error)
guarded_refused {guard} {at} {plan} {memory} {a = a} {b = b} {c = c} error matches x y ran refused =
    let both : added a c ≡ added a b ++ added b c = added-twice x.grown y.grown in
    let none : added a c ≡ [] = both ∙ ap (λ l. l ++ added b c) ran.mismatch.silent ∙ refused.silent in
    let differs = ran.mismatch.differs in
    let fails : guard (pack a) → ⊥ = λ held. let matched = matches held in cc in
    record {
      some = rw none tt;
      guarded = λ some. absurd (some none);
      ok = tt;
      wrong = wrong_of error fails none (same x ran.mismatch.silent) refused.label;
      want = λ memory. absurd (refused.want (error_of memory));
      runs = let first = ran.runs in let second = refused.runs in omega arith;
    }
  where
    same : DiskAlone a b → added a b ≡ [] → pack b ≡ pack a
    same x none = pack-after x.grown ∙ ap (after (pack a)) none

    wrong_of : (error : GuardError) → (guard (pack a) → ⊥) → added a c ≡ [] → pack b ≡ pack a → IfWrong {T = Unit {0}} (Err error) (λ found. found ≡ label_found (pack b) at) → IfWrong {T = Unit {0}} (Err error) (FoundWrong guard at a c)
    wrong_of (Wrong found) fails none is label = record { failed = fails; silent = none; label = label ∙ ap (λ (p : Pack). label_found p at) is }
    wrong_of DiskFault fails none is label = tt
    wrong_of Memory fails none is label = tt

    error_of : IsErrOf {T = Unit {0}} (Err error) Memory → error ≡ Memory
    error_of is = cc
