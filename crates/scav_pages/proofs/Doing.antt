-- What a part of mending has done so far, one guarded command more, and how it ends.
use Rattle.std.proofs.Common.{◌≡◌, ℕ, ◌+◌, ◌<◌, ◌≤◌, Bool, IsTrue, List, length, Result, Ok, Err, refl, sym, ap, subst, ◌∙◌, arith}
use Rattle.std.specs.Prelude.{IfOk, IsErrAnd, IsErrOf}
use Rattle.disk_records.specs.declared.records.Event.{Event}
use Rattle.disk_records.specs.Frames.{IsFreeSector}
use Rattle.disk_records.specs.Commands.{claim_writes, value_writes}
use Rattle.disk_records.specs.Packs.{Pack, after}
use Rattle.disk_records.specs.Tapes.{Grown, Looks, Taped, added, pack}
use Rattle.disk_records.proofs.Growing.{grown_here, grown_twice, nothing_added, pack-after}
use Rattle.disk_records.proofs.Looking.{looks_pack}
use Rattle.label_check.specs.declared.errors.GuardError.{GuardError}
use Rattle.label_check.specs.declared.errors.GuardError.TheVariants as guard_error
use Rattle.label_check.specs.Guarded.{DoneWhole, Guarded}
use Rattle.scav_pages.specs.Changes.{AllMend}
use Rattle.scav_pages.specs.Keeping.{KeepsFiles}
use Rattle.scav_pages.specs.declared.errors.Stop.{Stop}
use Rattle.scav_pages.specs.declared.errors.Stop.TheVariants.{Memory, Astray}
use Rattle.scav_pages.specs.Does.{Does}
use Rattle.scav_pages.specs.Stops.{stop_of_guard}
use Rattle.scav_pages.proofs.Changing.{mend_breaks_off, nothing_mends}
use Rattle.scav_pages.proofs.Keeping.{Mends, keeps_here, keeps_join}
use Rattle.scav_pages.proofs.Passing.{mends_added, want_added}

-- ---- so far
-- each crash point of what was written keeps what a mending keeps, each record write changed what stood, and directories are kept
pub record Going (a b : Taped) : Type 0 where
  pub grown : Grown a b
  pub mends : AllMend (pack a) (added a b)
  pub keeps : KeepsFiles (pack a) (pack b)

pub going_here : (a : Taped) → Going a a
going_here a = record { grown = grown_here a; mends = subst (AllMend (pack a)) (sym (nothing_added a.events)) (nothing_mends (pack a)); keeps = keeps_here (pack a) }

pub going_looks : {told : Bool} {most : ℕ} {a b c : Taped} → Going a b → Looks told most b c → IsTrue told → Going a c
going_looks {a = a} {b = b} x l h = record {
  grown = grown_twice x.grown l.alone.grown;
  mends = mends_added x.grown l.alone.grown x.mends (subst (AllMend (pack b)) (sym (l.silent h)) (nothing_mends (pack b)));
  keeps = subst (KeepsFiles (pack a)) (sym (looks_pack l h)) x.keeps;
}

-- the pack after a guarded command that was done
pub pack_done : {b c : Taped} {guard : Pack → Type 0} {count : ℕ} {writes : List Event} → Grown b c → DoneWhole guard writes count b c → pack c ≡ after (pack b) writes
pack_done {b} y done = pack-after y ∙ ap (after (pack b)) done.wrote

-- a guarded command more, which was done
pub going_done : {a b c : Taped} {guard : Pack → Type 0} {count : ℕ} {writes : List Event} → Going a b → Grown b c → Mends (pack b) writes → DoneWhole guard writes count b c → Going a c
going_done {b = b} x y all done = record {
  grown = grown_twice x.grown y;
  mends = mends_added x.grown y x.mends (subst (AllMend (pack b)) (sym done.wrote) all.each);
  keeps = keeps_join x.keeps (subst (KeepsFiles (pack b)) (sym (pack_done y done)) all.keeps);
}

-- another part, which was done
pub going_does : {a b c : Taped} {T : Type 0} {Leaves : Pack → Pack → T → Type 0} {value : T} → Going a b → Grown b c → Does Leaves b c (Ok value) → Going a c
going_does x y d = record { grown = grown_twice x.grown y; mends = mends_added x.grown y x.mends d.mends; keeps = keeps_join x.keeps d.keeps }

-- ---- ends
pub does_ok : {a c : Taped} {T : Type 0} {Leaves : Pack → Pack → T → Type 0} (value : T) → Going a c → Leaves (pack a) (pack c) value → Does Leaves a c (Ok value)
does_ok value x l = record { leaves = l; keeps = x.keeps; found = λ is. cc; want = λ is. cc; mends = x.mends }

pub error_is : {T E : Type 0} {s : E} (r : Result T E) → IsErrAnd r (λ x. x ≡ s) → r ≡ Err s
error_is (Ok x) is = absurd is
error_is (Err x) is = ap Err is

-- a guarded command that isn't done, though its guard holds
no_other : {T : Type 0} {b c : Taped} {guard : Pack → Type 0} {at count : ℕ} {early writes : List Event} (e : GuardError) → Guarded {T = T} guard at early writes count b c (Err e) → guard (pack b) → stop_of_guard e ≡ Astray → ⊥
no_other (guard_error.Wrong found) g held is = g.wrong.failed held
no_other guard_error.DiskFault g held is = cc
no_other guard_error.Memory g held is = cc

of_memory : (e : GuardError) → stop_of_guard e ≡ Memory → e ≡ guard_error.Memory
of_memory (guard_error.Wrong found) is = cc
of_memory guard_error.DiskFault is = cc
of_memory guard_error.Memory is = refl

pub does_stop : {a b c : Taped} {S T : Type 0} {Leaves : Pack → Pack → T → Type 0} {guard : Pack → Type 0} {at count : ℕ} {early writes : List Event} (e : GuardError) (result : Result T Stop) → Going a b → Grown b c → guard (pack b) → Mends (pack b) writes
    → (e ≡ guard_error.Memory → b.spare < length (added b c) + 3) → Guarded {T = S} guard at early writes count b c (Err e) → IsErrAnd result (λ s. s ≡ stop_of_guard e) → Does Leaves a c result
does_stop {a} {b} {c} {T = T} {Leaves = Leaves} {writes = writes} e result x y held all near g is = subst (Does Leaves a c) (sym (error_is result is)) (record {
  leaves = tt;
  keeps = tt;
  found = λ astray. (let same : stop_of_guard e ≡ Astray = cc in no_other e g held same);
  want = λ memory. (let same : stop_of_guard e ≡ Memory = cc in want_added x.grown y (near (of_memory e same)));
  mends = mends_added x.grown y x.mends (mend_breaks_off (pack b) writes (added b c) g.some all.each);
})

-- one of at most two record writes
pub does_stop_two : {a b c : Taped} {S T : Type 0} {Leaves : Pack → Pack → T → Type 0} {guard : Pack → Type 0} {at count : ℕ} {early writes : List Event} (e : GuardError) (result : Result T Stop) → Going a b → Grown b c → guard (pack b) → Mends (pack b) writes
    → length writes ≤ 2 → Guarded {T = S} guard at early writes count b c (Err e) → IsErrAnd result (λ s. s ≡ stop_of_guard e) → Does Leaves a c result
does_stop_two e result x y held all few g is = does_stop e result x y held all (λ memory. (let less = (g.want (ap Err memory)).less in omega (arith, less, few))) g is

-- a claim
pub claim_near : {b c : Taped} {at : ℕ} {label value : List ℕ} (e : GuardError) → Guarded {T = Unit {0}} (λ p. IsFreeSector p at) at (value_writes at value) (claim_writes at label value) 2 b c (Err e) → e ≡ guard_error.Memory → b.spare < length (added b c) + 3
claim_near e g memory = (let less = (g.want (ap Err memory)).less in omega (arith, less))

pub does_stop_claim : {a b c : Taped} {T : Type 0} {Leaves : Pack → Pack → T → Type 0} {at : ℕ} {label value : List ℕ} (e : GuardError) (result : Result T Stop) → Going a b → Grown b c → IsFreeSector (pack b) at → Mends (pack b) (claim_writes at label value)
    → Guarded {T = Unit {0}} (λ p. IsFreeSector p at) at (value_writes at value) (claim_writes at label value) 2 b c (Err e) → IsErrAnd result (λ s. s ≡ stop_of_guard e) → Does Leaves a c result
does_stop_claim e result x y held all g is = does_stop e result x y held all (claim_near e g) g is

-- a call that only looks
pub does_stop_looking : {told : Bool} {most : ℕ} {a b c : Taped} {S T : Type 0} {Leaves : Pack → Pack → T → Type 0} (e : Stop) (result : Result T Stop) → Going a b → Looks told most b c → IsTrue told → (IsErrOf {T = S} (Err e) Astray → ⊥) → (IsErrOf {T = S} (Err e) Memory → ⊥) → IsErrAnd result (λ s. s ≡ e) → Does Leaves a c result
does_stop_looking {a = a} {c = c} {T = T} {Leaves = Leaves} e result x l told found room is = subst (Does Leaves a c) (sym (error_is result is)) (record {
  leaves = tt;
  keeps = tt;
  found = λ astray. (let same : e ≡ Astray = cc in found (ap Err same));
  want = λ memory. (let same : e ≡ Memory = cc in absurd (room (ap Err same)));
  mends = (going_looks x l told).mends;
})

-- ---- parts of a part
-- one that ends early, with the error that is answered
pub does_stop_part : {a b c : Taped} {S T : Type 0} {Part : Pack → Pack → S → Type 0} {Leaves : Pack → Pack → T → Type 0} (e : Stop) (result : Result T Stop) → Going a b → Grown b c → Does Part b c (Err e) → IsErrAnd result (λ s. s ≡ e) → Does Leaves a c result
does_stop_part {a} {b} {c} {T = T} {Leaves = Leaves} e result x y d is = subst (Does Leaves a c) (sym (error_is result is)) (record {
  leaves = tt;
  keeps = tt;
  found = λ astray. (let same : e ≡ Astray = cc in d.found (ap Err same));
  want = λ memory. (let same : e ≡ Memory = cc in want_added x.grown y (d.want (ap Err same)));
  mends = mends_added x.grown y x.mends d.mends;
})

-- one that is the last
last_keeps : {T : Type 0} (p q r : Pack) (result : Result T Stop) → KeepsFiles p q → IfOk result (λ done. KeepsFiles q r) → IfOk result (λ done. KeepsFiles p r)
last_keeps p q r (Ok value) x y = keeps_join x y
last_keeps p q r (Err stop) x y = tt

pub does_last : {a b c : Taped} {T : Type 0} {Part Leaves : Pack → Pack → T → Type 0} (result : Result T Stop) → Going a b → Grown b c → Does Part b c result → (IfOk result (Part (pack b) (pack c)) → IfOk result (Leaves (pack a) (pack c))) → Does Leaves a c result
does_last {a} {b} {c} result x y d leaves = record {
  leaves = leaves d.leaves;
  keeps = last_keeps (pack a) (pack b) (pack c) result x.keeps d.keeps;
  found = d.found;
  want = λ memory. want_added x.grown y (d.want memory);
  mends = mends_added x.grown y x.mends d.mends;
}
