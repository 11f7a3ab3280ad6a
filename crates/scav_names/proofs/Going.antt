-- What a mending of names has done so far, and how a part of it ends.
use Rattle.std.proofs.Common.{◌≡◌, None, Result, Ok, Err, sym, ap, subst}
use Rattle.std.specs.Prelude.{IfErr, IfOk, IsErrAnd}
use Rattle.disk_records.specs.Causes.{HasCause, IsCause, Unfailed}
use Rattle.disk_records.specs.Packs.{Pack}
use Rattle.disk_records.specs.Tapes.{Grown, Taped, added, pack}
use Rattle.disk_records.proofs.Growing.{added-twice, grown_here, grown_twice, nothing_added, pack-after}
use Rattle.laws_names.specs.Keeping.{AllKeepOpen}
use Rattle.laws_names.proofs.joins.Laws.{keeps_open_join, nothing_keeps_open}
use Rattle.scav_pages.specs.Changes.{AllChange}
use Rattle.scav_pages.specs.declared.errors.Stop.{Stop}
use Rattle.scav_pages.specs.declared.errors.Stop.TheVariants.{Astray, Memory}
use Rattle.scav_pages.specs.Stops.{cause_of_stop}
use Rattle.scav_pages.proofs.Changing.{change_join}
use Rattle.scav_pages.proofs.Doing.{error_is}
use Rattle.scav_names.specs.Does.{Does}

-- record writes that change what stands, and more of them
pub changes_added : {a b c : Taped} → Grown a b → Grown b c → AllChange (pack a) (added a b) → AllChange (pack b) (added b c) → AllChange (pack a) (added a c)
changes_added {a} {b} {c} x y one two = subst (AllChange (pack a)) (sym (added-twice x y)) (change_join None (pack a) (added a b) (added b c) one (subst (λ p. AllChange p (added b c)) (pack-after x) two))

-- each crash point of what was written keeps what has to be kept, and each record write changed what stood
pub record SoFar (a b : Taped) : Type 0 where
  pub grown : Grown a b
  pub keeps : AllKeepOpen (pack a) (added a b)
  pub changes : AllChange (pack a) (added a b)

pub so_far_here : (a : Taped) → SoFar a a
so_far_here a = record {
  grown = grown_here a;
  keeps = subst (AllKeepOpen (pack a)) (sym (nothing_added a.events)) (nothing_keeps_open (pack a));
  changes = subst (AllChange (pack a)) (sym (nothing_added a.events)) tt;
}

-- another part, whatever it answered
pub so_far_does : {a b c : Taped} {T : Type 0} {Leaves : Pack → Pack → T → Type 0} {result : Result T Stop} → SoFar a b → Grown b c → Does Leaves b c result → SoFar a c
so_far_does {a} {b} {c} x y d = record {
  grown = grown_twice x.grown y;
  keeps = subst (AllKeepOpen (pack a)) (sym (added-twice x.grown y)) (keeps_open_join (pack a) (added a b) (added b c) x.keeps (subst (λ p. AllKeepOpen p (added b c)) (pack-after x.grown) d.keeps));
  changes = changes_added x.grown y x.changes d.changes;
}

-- ---- ends
pub does_ok : {a c : Taped} {T : Type 0} {Leaves : Pack → Pack → T → Type 0} (value : T) → SoFar a c → Leaves (pack a) (pack c) value → Does Leaves a c (Ok value)
does_ok value x l = record { leaves = l; found = λ is. cc; keeps = x.keeps; changes = x.changes }

-- a part that ends early, with the error that is answered
pub does_part : {a b c : Taped} {S T : Type 0} {Part : Pack → Pack → S → Type 0} {Leaves : Pack → Pack → T → Type 0} (e : Stop) (result : Result T Stop) → SoFar a b → Grown b c → Does Part b c (Err e) → IsErrAnd result (λ s. s ≡ e) → Does Leaves a c result
does_part {a} {b} {c} {T = T} {Leaves = Leaves} e result x y d is = subst (Does Leaves a c) (sym (error_is result is)) (record {
  leaves = tt;
  found = λ astray. (let same : e ≡ Astray = cc in d.found (ap Err same));
  keeps = (so_far_does x y d).keeps;
  changes = (so_far_does x y d).changes;
})

-- no more is done
pub does_stop : {a b : Taped} {T : Type 0} {Leaves : Pack → Pack → T → Type 0} (e : Stop) (result : Result T Stop) → SoFar a b → (e ≡ Astray → ⊥) → IsErrAnd result (λ s. s ≡ e) → Does Leaves a b result
does_stop {a} {b} {T} {Leaves} e result x found is = subst (Does Leaves a b) (sym (error_is result is)) (record { leaves = tt; found = λ astray. (let same : e ≡ Astray = cc in found same); keeps = x.keeps; changes = x.changes })

-- a part that is the last
pub does_last : {a b c : Taped} {T : Type 0} {Part Leaves : Pack → Pack → T → Type 0} (result : Result T Stop) → SoFar a b → Grown b c → Does Part b c result → (IfOk result (Part (pack b) (pack c)) → IfOk result (Leaves (pack a) (pack c))) → Does Leaves a c result
does_last result x y d leaves = record { leaves = leaves d.leaves; found = d.found; keeps = (so_far_does x y d).keeps; changes = (so_far_does x y d).changes }

-- a call that fails by want of memory alone has a cause, after calls in which no fault came
pub cause_of_memory : {T : Type 0} (a b : Taped) (r : Result T Stop) → Unfailed a b → IfErr r (λ s. s ≡ Memory) → HasCause cause_of_stop a b r
cause_of_memory a b (Ok x) none is = none
cause_of_memory a b (Err s) none is = subst (λ x. IsCause a b (cause_of_stop x)) (sym is) none
