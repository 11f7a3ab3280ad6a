-- Calls that do lists of record writes, one after another.
use Rattle.std.proofs.Common.{Err, List, Ok, OnOk, Result, [], ap, arith, length, subst, sym, ℕ, ◌++◌, ◌+◌, ◌≡◌, ◌≤◌, ◌∙◌, IsTrue, Bool}
use Rattle.std.proofs.lemmas.List.{length-append}
use Rattle.disk_records.proofs.FirstOnes.{first_all, first_front, first_then}
use Rattle.disk_records.proofs.Growing.{added-twice}
use Rattle.disk_records.specs.Events.{IsFirstOf}
use Rattle.disk_records.specs.Tapes.{Grown, Looks, Taped, added}
use Rattle.disk_records.specs.declared.records.Event.{Event}
use Rattle.disk_descriptor.specs.Writing.{Writes}

-- one fact on Ok from another
on_ok : {T E P Q : Type 0} (result : Result T E) → (P → Q) → OnOk result P → OnOk result Q
on_ok (Ok x) f p = f p
on_ok (Err e) f p = tt

-- all that was to be written before, and then a call
pub writes_then : {T E : Type 0} (memory : E) {x y z : Taped} {result : Result T E} (before part : List Event) (m n : ℕ) → Grown x y → Grown y z → added x y ≡ before → y.runs ≤ x.runs + m
    → Writes memory part n y z result → Writes memory (before ++ part) (m + n) x z result
writes_then memory {x} {y} {z} {result} before part m n one two done ran next =
    let both : added x z ≡ added x y ++ added y z = added-twice one two in
    let spare = one.spare in
    let many : length (added x y) ≡ length before = ap length done in
    let all : length (before ++ part) ≡ length before + length part = length-append before part in
    let ran_on = next.runs in
    record {
      some = subst (IsFirstOf (before ++ part)) (sym both) (first_then before part (added x y) (added y z) done next.some);
      ok = on_ok result (λ (wrote : added y z ≡ part). both ∙ (λ i. done i ++ wrote i)) next.ok;
      want = λ short. let less = next.want short in omega (arith, spare, many, all, less);
      runs = omega (arith, ran, ran_on);
    }

-- a call that ends with an error has done a prefix of any longer list
pub writes_stop : {T U E : Type 0} (memory e : E) {x y : Taped} (writes later all : List Event) (m most : ℕ) → all ≡ writes ++ later → m ≤ most → Writes {T = T} memory writes m x y (Err e) → Writes {T = U} memory all most x y (Err e)
writes_stop memory e {x} {y} writes later all m most is within broken =
    let size : length all ≡ length writes + length later = ap length is ∙ length-append writes later in
    let ran = broken.runs in
    record {
      some = subst (λ ws. IsFirstOf ws (added x y)) (sym is) (first_front writes later (added x y) broken.some);
      ok = tt;
      want = λ short. let same : e ≡ memory = cc in let less = broken.want (ap Err same) in omega (arith, size, less);
      runs = omega (arith, ran, within);
    }

-- a call that is done
pub writes_all : {T E : Type 0} (memory : E) {x y : Taped} (value : T) (writes : List Event) (most : ℕ) → added x y ≡ writes → y.runs ≤ x.runs + most → Writes memory writes most x y (Ok value)
writes_all memory {x} {y} value writes most wrote ran = record {
  some = subst (IsFirstOf writes) (sym wrote) (first_all writes);
  ok = wrote;
  want = λ short. cc;
  runs = ran;
}

-- a look first
pub look_before : {T E : Type 0} {told : Bool} (memory : E) {x y z : Taped} {result : Result T E} (writes : List Event) (n : ℕ) → IsTrue told → Looks told 1 x y → Grown y z → Writes memory writes n y z result → Writes memory writes (1 + n) x z result
look_before memory writes n told looks two next = writes_then memory [] writes 1 n looks.alone.grown two (looks.silent told) (looks.runs told) next
