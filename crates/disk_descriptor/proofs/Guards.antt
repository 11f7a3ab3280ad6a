-- Values that are written by what is kept: each in a sector that carries its page, whether what is kept fits the pack or not.
use Rattle.std.proofs.Common.{Bool, Err, IsTrue, List, None, Ok, Option, Result, Some, [], ap, arith, cond, get_or, length, nat_lt, refl, subst, suc, sym, zero, ℕ, ◌++◌, ◌+◌, ◌<◌, ◌∙◌, ◌∷◌, ◌≡◌, ◌≢◌}
use Rattle.std.proofs.lemmas.List.{append-nil}
use Rattle.std.specs.Prelude.{◌&&◌}
use Rattle.disk_records.proofs.FirstOnes.{none_of_none}
use Rattle.disk_records.proofs.Growing.{added-twice, nothing_added, pack-silent}
use Rattle.disk_records.specs.Addresses.{is_right_header}
use Rattle.disk_records.specs.Commands.{value_writes}
use Rattle.disk_records.specs.Events.{IsFirstOf}
use Rattle.disk_records.specs.Packs.{Pack, after, carried, label_found}
use Rattle.disk_records.specs.Tapes.{Grown, Looks, Taped, added, pack}
use Rattle.disk_records.specs.declared.records.Event.TheVariants.{Wrote}
use Rattle.disk_records.specs.declared.records.Event.{Event}
use Rattle.disk_records.specs.declared.shape.Shape.{Shape}
use Rattle.label_check.specs.Guarded.{Carries, Guarded}
use Rattle.label_check.specs.declared.errors.GuardError.TheVariants as guard
use Rattle.label_check.specs.declared.errors.GuardError.{GuardError}
use Rattle.laws_format.specs.pack_laws.proofs.Guarding.{front_from}
use Rattle.pack_model.specs.operations.Commands.{values_writes}
use Rattle.disk_descriptor.proofs.Writings.{look_before, writes_all, writes_stop}
use Rattle.disk_descriptor.specs.Answers.{IfHeld, error_at}
use Rattle.disk_descriptor.specs.Writing.{AreOwnValues, FindsOther, GuardsPage, IsOwnValue, StopsAt, Writes, WritesOwn, data_page}
use Rattle.disk_descriptor.specs.declared.errors.DescError.TheVariants.{DiskFault, Held, Memory, Spent}
use Rattle.disk_descriptor.specs.declared.errors.DescError.{DescError}

-- ---- labels stay where values are written
abbrev found_on : Shape → ℕ → List ℕ → List ℕ → Option (List ℕ)
found_on shape at header label = cond (nat_lt 0 at && is_right_header shape at header) (Some label) None

pub values_found : (vs : List (ℕ × List ℕ)) (p : Pack) (i : ℕ) → label_found (after p (values_writes vs)) i ≡ label_found p i
values_found [] p i = refl
values_found (v ∷ vs) p i =
    let front = front_from p.sectors v.0 i v.1 in
    values_found vs (after p (Wrote v.0 2 v.1 ∷ [])) i ∙ (λ j. found_on p.shape i (front.0 j) (front.1 j))

-- ---- what was written
-- a prefix of one value write, which comes only where the sector carries its page
pub own_value : (p : Pack) (pages : List ℕ) (n : ℕ) (value : List ℕ) (events : List Event) → IsFirstOf (value_writes (get_or pages n 0) value) events → (events ≢ [] → carried p (get_or pages n 0) ≡ Some (data_page (n + 1)))
    → AreOwnValues p pages (suc n) events
own_value p pages n value [] first here = tt
own_value p pages n value (e ∷ []) first here = (subst (IsOwnValue p pages n) (sym first.0) (refl, refl, here (λ is. cc)), tt)
own_value p pages n value (e ∷ f ∷ events) first here = elim first.1 [ ]

-- some, and then others
pub own_then : (p : Pack) (pages : List ℕ) (n left : ℕ) (before more : List Event) → AreOwnValues p pages n before → length before + left ≡ n → AreOwnValues p pages left more → AreOwnValues p pages n (before ++ more)
own_then p pages n left [] more own is next = let same : left ≡ n = omega (arith, is) in subst (λ k. AreOwnValues p pages k more) same next
own_then p pages zero left (e ∷ before) more own is next = elim own [ ]
own_then p pages (suc n) left (e ∷ before) more own is next = (own.0, own_then p pages n left before more own.1 (omega (arith, is)) next)

-- none was
pub own_nothing : (pages : List ℕ) (a : Taped) → AreOwnValues (pack a) pages (length pages) (added a a)
own_nothing pages a = subst (AreOwnValues (pack a) pages (length pages)) (sym (nothing_added a.events)) tt

-- ---- one fact at Held from another, also of a result of another type
pub held_as : {T : Type 0} {P Q : ℕ → Option (List ℕ) → Type 0} (result : Result T DescError) → ((at : ℕ) (found : Option (List ℕ)) → P at found → Q at found) → IfHeld result P → IfHeld result Q
held_as (Ok x) f h = tt
held_as (Err (Spent last)) f h = tt
held_as (Err (Held at found)) f h = f at found h
held_as (Err DiskFault) f h = tt
held_as (Err Memory) f h = tt

pub held_of : (T U : Type 0) (P : ℕ → Option (List ℕ) → Type 0) (e : DescError) → IfHeld {T = T} (Err e) P → IfHeld {T = U} (Err e) P
held_of T U P (Spent last) h = tt
held_of T U P (Held at found) h = h
held_of T U P DiskFault h = tt
held_of T U P Memory h = tt

-- ---- a guarded command that isn't done
pub guards_err : (at number count : ℕ) (writes : List Event) {x y : Taped} (e : GuardError) → Guarded {T = Unit {0}} (Carries at (data_page number)) at [] writes count x y (Err e) → GuardsPage {T = Unit {0}} at number x y (Err (error_at at e))
guards_err at number count writes (guard.Wrong found) call = record {
  own = call.guarded;
  held = record { here = refl; other = call.wrong.failed; label = call.wrong.label; silent = call.wrong.silent };
  short = λ want. cc;
}
guards_err at number count writes guard.DiskFault call = record { own = call.guarded; held = tt; short = λ want. cc }
guards_err at number count writes {x} {y} guard.Memory call = record { own = call.guarded; held = tt; short = λ want. none_of_none (added x y) (call.want refl).unwritten }

-- ---- calls
-- for the first page alone
pub own_first : {T : Type 0} (at : ℕ) (value : List ℕ) (most : ℕ) {x y : Taped} {result : Result T DescError} → Writes Memory (value_writes at value) most x y result → GuardsPage at 1 x y result → WritesOwn (at ∷ []) (value_writes at value) most x y result
own_first at value most {x} {y} {result} wrote guards = record {
  writes = wrote;
  own = own_value (pack x) (at ∷ []) 0 value (added x y) wrote.some guards.own;
  held = held_as result one guards.held;
  short = λ want. let none = ap length (guards.short want) in omega (arith, none);
}
  where
    one : (place : ℕ) (found : Option (List ℕ)) → FindsOther (pack x) at 1 (added x y) place found → StopsAt (pack x) (at ∷ []) (added x y) place found
    one place found h = record {
      n = 0;
      is_kept = h.here;
      other = λ is. h.other (ap (carried (pack x)) (sym h.here) ∙ is);
      label = h.label ∙ ap (label_found (pack x)) (sym h.here);
      later = let none = ap length h.silent in omega (arith, none);
    }

-- a look first
pub own_after_look : {T : Type 0} {told : Bool} (pages : List ℕ) (writes : List Event) (n : ℕ) {x y z : Taped} {result : Result T DescError} → IsTrue told → Looks told 1 x y → Grown y z → WritesOwn pages writes n y z result → WritesOwn pages writes (1 + n) x z result
own_after_look pages writes n {x} {y} {z} {result} told looks two call =
    let silent : added x y ≡ [] = looks.silent told in
    let same : pack y ≡ pack x = pack-silent looks.alone.grown silent in
    let both : added x z ≡ added y z = added-twice looks.alone.grown two ∙ ap (λ es. es ++ added y z) silent in
    record {
      writes = look_before Memory writes n told looks two call.writes;
      own = subst (AreOwnValues (pack x) pages (length pages)) (sym both) (subst (λ p. AreOwnValues p pages (length pages) (added y z)) same call.own);
      held = subst (λ es. IfHeld result (StopsAt (pack x) pages es)) (sym both) (subst (λ p. IfHeld result (StopsAt p pages (added y z))) same call.held);
      short = λ want. subst (λ es. length es < length pages) (sym both) (call.short want);
    }

-- one that is done already
pub own_done : {T : Type 0} (value : T) (pages : List ℕ) (writes : List Event) (most : ℕ) (a : Taped) → writes ≡ [] → WritesOwn pages writes most a a (Ok value)
own_done value pages writes most a none = record {
  writes = writes_all Memory value writes most (nothing_added a.events ∙ sym none) (omega arith);
  own = own_nothing pages a;
  held = tt;
  short = λ want. cc;
}

-- one that answers another value
pub own_ok : {T U : Type 0} {old_value : T} (value : U) (pages : List ℕ) (writes : List Event) (most : ℕ) {x y : Taped} → WritesOwn pages writes most x y (Ok old_value) → WritesOwn pages writes most x y (Ok value)
own_ok value pages writes most call = record { writes = writes_all Memory value writes most call.writes.ok call.writes.runs; own = call.own; held = tt; short = λ want. cc }

-- one that hands an error on
pub own_err : {T U : Type 0} (e : DescError) (pages : List ℕ) (writes : List Event) (most : ℕ) {x y : Taped} → WritesOwn {T = T} pages writes most x y (Err e) → WritesOwn {T = U} pages writes most x y (Err e)
own_err {T} {U} e pages writes most {x} {y} call = record {
  writes = writes_stop {T = T} {U = U} Memory e writes [] writes most most (sym (append-nil writes)) (omega arith) call.writes;
  own = call.own;
  held = held_of T U (StopsAt (pack x) pages (added x y)) e call.held;
  short = λ want. call.short (let same : e ≡ Memory = cc in ap Err same);
}
