-- Calls that are to do operations, with other errors for their own: a fault for a fault, and out of memory for out of memory alone.
use Rattle.std.proofs.Common.{Err, IsErrOf, List, Ok, ap, ℕ, ◌≡◌}
use Rattle.laws_hint.specs.pack_model.specs.operations.Step.{Operation}
use Rattle.laws_call.specs.Acting.{Around, Operates, begun, refused}
use Rattle.laws_call.specs.Several.{Does, DoesOne, Done, began, look, looked, none, then, whole}

-- ---- one operation
module _ {E F T : Type 0} {fault memory : E} {other_fault other_memory : F} {o : Operation} {claimed : List ℕ} {old new : Around} where
  pub operates_ok : (x : T) → Operates fault memory o claimed old new (Ok x) → Operates other_fault other_memory o claimed old new (Ok x)
  operates_ok x (refused calm bad rich) = absurd bad
  operates_ok x (begun b) = begun (record {
    writes = b.writes;
    released = b.released;
    exact = b.exact;
    acts = b.acts;
    some = b.some;
    all = b.all;
    table = b.table;
    counts = λ tells. b.counts (λ e. absurd cc);
    out_of_memory = λ e. absurd cc;
  })

  pub operates_err : (x : E) (y : F) → (IsErrOf {T = T} (Err x) fault → IsErrOf {T = T} (Err y) other_fault) → (IsErrOf {T = T} (Err y) other_memory → IsErrOf {T = T} (Err x) memory)
      → Operates {T = T} fault memory o claimed old new (Err x) → Operates {T = T} other_fault other_memory o claimed old new (Err y)
  operates_err x y is_fault is_memory (refused calm bad rich) = refused calm tt (λ e. rich (is_memory e))
  operates_err x y is_fault is_memory (begun b) = begun (record {
    writes = b.writes;
    released = b.released;
    exact = b.exact;
    acts = b.acts;
    some = b.some;
    all = tt;
    table = tt;
    counts = λ tells. b.counts (λ e. tells (is_fault e));
    out_of_memory = λ e. b.out_of_memory (is_memory e);
  })

-- ---- several
module _ {E F : Type 0} {fault memory : E} {other_fault other_memory : F} where
  one_ok : {o : Operation} {own : List ℕ} {a b : Around} → DoesOne fault memory o own a b (Ok tt) → DoesOne other_fault other_memory o own a b (Ok tt)
  one_ok one = record { operates = operates_ok tt one.operates; went = one.went; serial = one.serial; low = one.low }

  one_err : {o : Operation} {own : List ℕ} {a b : Around} (e : E) (f : F) → (e ≡ fault → f ≡ other_fault) → (f ≡ other_memory → e ≡ memory) → DoesOne fault memory o own a b (Err e) → DoesOne other_fault other_memory o own a b (Err f)
  one_err e f is_fault is_memory one = record {
    operates = operates_err e f (λ x. ap Err (is_fault cc)) (λ x. ap Err (is_memory cc)) one.operates;
    went = one.went;
    serial = one.serial;
    low = one.low;
  }

  -- each of them was done
  pub done_too : {old : Around} {ops : List Operation} {claimed : List ℕ} {new : Around} → Done fault memory old ops claimed new → Done other_fault other_memory old ops claimed new
  done_too none = none
  done_too (look done quiet went) = look (done_too done) quiet went
  done_too (then done one) = then (done_too done) (one_ok one)

  module _ {T U : Type 0} {Says : Around → Around → E → Type 0} {Other : Around → Around → F → Type 0} {ops : List Operation} {claimed : List ℕ} {old new : Around} where
    pub does_ok : (x : T) (y : U) → Does fault memory Says ops claimed old new (Ok x) → Does other_fault other_memory Other ops claimed old new (Ok y)
    does_ok x y (whole done) = whole (done_too done)

    -- and the same is said of the error
    pub does_err : (e : E) (f : F) → (e ≡ fault → f ≡ other_fault) → (f ≡ other_memory → e ≡ memory) → ((mid : Around) → Says mid new e → Other mid new f)
        → Does {T = T} fault memory Says ops claimed old new (Err e) → Does {T = U} other_fault other_memory Other ops claimed old new (Err f)
    does_err e f is_fault is_memory says (began {mid = mid} more others done all_ops all_claimed one said) = began more others (done_too done) all_ops all_claimed (one_err e f is_fault is_memory one) (says mid said)
    does_err e f is_fault is_memory says (looked {mid = mid} more others done all_ops all_claimed quiet went said) = looked more others (done_too done) all_ops all_claimed quiet went (says mid said)
