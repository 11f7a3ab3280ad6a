-- An error that is passed on: what is said of an answer at Ok isn't said of it.
use Rattle.std.proofs.Common.{Result, Ok, Err}
use Rattle.std.specs.Prelude.{IfOk, IsErrAnd}

pub no_ok : {T E : Type 0} (P : E → Type 0) (A : T → Type 0) (r : Result T E) → IsErrAnd r P → IfOk r A
no_ok P A (Ok x) is = absurd is
no_ok P A (Err x) is = tt
