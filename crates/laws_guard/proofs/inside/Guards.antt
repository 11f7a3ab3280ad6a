-- What a guarded command says of its record writes alone.
use Rattle.std.proofs.Common.{Err, List, Ok, OnOk, Result, ℕ, ◌≡◌}
use Rattle.laws_call.specs.disk_records.specs.Packs.{Pack}
use Rattle.laws_call.specs.disk_records.specs.Tapes.{Taped, added}
use Rattle.laws_call.specs.disk_records.specs.declared.records.Event.{Event}
use Rattle.laws_call.specs.label_check.specs.Guarded.{DoneWhole}
use Rattle.laws_call.specs.label_check.specs.declared.errors.GuardError.{GuardError}
use Rattle.laws_guard.specs.GuardedCalls.{GuardedWrites}

done_wrote : (guards : Pack → Type 0) (writes : List Event) (count : ℕ) (a b : Taped) (inner : Result (Unit {0}) GuardError) → OnOk inner (DoneWhole guards writes count a b) → OnOk inner (added a b ≡ writes)
done_wrote guards writes count a b (Ok x) done = done.wrote
done_wrote guards writes count a b (Err e) done = tt

pub guarded_writes : (T : Type 0) → GuardedWrites T
guarded_writes T asked wanted at early writes count a b inner guarded = record {
  prefix = guarded.some;
  ok = done_wrote (λ p. asked p ≡ wanted) writes count a b inner guarded.ok;
  less = λ memory. (guarded.want memory).less;
}
