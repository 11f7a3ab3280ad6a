-- The serial and the sectors of a new file, by what is tested for them.
use Rattle.std.proofs.Common.{◌≡◌, ◌≤◌, ◌<◌, ℕ, Bool, true, false, nat_le, nat_lt, None, Some, OnOk, Result, Ok, Err, ap, ◌∙◌, arith}
use Rattle.std.proofs.lemmas.Bool.{le-ltb, lt-ltb}
use Rattle.std.proofs.lemmas.Bool.Decides.{nat_tests}
use Rattle.std.specs.Option.{option_or}
use Rattle.exec_words.specs.declared.reply.Refusal.{Refusal}
use Rattle.exec_words.specs.declared.reply.Refusal.TheVariants as refusal
use Rattle.session_model.specs.Refusals.{most_serials, when}
use Rattle.exec_session.specs.Meant.{IfRefused}
use Rattle.exec_steps.specs.Rooms.{one_if, pages_planned}
use Rattle.exec_steps.specs.declared.rooms.NewEntry.{NewEntry}
use Rattle.exec_session.specs.declared.stop.Stop.{Stop}
use Rattle.exec_session.specs.declared.stop.Stop.TheVariants as stop
use Rattle.exec_writing.specs.Entries.{new_refusal}

-- ---- a plan has two pages at most
few_if : (b : Bool) → one_if b ≤ 1
few_if true = omega arith
few_if false = omega arith

pub few_planned : (e : NewEntry) → pages_planned e ≤ 2
few_planned e = let a = few_if e.widens_root in let b = few_if e.widens_dir in omega (arith, a, b)

-- ---- by the tests
pub below_most : (last : ℕ) → nat_le most_serials last ≡ false → last < most_serials
below_most last e = more most_serials last e
  where
    more : (n k : ℕ) → nat_le n k ≡ false → k < n
    more n k e = grind (arith, nat_tests)

pub serials_spent : (last pages free : ℕ) → nat_le most_serials last ≡ true → new_refusal last pages free ≡ Some (refusal.SerialsSpent last)
serials_spent last pages free e = ap (λ b. option_or (when b (refusal.SerialsSpent last)) (when (nat_lt free pages) (refusal.Full pages free))) e

-- neither test refuses, or the second one does
module _ (last pages free : ℕ) (left : nat_le most_serials last ≡ false) where
  tested : (few : Bool) → option_or (when (nat_le most_serials last) (refusal.SerialsSpent last)) (when few (refusal.Full pages free)) ≡ when few (refusal.Full pages free)
  tested few = ap (λ b. option_or (when b (refusal.SerialsSpent last)) (when few (refusal.Full pages free))) left

  pub nothing_refused : pages ≤ free → new_refusal last pages free ≡ None
  nothing_refused enough = tested (nat_lt free pages) ∙ ap (λ b. when b (refusal.Full pages free)) (le-ltb free pages enough)

  pub full_refused : free < pages → new_refusal last pages free ≡ Some (refusal.Full pages free)
  full_refused few = tested (nat_lt free pages) ∙ ap (λ b. when b (refusal.Full pages free)) (lt-ltb free pages few)

-- ---- answers
pub on_ok : {T X : Type 0} (r : Result T Stop) → X → OnOk r X
on_ok (Ok x) h = h
on_ok (Err e) h = tt

pub refused_then : {T : Type 0} (P Q : Refusal → Type 0) (r : Result T Stop) → ((x : Refusal) → P x → Q x) → IfRefused r P → IfRefused r Q
refused_then P Q (Ok x) f h = tt
refused_then P Q (Err (stop.Refused x)) f h = f x h
refused_then P Q (Err (stop.Misled place at wanted found)) f h = tt
refused_then P Q (Err stop.DiskFault) f h = tt
refused_then P Q (Err stop.Memory) f h = tt
