use Rattle.std.proofs.Common.{◌≡◌, ◌∙◌, Bool, true, false, cond, leb, refl, ℕ, ◌+◌, List, [], Some, None, Option, nat_cmp, Bor, sym, ap, subst, arith}
use Rattle.std.specs.Bool.{then_some}
use Rattle.std.specs.BTreeMap.{is_at}
use Rattle.std.specs.Map.{lookup}
use Rattle.std.specs.Option.{option_copied}
use Rattle.scav_names.specs.Rooms.{run_total}
use Rattle.scav_names.proofs.Runs.{IsAlong, along_ends, along_fits, along_more, along_none}
use Rattle.scav_names.proofs.rooms.total_at.Goals as goal

looked : (es : List (ℕ × ℕ)) (next key : ℕ) (r : Option (Bor ℕ)) (o : Option ℕ) → next ≡ key → option_copied r ≡ lookup (is_at (nat_cmp next)) es → option_copied r ≡ o → lookup (is_at (nat_cmp key)) es ≡ o
looked es next key r o e h k = ap (λ q. lookup (is_at (nat_cmp q)) es) (sym e) ∙ sym h ∙ k

some_if : (b : Bool) (x : ℕ) → then_some b x ≡ cond b (Some x) None
some_if true x = refl
some_if false x = refl

pub loop-init : goal.loop-init
loop-init c = record { short = omega arith; along = λ before rest at. along_none rest }

pub returns-in_err-next-clause-total : goal.returns-in_err-next-clause-total
returns-in_err-next-clause-total c = λ before rest at.
    let fits = along_fits _ _ _ _ before rest at (c.loop.invariant.along before rest at) in
    absurd (c.in_err-next.ensures (omega (arith, c.from.ensures)))

pub returns-in_err-get-clause-total : goal.returns-in_err-get-clause-total
returns-in_err-get-clause-total c = λ before rest at.
    let none = looked c.args.free.now.entries c.in_ok-next.next (c.args.place + c.loop.total) c.get.result None (omega (arith, c.in_ok-next.ensures, c.from.ensures)) c.get.ensures.value (ap option_copied c.in_err-get.was) in
    c.from_residual-in_err-get.ensures ∙ sym (along_ends _ _ _ _ c.args.words before rest at (c.loop.invariant.along before rest at) c.loop.invariant.short none)

pub returns-in_err-total-clause-total : goal.returns-in_err-total-clause-total
returns-in_err-total-clause-total c = λ before rest at.
    let some = looked c.args.free.now.entries c.in_ok-next.next (c.args.place + c.loop.total) c.get.result (Some c.in_ok-get.field-0.now) (omega (arith, c.in_ok-next.ensures, c.from.ensures)) c.get.ensures.value (ap option_copied c.in_ok-get.was) in
    let more = along_more _ _ _ _ _ before rest at (c.loop.invariant.along before rest at) some in
    let most = more.most in
    absurd (c.in_err-total.ensures (omega (arith)))

pub returns-then-total-words-clause-total : goal.returns-then-total-words-clause-total
returns-then-total-words-clause-total c = λ before rest at.
    let some = looked c.args.free.now.entries c.in_ok-next.next (c.args.place + c.loop.total) c.get.result (Some c.in_ok-get.field-0.now) (omega (arith, c.in_ok-next.ensures, c.from.ensures)) c.get.ensures.value (ap option_copied c.in_ok-get.was) in
    let more = along_more _ _ _ _ _ before rest at (c.loop.invariant.along before rest at) some in
    let sum = c.in_ok-total.ensures.1 in
    let found = more.found c.args.words c.loop.invariant.short (omega (arith, c.in_ok-total.ensures)) in
    c.then_some.ensures ∙ some_if (leb c.in_ok-total.total 1023) c.in_ok-total.total ∙ ap (λ t. run_total (Some (t, []))) sum ∙ sym found

pub loop-preserved : goal.loop-preserved
loop-preserved c = record {
  short = omega arith;
  along = λ before rest at.
      let some = looked c.args.free.now.entries c.in_ok-next.next (c.args.place + c.loop.total) c.get.result (Some c.in_ok-get.field-0.now) (omega (arith, c.in_ok-next.ensures, c.from.ensures)) c.get.ensures.value (ap option_copied c.in_ok-get.was) in
      let more = along_more _ _ _ _ _ before rest at (c.loop.invariant.along before rest at) some in
      subst (λ t. IsAlong t (c.loop.counter + 1) rest) (sym c.in_ok-total.ensures.1) more.along;
}

pub returns-clause-total : goal.returns-clause-total
returns-clause-total c = λ before rest at.
    let many = (c.loop.invariant.along before rest at).many in
    let short = c.loop.invariant.short in
    absurd (omega arith)
