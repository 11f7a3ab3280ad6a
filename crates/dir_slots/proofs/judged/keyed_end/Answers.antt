use Rattle.std.proofs.Common.{◌≡◌, ◌+◌, ◌-◌, ◌≤◌, ℕ, List, length, drop, get_or, sym, subst, arith}
use Rattle.std.proofs.lemmas.List.{take_rest}
use Rattle.disk_records.specs.Words.{word}
use Rattle.dir_slots.specs.Inside.{IsOtherAt}
use Rattle.dir_slots.specs.Judged.{IsKeyed, size_here}
use Rattle.dir_slots.proofs.Keyed.{keyed_in, keyed_other, pass_one, size_at, size_in, sized_here}
use Rattle.dir_slots.proofs.judged.keyed_end.Goals as goal

pub loop-at-preserved : goal.loop-at-preserved
loop-at-preserved c =
    let words = c.args.words.now in
    let page = c.args.page.now in
    let at : ℕ = c.loop-at.at in
    let key : ℕ = word c.args.keys.now at in
    let inv = c.loop-at.invariant in
    let n : ℕ = get_or words at 0 - 1024 in
    let here : IsKeyed (drop at words) key = c.requires.keyed at c.loop-at-test.true in
    let states : size_here (drop at words) ≡ n = size_at words at in
    let least : 8 ≤ n = omega (arith, states, sized_here (drop at words) key here) in
    let few : at + n ≤ length page = c.if-end-page.false in
    let given : IsKeyed (drop at page) key = keyed_in words page at key c.requires.same (omega (arith, states, few)) here in
    let size : size_here (drop at page) ≡ n = size_in words page at c.requires.same (omega (arith, least, few)) in
    record {
      on = omega (arith, inv.on);
      within = few;
      passes = λ passing tells.
          let o = keyed_other passing (drop at page) key c.args.wanted tells c.if-keys-at.true given in
          pass_one passing page c.args.from at n inv.on inv.within (inv.passes passing tells)
          (subst (λ (l : List ℕ). IsOtherAt passing l n) (sym (take_rest page at)) (subst (λ (k : ℕ). IsOtherAt passing (drop at page) k) size o));
    }
