use Rattle.std.proofs.Common.{◌≡◌, ◌+◌, ◌-◌, ◌≤◌, ◌∙◌, ◌++◌, ℕ, List, length, take, drop, sym, ap, arith}
use Rattle.std.proofs.lemmas.Bool.{not-false}
use Rattle.std.proofs.lemmas.List.{length-drop, length-take-le}
use Rattle.std.proofs.lemmas.Slice.Eq.{bytes_eq-Decides}
use Rattle.std.proofs.Math.Seq.{take-add}
use Rattle.dir_slots.proofs.judged.renew_parts.Goals as goal

pub loop-at-preserved-then-ne : goal.loop-at-preserved-then-ne
loop-at-preserved-then-ne c =
    let page = c.args.page.now in
    let at : ℕ = c.loop-at.at in
    let end : ℕ = c.min-end.result in
    let part : List ℕ = take (end - at) (drop at page) in
    let within : end ≤ length page = omega (arith, c.min-end.ensures) in
    let on : at + (end - at) ≡ end = omega (arith, c.min-end.ensures, c.loop-at-test.true) in
    let long : length part ≡ end - at = length-take-le (end - at) (drop at page) (omega (arith, length-drop at page, within)) in
    record {
      within = within;
      keyed = c.renew_part.ensures.keyed;
      same =
          ap (λ (k : ℕ). take k c.renew_part.new.words) (sym on ∙ ap (λ (k : ℕ). at + k) (sym long)) ∙ c.renew_part.ensures.words ∙ ap (λ (l : List ℕ). l ++ part) c.loop-at.invariant.same
          ∙ sym (take-add at (end - at) page) ∙ ap (λ (k : ℕ). take k page) on;
    }

pub loop-at-preserved : goal.loop-at-preserved
loop-at-preserved c =
    let words = c.loop-at.words in
    let page = c.args.page.now in
    let at : ℕ = c.loop-at.at in
    let end : ℕ = c.min-end.result in
    let on : at + (end - at) ≡ end = omega (arith, c.min-end.ensures, c.loop-at-test.true) in
    let equal : take (end - at) (drop at words) ≡ take (end - at) (drop at page) = (bytes_eq-Decides _ _).0 (not-false _ (sym c.ne.ensures ∙ c.if-ne.false)) in
    record {
      within = omega (arith, c.min-end.ensures);
      keyed = c.loop-at.invariant.keyed;
      same =
          ap (λ (k : ℕ). take k words) (sym on) ∙ take-add at (end - at) words ∙ ap (λ (l : List ℕ). take at words ++ l) equal ∙ ap (λ (l : List ℕ). l ++ take (end - at) (drop at page)) c.loop-at.invariant.same
          ∙ sym (take-add at (end - at) page) ∙ ap (λ (k : ℕ). take k page) on;
    }
