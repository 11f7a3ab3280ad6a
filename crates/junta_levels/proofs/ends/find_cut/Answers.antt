use Rattle.std.proofs.Common.{◌≡◌, ◌+◌, ◌∙◌, ◌&&◌, ap, arith, false, get_or, not, refl, subst, sym}
use Rattle.std.proofs.Math.Bool.{and-false}
use Rattle.std.proofs.lemmas.Bool.{le-ltb}
use Rattle.std.specs.Prelude.{nat_lt}
use Rattle.zones.specs.world_model.specs.ZoneWords.{is_gap_tag, tag_size}
use Rattle.zones.specs.laws_zone.proofs.Walking.{Standing, starts, steps}
use Rattle.junta_levels.specs.Cuts.{FindsCut, in_block}
use Rattle.junta_levels.proofs.Cuts.{NonePast, cut_found, past_on}
use Rattle.junta_levels.proofs.ends.find_cut.Goals as goal

pub loop-here-init : goal.loop-here-init
loop-here-init c =
    let first = c.from-here.ensures in
    let after = c.requires.top.after in
    let low = c.requires.low in
    record {
      within = omega (arith, first, after);
      first = omega (arith, first, low);
      stands = subst (λ k. Standing c.args.top c.args.memory.now k (NonePast c.args.low)) (sym c.from-here.ensures) (starts c.args.top c.args.memory.now (NonePast c.args.low) refl);
    }

pub returns-then-low-end : goal.returns-then-low-end
returns-then-low-end c =
    let size : c.from.result ≡ tag_size (get_or c.args.memory.now c.loop-here.here 0) = c.from.ensures ∙ c.block_size.ensures in
    let test = c.if-low-end.true in
    subst (FindsCut c.args.top c.args.low c.args.memory.now) (sym (c.cut_in_block.ensures ∙ (λ i. in_block (c.is_gap.ensures i) c.loop-here.here (c.loop-here.here + size i) c.args.top)))
    (cut_found c.args.top c.args.low c.args.memory.now c.loop-here.here c.requires.top c.requires.memory c.loop-here.invariant.stands c.loop-here-test.true c.loop-here.invariant.first (omega (arith, size, test)))

pub loop-here-smaller : goal.loop-here-smaller
loop-here-smaller c =
    let step = steps c.args.top c.args.memory.now c.loop-here.here (NonePast c.args.low) c.requires.top c.requires.memory c.loop-here.invariant.stands c.loop-here-test.true in
    let some = step.0 in
    let last = step.1 in
    let size = c.from.ensures ∙ c.block_size.ensures in
    omega (arith, some, last, size)

pub loop-here-preserved : goal.loop-here-preserved
loop-here-preserved c =
    let size : c.from.result ≡ tag_size (get_or c.args.memory.now c.loop-here.here 0) = c.from.ensures ∙ c.block_size.ensures in
    let step = steps c.args.top c.args.memory.now c.loop-here.here (NonePast c.args.low) c.requires.top c.requires.memory c.loop-here.invariant.stands c.loop-here-test.true in
    let last = step.1 in
    let test = c.if-low-end.false in
    let none : (not (is_gap_tag (get_or c.args.memory.now c.loop-here.here 0)) && nat_lt c.args.low (c.loop-here.here + tag_size (get_or c.args.memory.now c.loop-here.here 0))) ≡ false =
    ap (λ b. not (is_gap_tag (get_or c.args.memory.now c.loop-here.here 0)) && b) (le-ltb c.args.low (c.loop-here.here + tag_size (get_or c.args.memory.now c.loop-here.here 0)) (omega (arith, test, size)))
    ∙ and-false (not (is_gap_tag (get_or c.args.memory.now c.loop-here.here 0))) in
    record {
      within = omega (arith, last, size);
      first = omega (arith, test);
      stands = subst (λ k. Standing c.args.top c.args.memory.now (c.loop-here.here + k) (NonePast c.args.low)) (sym size)
          (past_on c.args.top c.args.low c.args.memory.now c.loop-here.here c.requires.top c.requires.memory c.loop-here.invariant.stands c.loop-here-test.true none);
    }

pub returns : goal.returns
returns c =
    let first = c.loop-here.invariant.first in
    let less = c.requires.less in
    let past = c.loop-here-test.false in
    absurd (omega (arith, first, less, past))
