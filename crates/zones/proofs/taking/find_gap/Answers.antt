use Rattle.std.proofs.Common.{◌≡◌, ◌+◌, ◌-◌, ◌∙◌, arith, cond, get_or, max, refl, subst, sym}
use Rattle.laws_zone.specs.world_model.specs.ZoneWords.{is_gap_tag, tag_size}
use Rattle.laws_zone.proofs.Walking.{Standing, starts, steps}
use Rattle.zones.proofs.Walks.{SoFar, gap_found, gap_goes_on, no_gap_fits}
use Rattle.zones.proofs.taking.find_gap.Goals as goal

pub loop-at-init : goal.loop-at-init
loop-at-init c =
    let first = c.from-at.ensures in
    let after = c.requires.top.after in
    record {
      within = omega (arith, first, after);
      stands = subst (λ k. Standing c.args.top c.args.memory.now k (SoFar c.args.size 0)) (sym c.from-at.ensures) (starts c.args.top c.args.memory.now (SoFar c.args.size 0) (record { none = tt; most = refl }));
    }

pub returns-then-has_room-clause-found : goal.returns-then-has_room-clause-found
returns-then-has_room-clause-found c =
    gap_found c.args.top c.args.memory.now c.loop-at.at c.args.size c.loop-at.largest c.requires.top c.requires.memory c.loop-at.invariant.stands c.loop-at-test.true (sym c.has_room.ensures ∙ c.if-has_room.true)

pub loop-at-smaller : goal.loop-at-smaller
loop-at-smaller c =
    let step = steps c.args.top c.args.memory.now c.loop-at.at (SoFar c.args.size c.loop-at.largest) c.requires.top c.requires.memory c.loop-at.invariant.stands c.loop-at-test.true in
    let some = step.0 in
    let last = step.1 in
    let size = c.from-at-in-loop-at.ensures ∙ c.block_size.ensures in
    omega (arith, some, last, size)

pub loop-at-preserved : goal.loop-at-preserved
loop-at-preserved c =
    let size = c.from-at-in-loop-at.ensures ∙ c.block_size.ensures in
    let step = steps c.args.top c.args.memory.now c.loop-at.at (SoFar c.args.size c.loop-at.largest) c.requires.top c.requires.memory c.loop-at.invariant.stands c.loop-at-test.true in
    let last = step.1 in
    let m = c.max-largest.ensures in
    let w = c.gap_words.ensures in
    let most : max c.loop-at.largest (cond (is_gap_tag (get_or c.args.memory.now c.loop-at.at 0)) (get_or c.args.memory.now c.loop-at.at 0 - 1) 0) ≡ c.max-largest.result = omega (arith, m, w) in
    record {
      within = omega (arith, last, size);
      stands = subst (λ k. Standing c.args.top c.args.memory.now (c.loop-at.at + k) (SoFar c.args.size c.max-largest.result)) (sym size)
          (subst (λ n. Standing c.args.top c.args.memory.now (c.loop-at.at + tag_size (get_or c.args.memory.now c.loop-at.at 0)) (SoFar c.args.size n)) most
          (gap_goes_on c.args.top c.args.memory.now c.loop-at.at c.args.size c.loop-at.largest c.requires.top c.requires.memory c.loop-at.invariant.stands c.loop-at-test.true (sym c.has_room.ensures ∙ c.if-has_room.false)));
    }

pub returns-clause-none : goal.returns-clause-none
returns-clause-none c = no_gap_fits c.args.top c.args.memory.now c.loop-at.at c.args.size c.loop-at.largest c.requires.top c.requires.memory c.loop-at.invariant.stands c.loop-at-test.false
