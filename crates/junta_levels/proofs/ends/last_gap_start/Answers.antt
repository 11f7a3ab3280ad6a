use Rattle.std.proofs.Common.{◌≡◌, ◌+◌, ◌∙◌, arith, cond, get_or, refl, subst, sym}
use Rattle.zones.specs.laws_zone.proofs.Walking.{Standing, starts}
use Rattle.zones.specs.world_model.specs.ZoneWords.{is_gap_tag, tag_size, zone_start}
use Rattle.junta_levels.proofs.LastGap.{EndsAt, end_on, ends_at}
use Rattle.zones.specs.laws_zone.proofs.Walking.{steps}
use Rattle.junta_levels.proofs.ends.last_gap_start.Goals as goal

pub loop-here-init : goal.loop-here-init
loop-here-init c =
    let first = c.from-here.ensures in
    let after = c.requires.top.after in
    record {
      within = omega (arith, first, after);
      stands = subst (λ k. Standing c.args.top c.args.memory.now k (EndsAt c.from-from.result)) (sym c.from-here.ensures)
          (subst (λ k. Standing c.args.top c.args.memory.now zone_start (EndsAt k)) (sym c.from-from.ensures) (starts c.args.top c.args.memory.now (EndsAt zone_start) refl));
    }

pub loop-here-smaller : goal.loop-here-smaller
loop-here-smaller c =
    let step = steps c.args.top c.args.memory.now c.loop-here.here (EndsAt c.loop-here.from) c.requires.top c.requires.memory c.loop-here.invariant.stands c.loop-here-test.true in
    let some = step.0 in
    let last = step.1 in
    let size = c.from.ensures ∙ c.block_size.ensures in
    omega (arith, some, last, size)

pub loop-here-preserved : goal.loop-here-preserved
loop-here-preserved c =
    let size : c.from.result ≡ tag_size (get_or c.args.memory.now c.loop-here.here 0) = c.from.ensures ∙ c.block_size.ensures in
    let step = steps c.args.top c.args.memory.now c.loop-here.here (EndsAt c.loop-here.from) c.requires.top c.requires.memory c.loop-here.invariant.stands c.loop-here-test.true in
    let last = step.1 in
    let from : c.gap_start-from.result ≡ cond (is_gap_tag (get_or c.args.memory.now c.loop-here.here 0)) c.loop-here.here (c.loop-here.here + tag_size (get_or c.args.memory.now c.loop-here.here 0)) =
    c.gap_start-from.ensures ∙ (λ i. cond (c.is_gap.ensures i) c.loop-here.here (c.loop-here.here + size i)) in
    record {
      within = omega (arith, last, size);
      stands = subst (λ k. Standing c.args.top c.args.memory.now (c.loop-here.here + k) (EndsAt c.gap_start-from.result)) (sym size)
          (subst (λ k. Standing c.args.top c.args.memory.now (c.loop-here.here + tag_size (get_or c.args.memory.now c.loop-here.here 0)) (EndsAt k)) (sym from)
          (end_on c.args.top c.args.memory.now c.loop-here.here c.loop-here.from c.requires.top c.requires.memory c.loop-here.invariant.stands c.loop-here-test.true));
    }

pub returns : goal.returns
returns c = ends_at c.args.top c.args.memory.now c.loop-here.here c.loop-here.from c.requires.top c.requires.memory c.loop-here.invariant.stands c.loop-here-test.false
