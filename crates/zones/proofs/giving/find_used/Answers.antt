use Rattle.std.proofs.Common.{◌≡◌, ◌+◌, ◌∙◌, ◌==◌, ◌&&◌, ap, arith, cond, false, get_or, not, subst, sym, true}
use Rattle.laws_zone.specs.world_model.specs.ZoneWords.{is_gap_tag, tag_size, zone_start}
use Rattle.laws_zone.specs.Filling.{first_gap}
use Rattle.laws_zone.proofs.Walking.{Standing, starts}
use Rattle.zones.proofs.Returning.{Sought, seek_found, seek_none, seek_on, seek_starts}
use Rattle.laws_zone.proofs.Walking.{steps}
use Rattle.zones.proofs.giving.find_used.Goals as goal

pub loop-here-init : goal.loop-here-init
loop-here-init c =
    let first = c.from-here.ensures in
    let after = c.requires.top.after in
    record {
      within = omega (arith, first, after);
      stands = subst (λ k. Standing c.args.top c.args.memory.now k (Sought c.args.at c.from-from.result)) (sym c.from-here.ensures)
          (subst (λ k. Standing c.args.top c.args.memory.now zone_start (Sought c.args.at k)) (sym c.from-from.ensures) (starts c.args.top c.args.memory.now (Sought c.args.at zone_start) (seek_starts c.args.at)));
    }

pub returns-then-is_block_at-clause-found : goal.returns-then-is_block_at-clause-found
returns-then-is_block_at-clause-found c =
    let size : c.from.result ≡ tag_size (get_or c.args.memory.now c.loop-here.here 0) = c.from.ensures ∙ c.block_size.ensures in
    let test : (not (is_gap_tag (get_or c.args.memory.now c.loop-here.here 0)) && (c.args.at == c.loop-here.here + 1)) ≡ true =
    sym (c.is_block_at.ensures ∙ ap (λ b. not b && (c.args.at == c.loop-here.here + 1)) c.is_gap-is_free.ensures) ∙ c.if-is_block_at.true in
    seek_found c.args.top c.args.memory.now c.loop-here.here c.loop-here.from c.args.at c.requires.top c.requires.memory c.loop-here.invariant.stands c.loop-here-test.true test c.end_of_gap.result
    (λ before rest zone place. c.end_of_gap.ensures before rest zone (ap (λ k. c.loop-here.here + k) size ∙ place) ∙ ap (λ k. c.loop-here.here + k + first_gap rest) size)

pub loop-here-smaller : goal.loop-here-smaller
loop-here-smaller c =
    let step = steps c.args.top c.args.memory.now c.loop-here.here (Sought c.args.at c.loop-here.from) c.requires.top c.requires.memory c.loop-here.invariant.stands c.loop-here-test.true in
    let some = step.0 in
    let last = step.1 in
    let size = c.from.ensures ∙ c.block_size.ensures in
    omega (arith, some, last, size)

pub loop-here-preserved : goal.loop-here-preserved
loop-here-preserved c =
    let size : c.from.result ≡ tag_size (get_or c.args.memory.now c.loop-here.here 0) = c.from.ensures ∙ c.block_size.ensures in
    let step = steps c.args.top c.args.memory.now c.loop-here.here (Sought c.args.at c.loop-here.from) c.requires.top c.requires.memory c.loop-here.invariant.stands c.loop-here-test.true in
    let last = step.1 in
    let test : (not (is_gap_tag (get_or c.args.memory.now c.loop-here.here 0)) && (c.args.at == c.loop-here.here + 1)) ≡ false =
    sym (c.is_block_at.ensures ∙ ap (λ b. not b && (c.args.at == c.loop-here.here + 1)) c.is_gap-is_free.ensures) ∙ c.if-is_block_at.false in
    let from : c.gap_start-from.result ≡ cond (is_gap_tag (get_or c.args.memory.now c.loop-here.here 0)) c.loop-here.here (c.loop-here.here + tag_size (get_or c.args.memory.now c.loop-here.here 0)) =
    c.gap_start-from.ensures ∙ (λ i. cond (c.is_gap-is_free.ensures i) c.loop-here.here (c.loop-here.here + size i)) in
    record {
      within = omega (arith, last, size);
      stands = subst (λ k. Standing c.args.top c.args.memory.now (c.loop-here.here + k) (Sought c.args.at c.gap_start-from.result)) (sym size)
          (subst (λ k. Standing c.args.top c.args.memory.now (c.loop-here.here + tag_size (get_or c.args.memory.now c.loop-here.here 0)) (Sought c.args.at k)) (sym from)
          (seek_on c.args.top c.args.memory.now c.loop-here.here c.loop-here.from c.args.at c.requires.top c.requires.memory c.loop-here.invariant.stands c.loop-here-test.true test));
    }

pub returns-clause-none : goal.returns-clause-none
returns-clause-none c = seek_none c.args.top c.args.memory.now c.loop-here.here c.loop-here.from c.args.at c.requires.top c.requires.memory c.loop-here.invariant.stands c.loop-here-test.false
