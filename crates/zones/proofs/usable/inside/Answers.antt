use Rattle.std.proofs.Common.{◌≤◌, ◌<◌, ◌+◌, ◌∙◌, Some, ap, arith, cond, false, get_or, subst, sym}
use Rattle.std.proofs.lemmas.Bool.{le-ltb}
use Rattle.std.specs.Option.{is_some}
use Rattle.std.specs.Prelude.{nat_lt}
use Rattle.laws_zone.specs.disk_records.specs.Words.{word}
use Rattle.laws_zone.specs.world_model.specs.Zones.{zone_word}
use Rattle.laws_zone.specs.world_model.specs.ZoneWords.{IsMemory, is_gap_tag, tag_size, zone_in, zone_start}
use Rattle.laws_zone.specs.Filling.{IsTop}
use Rattle.laws_zone.proofs.Walking.{Standing}
use Rattle.zones.proofs.Walks.{Passed, none_found, walk_on, word_found}
use Rattle.laws_zone.proofs.Walking.{steps}
use Rattle.zones.proofs.usable.inside.Goals as goal

pub returns-then-wanted-end : goal.returns-then-wanted-end
returns-then-wanted-end c =
    let m = c.args.memory.now in
    let t : IsTop c.from-top.result = subst IsTop (sym c.from-top.ensures) c.requires.top in
    let h : IsMemory c.from-top.result c.args.memory.now = subst (λ k. IsMemory k c.args.memory.now) (sym c.from-top.ensures) c.requires.memory in
    let stands = c.loop-here.invariant.stands in
    let place = stands.place in
    let passed = c.loop-here.invariant.passed in
    let low : zone_start ≤ c.args.at = omega (arith, place, passed) in
    let size = c.from.ensures ∙ c.block_size.ensures in
    let wanted = c.from-wanted.ensures in
    let test = c.if-wanted-end.true in
    let high : c.args.at < c.loop-here.here + tag_size (get_or c.args.memory.now c.loop-here.here 0) = omega (arith, size, wanted, test) in
    c.is_usable.ensures
    ∙ ap (λ w. cond (is_gap_tag (get_or c.args.memory.now c.loop-here.here 0)) false (nat_lt c.loop-here.here w)) c.from-wanted.ensures
    ∙ sym (word_found c.from-top.result m c.loop-here.here c.args.at t h stands c.loop-here-test.true passed high)
    ∙ ap (λ k. is_some (zone_word zone_start c.args.at (zone_in k c.args.memory.now))) c.from-top.ensures
    ∙ sym (ap (λ b. is_some (cond b (Some (word c.args.memory.now c.args.at)) (zone_word zone_start c.args.at (zone_in c.args.top c.args.memory.now)))) (le-ltb c.args.at zone_start low))

pub loop-here-smaller : goal.loop-here-smaller
loop-here-smaller c =
    let t : IsTop c.from-top.result = subst IsTop (sym c.from-top.ensures) c.requires.top in
    let h : IsMemory c.from-top.result c.args.memory.now = subst (λ k. IsMemory k c.args.memory.now) (sym c.from-top.ensures) c.requires.memory in
    let step = steps c.from-top.result c.args.memory.now c.loop-here.here Passed t h c.loop-here.invariant.stands c.loop-here-test.true in
    let some = step.0 in
    let last = step.1 in
    let size = c.from.ensures ∙ c.block_size.ensures in
    omega (arith, some, last, size)

pub loop-here-preserved : goal.loop-here-preserved
loop-here-preserved c =
    let t : IsTop c.from-top.result = subst IsTop (sym c.from-top.ensures) c.requires.top in
    let h : IsMemory c.from-top.result c.args.memory.now = subst (λ k. IsMemory k c.args.memory.now) (sym c.from-top.ensures) c.requires.memory in
    let stands = c.loop-here.invariant.stands in
    let step = steps c.from-top.result c.args.memory.now c.loop-here.here Passed t h stands c.loop-here-test.true in
    let last = step.1 in
    let size = c.from.ensures ∙ c.block_size.ensures in
    let wanted = c.from-wanted.ensures in
    let test = c.if-wanted-end.false in
    record {
      within = omega (arith, last, size);
      passed = omega (arith, wanted, test);
      stands = subst (λ k. Standing c.from-top.result c.args.memory.now (c.loop-here.here + k) Passed) (sym size) (walk_on c.from-top.result c.args.memory.now c.loop-here.here t h stands c.loop-here-test.true);
    }

pub returns : goal.returns
returns c =
    let t : IsTop c.from-top.result = subst IsTop (sym c.from-top.ensures) c.requires.top in
    let h : IsMemory c.from-top.result c.args.memory.now = subst (λ k. IsMemory k c.args.memory.now) (sym c.from-top.ensures) c.requires.memory in
    let stands = c.loop-here.invariant.stands in
    let place = stands.place in
    let passed = c.loop-here.invariant.passed in
    let low : zone_start ≤ c.args.at = omega (arith, place, passed) in
    sym (ap (λ b. is_some (cond b (Some (word c.args.memory.now c.args.at)) (zone_word zone_start c.args.at (zone_in c.args.top c.args.memory.now)))) (le-ltb c.args.at zone_start low)
    ∙ ap (λ k. is_some (zone_word zone_start c.args.at (zone_in k c.args.memory.now))) (sym c.from-top.ensures)
    ∙ none_found c.from-top.result c.args.memory.now c.loop-here.here c.args.at t h stands c.loop-here-test.false passed)
