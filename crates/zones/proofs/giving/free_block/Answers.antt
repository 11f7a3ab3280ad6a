use Rattle.std.proofs.Common.{arith, subst, sym}
use Rattle.laws_zone.specs.world_model.specs.ZoneWords.{IsMemory, zone_in}
use Rattle.laws_zone.specs.Filling.{IsTop}
use Rattle.zones.specs.Giving.{GivesBack}
use Rattle.zones.specs.Keeping.{KeepsOtherWords}
use Rattle.zones.proofs.Keeping.{given_back_keeps}
use Rattle.zones.proofs.Returning.{gives, span_within}
use Rattle.zones.proofs.giving.free_block.Goals as goal

pub put_gap-requires : goal.put_gap-requires
put_gap-requires c =
    let t : IsTop c.from.result = subst IsTop (sym c.from.ensures) c.requires.top in
    let h : IsMemory c.from.result c.args.memory.now = subst (λ k. IsMemory k c.args.memory.now) (sym c.from.ensures) c.requires.memory in
    let w = span_within c.from.result c.from-2.result c.args.memory.now c.in-Some.span t h c.in-Some.ensures.found in
    let order = w.order in
    let first = w.first in
    let last = w.last in
    let long = h.words in
    let most = t.most in
    record { order = order; within = omega (arith, last, long, most); most = omega (arith, first, last, most) }

pub returns-in-Some-clause-given : goal.returns-in-Some-clause-given
returns-in-Some-clause-given c =
    let t : IsTop c.from.result = subst IsTop (sym c.from.ensures) c.requires.top in
    let h : IsMemory c.from.result c.args.memory.now = subst (λ k. IsMemory k c.args.memory.now) (sym c.from.ensures) c.requires.memory in
    subst (λ k. GivesBack k c.args.at c.args.memory.now c.put_gap.new.memory) c.from.ensures
    (subst (λ k. GivesBack c.from.result k c.args.memory.now c.put_gap.new.memory) c.from-2.ensures
    (gives c.from.result c.from-2.result c.args.memory.now c.put_gap.new.memory c.in-Some.span t h c.in-Some.ensures.found c.put_gap.ensures))

pub returns-in-Some-clause-others : goal.returns-in-Some-clause-others
returns-in-Some-clause-others c =
    let is = returns-in-Some-clause-given c in
    subst (KeepsOtherWords c.args.at (zone_in c.args.top c.args.memory.now)) (sym is.now.zone) (given_back_keeps c.args.at (zone_in c.args.top c.args.memory.now) is.blocks is.given)
