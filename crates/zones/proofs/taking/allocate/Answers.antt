use Rattle.std.proofs.Common.{◌+◌, subst, sym}
use Rattle.laws_zone.specs.world_model.specs.ZoneWords.{IsMemory, zone_in}
use Rattle.laws_zone.specs.Filling.{IsTop}
use Rattle.zones.specs.Keeping.{KeepsWords}
use Rattle.zones.specs.Taking.{Takes}
use Rattle.zones.proofs.Allocating.{takes}
use Rattle.zones.proofs.Keeping.{taken_keeps}
use Rattle.zones.proofs.Walks.{gap_is_at}
use Rattle.zones.proofs.taking.allocate.Goals as goal

pub take_gap-requires : goal.take_gap-requires
take_gap-requires c = record { gap = gap_is_at c.from-top.result c.args.memory.now c.args.n c.size_for-size.result c.in-Ok.at c.size_for-size.ensures c.in-Ok.ensures.found }

pub returns-in-Ok-clause-taken : goal.returns-in-Ok-clause-taken
returns-in-Ok-clause-taken c =
    let t : IsTop c.from-top.result = subst IsTop (sym c.from-top.ensures) c.requires.top in
    let h : IsMemory c.from-top.result c.args.memory.now = subst (λ k. IsMemory k c.args.memory.now) (sym c.from-top.ensures) c.requires.memory in
    subst (λ k. Takes k c.args.n c.args.memory.now c.take_gap.new.memory (c.in-Ok.at + 1)) c.from-top.ensures
    (takes c.from-top.result c.args.n c.size_for-size.result c.in-Ok.at c.args.memory.now c.take_gap.new.memory t h c.size_for-size.ensures c.in-Ok.ensures.found c.take_gap.ensures)

pub returns-in-Ok-clause-others : goal.returns-in-Ok-clause-others
returns-in-Ok-clause-others c =
    let is = returns-in-Ok-clause-taken c in
    subst (KeepsWords (zone_in c.args.top c.args.memory.now)) (sym is.now.zone) (taken_keeps c.args.n (zone_in c.args.top c.args.memory.now) (record { at = c.in-Ok.at + 1; blocks = is.blocks }) is.taken_is)
