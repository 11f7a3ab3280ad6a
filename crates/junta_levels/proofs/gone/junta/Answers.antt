use Rattle.std.proofs.Common.{◌≡◌, ◌∙◌, ◌-◌, arith, subst, sym}
use Rattle.zones.specs.Keeping.{KeepsWords}
use Rattle.zones.specs.world_model.specs.Levels.{level_base}
use Rattle.zones.specs.world_model.specs.ZoneWords.{zone_in}
use Rattle.zones.specs.laws_zone.specs.Filling.{IsTop}
use Rattle.zones.specs.laws_zone.proofs.levels.Laws.{bases_end_zones, bases_fall}
use Rattle.zones.proofs.Keeping.{grown_keeps}
use Rattle.junta_levels.proofs.Bases.{junta_stays}
use Rattle.junta_levels.proofs.gone.junta.Goals as goal

pub returns-then-level-to-clause-joins : goal.returns-then-level-to-clause-joins
returns-then-level-to-clause-joins c = junta_stays c.args.level c.args.to c.args.memory.now c.requires.at c.if-level-to.true

pub grow_zone-requires-clause-top : goal.grow_zone-requires-clause-top
grow_zone-requires-clause-top c = subst IsTop (sym (c.from.ensures ∙ c.base_of.ensures)) (bases_end_zones c.args.level c.requires.at.most)

pub grow_zone-requires-clause-more : goal.grow_zone-requires-clause-more
grow_zone-requires-clause-more c = subst IsTop (sym (c.from-2.ensures ∙ c.base_of-2.ensures)) (bases_end_zones c.args.to c.requires.most)

pub grow_zone-requires-clause-up : goal.grow_zone-requires-clause-up
grow_zone-requires-clause-up c =
    let one = c.from.ensures ∙ c.base_of.ensures in
    let two = c.from-2.ensures ∙ c.base_of-2.ensures in
    let less = bases_fall c.args.to c.args.level c.if-level-to.false c.requires.at.most in
    omega (arith, one, two, less)

pub returns-clause-others : goal.returns-clause-others
returns-clause-others c =
    let old = c.args.memory.now in
    let one : c.from.result ≡ level_base c.args.level = c.from.ensures ∙ c.base_of.ensures in
    let two : c.from-2.result ≡ level_base c.args.to = c.from-2.ensures ∙ c.base_of-2.ensures in
    subst (λ k. KeepsWords (zone_in (level_base c.args.level) c.args.memory.now) (zone_in k c.grow_zone.new.memory)) two
    (subst (λ k. KeepsWords (zone_in k c.args.memory.now) (zone_in c.from-2.result c.grow_zone.new.memory)) one
    (subst (KeepsWords (zone_in c.from.result c.args.memory.now)) (sym c.grow_zone.ensures.zone) (grown_keeps (c.from-2.result - c.from.result) (zone_in c.from.result old))))
