use Rattle.std.proofs.Common.{OnOk, ◌≡◌, ◌∙◌, arith, refl, subst, sym}
use Rattle.zones.specs.Keeping.{KeepsWords}
use Rattle.zones.specs.world_model.specs.Levels.{all_levels, level_base}
use Rattle.zones.specs.world_model.specs.ZoneWords.{zone_in}
use Rattle.zones.specs.laws_zone.specs.Filling.{IsTop}
use Rattle.zones.specs.laws_zone.proofs.levels.Laws.{bases_end_zones}
use Rattle.zones.proofs.Keeping.{shrunk_keeps}
use Rattle.junta_levels.proofs.Bases.{stays_full, unused_at_full}
use Rattle.junta_levels.proofs.back.counter_junta.Goals as goal

pub cut_zone-requires-clause-top : goal.cut_zone-requires-clause-top
cut_zone-requires-clause-top c = subst IsTop (sym (c.from-top.ensures ∙ c.base_of.ensures)) (bases_end_zones c.args.level c.requires.at.most)

pub cut_zone-requires-clause-low : goal.cut_zone-requires-clause-low
cut_zone-requires-clause-low c = let all : all_levels ≡ 8 = refl in subst IsTop (sym (c.from-low.ensures ∙ c.base_of-2.ensures)) (bases_end_zones 8 (omega (arith, all)))

pub returns-else-low-top-clause-back : goal.returns-else-low-top-clause-back
returns-else-low-top-clause-back c =
    let one = c.from-top.ensures ∙ c.base_of.ensures in
    let two : c.from-low.result ≡ level_base all_levels = c.from-low.ensures ∙ c.base_of-2.ensures in
    let test = c.if-low-top.false in
    stays_full c.args.level c.args.memory.now c.requires.at (omega (arith, one, two, test))

pub returns-else-low-top-clause-free : goal.returns-else-low-top-clause-free
returns-else-low-top-clause-free c =
    let one = c.from-top.ensures ∙ c.base_of.ensures in
    let two : c.from-low.result ≡ level_base all_levels = c.from-low.ensures ∙ c.base_of-2.ensures in
    let test = c.if-low-top.false in
    unused_at_full c.args.level c.args.memory.now c.requires.at (omega (arith, one, two, test))

pub returns-then-low-top-clause-others : goal.returns-then-low-top-clause-others
returns-then-low-top-clause-others c =
    let one : c.from-top.result ≡ level_base c.args.level = c.from-top.ensures ∙ c.base_of.ensures in
    let two : c.from-low.result ≡ level_base all_levels = c.from-low.ensures ∙ c.base_of-2.ensures in
    subst (λ k. OnOk c.cut_zone.result (KeepsWords (zone_in (level_base c.args.level) c.args.memory.now) (zone_in k c.cut_zone.new.memory))) two
    (subst (λ k. OnOk c.cut_zone.result (KeepsWords (zone_in k c.args.memory.now) (zone_in c.from-low.result c.cut_zone.new.memory))) one c.cut_zone.ensures.others)

pub returns-else-low-top-clause-others : goal.returns-else-low-top-clause-others
returns-else-low-top-clause-others c =
    let all : all_levels ≡ 8 = refl in
    let after = (bases_end_zones all_levels (omega (arith, all))).after in
    let zone = zone_in (level_base c.args.level) c.args.memory.now in
    subst (KeepsWords (zone_in (level_base c.args.level) c.args.memory.now)) (sym (returns-else-low-top-clause-back c).zone)
    (shrunk_keeps (level_base all_levels) zone (omega (arith, after)) (returns-else-low-top-clause-free c))
