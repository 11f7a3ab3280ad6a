use Rattle.std.proofs.Common.{arith, subst, sym}
use Rattle.zones.specs.Keeping.{KeepsWords}
use Rattle.zones.specs.world_model.specs.ZoneWords.{zone_in}
use Rattle.zones.proofs.Keeping.{shrunk_keeps}
use Rattle.junta_levels.proofs.Cuts.{cut_makes}
use Rattle.junta_levels.proofs.back.cut_zone.Goals as goal

pub returns-in-Ok-clause-back : goal.returns-in-Ok-clause-back
returns-in-Ok-clause-back c =
    cut_makes c.args.top c.args.low c.in-Ok.from c.args.memory.now c.cut_words.new.memory c.requires.top c.requires.low c.requires.less c.requires.memory c.in-Ok.ensures.0 c.in-Ok.ensures.1 c.cut_words.ensures

pub returns-in-Ok-clause-others : goal.returns-in-Ok-clause-others
returns-in-Ok-clause-others c =
    let after = c.requires.low.after in
    let zone = zone_in c.args.top c.args.memory.now in
    subst (KeepsWords (zone_in c.args.top c.args.memory.now)) (sym (returns-in-Ok-clause-back c).zone) (shrunk_keeps c.args.low zone (omega (arith, after)) c.in-Ok.ensures.1)
