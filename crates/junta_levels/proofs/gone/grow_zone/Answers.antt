use Rattle.std.proofs.Common.{arith}
use Rattle.junta_levels.proofs.LastGap.{start_within}
use Rattle.zones.specs.laws_zone.proofs.places.Laws.{zones_grow}
use Rattle.junta_levels.proofs.gone.grow_zone.Goals as goal

pub put_gap-requires : goal.put_gap-requires
put_gap-requires c =
    let w = start_within c.args.top c.args.memory.now c.last_gap_start-from.result c.requires.top c.requires.memory c.last_gap_start-from.ensures in
    let low = w.0 in
    let high = w.1 in
    let up = c.requires.up in
    let most = c.requires.more.most in
    let long = c.requires.memory.words in
    record { order = omega (arith, high, up); within = omega (arith, most, long); most = omega (arith, low, most) }

pub returns : goal.returns
returns c = zones_grow c.args.top c.args.more c.last_gap_start-from.result c.args.memory.now c.put_gap.new.memory c.requires.top c.requires.more c.requires.up c.requires.memory c.last_gap_start-from.ensures c.put_gap.ensures
