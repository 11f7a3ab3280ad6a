use Rattle.std.proofs.Common.{◌∙◌, arith, sym}
use Rattle.zones.proofs.Checking.{broken_rest, broken_zone}
use Rattle.zones.proofs.check.check_zone.Goals as goal

pub returns-in-Err : goal.returns-in-Err
returns-in-Err c =
    let e = c.from-top.ensures in
    let long = c.requires.words in
    let after = c.requires.after_start in
    let fits = c.ranges.top.fits in
    broken_zone c.args.top c.from-top.result c.from.result c.in-Err.at c.args.memory.now (omega (arith, e, after)) (omega (arith, e, long, fits)) long e c.from.ensures (sym c.check_blocks.ensures ∙ c.in-Err.is)

pub returns-in-Ok : goal.returns-in-Ok
returns-in-Ok c =
    let e = c.from-top.ensures in
    let long = c.requires.words in
    let after = c.requires.after_start in
    let fits = c.ranges.top.fits in
    c.check_zeros.ensures ∙ broken_rest c.args.top c.from-top.result c.from.result c.args.memory.now tt (omega (arith, e, after)) (omega (arith, e, long, fits)) long e c.from.ensures (sym c.check_blocks.ensures ∙ c.in-Ok.is)
