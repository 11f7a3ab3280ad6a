use Rattle.std.proofs.Common.{◌+◌, ℕ, arith}
use Rattle.dir_slots.proofs.Keyed.{pass_both, pass_one}
use Rattle.dir_slots.proofs.judged.judged_end.Goals as goal

pub loop-length-init : goal.loop-length-init
loop-length-init c = record {
  on = c.keyed_end-at.ensures.on;
  within = c.keyed_end-at.ensures.within;
  keyed = c.requires.keyed;
  passes = c.keyed_end-at.ensures.passes c.args.passing.now c.wanted_key-wanted.ensures;
}

pub loop-length-preserved : goal.loop-length-preserved
loop-length-preserved c =
    let passing = c.args.passing.now in
    let page = c.args.page.now in
    let from : ℕ = c.args.from in
    let at : ℕ = c.loop-length.at in
    let n : ℕ = c.in-Some.length in
    let inv = c.loop-length.invariant in
    let later = c.keyed_end-at-in-Some.ensures in
    record {
      on = omega (arith, inv.on, later.on);
      within = later.within;
      keyed = c.keep_key.ensures;
      passes =
          pass_both passing page from (at + n) c.keyed_end-at-in-Some.result (omega (arith, inv.on)) later.on (pass_one passing page from at n inv.on inv.within inv.passes c.in-Some.ensures.other)
          (later.passes passing c.wanted_key-wanted.ensures);
    }
