use Rattle.std.proofs.Common.{ap, arith, get_or, length, not, sym, take, true, ◌+◌, ◌<◌, ◌∙◌}
use Rattle.std.proofs.lemmas.List.{take_more}
use Rattle.pack_model.specs.states.InUse.{how_many, one_if}
use Rattle.disk_descriptor.proofs.Texts.{one_at_most, one_more_free}
use Rattle.disk_descriptor.proofs.values.free_sectors.Goals as goal

pub loop-at-preserved : goal.loop-at-preserved
loop-at-preserved c =
    let bits = c.args.table.now in
    let at = c.loop-at.at in
    let end = c.pages-at-end.ensures in
    let within : at < length bits = omega arith in
    let one = one_at_most (not c.is_busy.result) in
    record {
      free =
          c.counted-free.ensures
          ∙ (λ i. c.loop-at.invariant.free i + one_if (not (c.is_busy.ensures i)))
          ∙ sym (one_more_free (take at bits) (get_or bits at true))
          ∙ ap (how_many not) (sym (take_more bits at true within));
      few = let now = c.counted-free.ensures in omega (arith, now, one);
    }
