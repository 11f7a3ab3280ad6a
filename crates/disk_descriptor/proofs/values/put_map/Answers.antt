use Rattle.std.proofs.Common.{[], arith, length, sym, ◌+◌, ◌∙◌, ◌∷◌, ◌≤◌}
use Rattle.disk_records.proofs.Bytes.{put_at-nil}
use Rattle.pack_model.specs.reading.Bytes.{put_at}
use Rattle.disk_descriptor.proofs.Texts.{next_word}
use Rattle.disk_descriptor.proofs.values.put_map.Goals as goal

pub loop-i-init : goal.loop-i-init
loop-i-init c = sym (put_at-nil c.args.at c.args.value.now)

pub loop-i-preserved : goal.loop-i-preserved
loop-i-preserved c =
    let long = c.told-value in
    let within : c.args.at + c.loop-i.i ≤ length c.args.value.now = omega arith in
    c.put.ensures
    ∙ (λ j. put_at (c.from.ensures j) (c.word.ensures.value j ∷ []) (c.loop-i.invariant j))
    ∙ next_word c.args.table.now c.args.at c.args.first c.loop-i.i c.args.value.now within
