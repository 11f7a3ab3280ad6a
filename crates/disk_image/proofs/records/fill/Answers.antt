use Rattle.disk_image.proofs.Filling.{fills_more}
use Rattle.disk_image.proofs.records.fill.Goals as goal

pub loop-preserved : goal.loop-preserved
loop-preserved g c = fills_more _ (g.F.Write.contents c.loop.file) _ c.loop.counter 12768 c.loop.invariant c.in_ok-write_all.ensures.bytes
