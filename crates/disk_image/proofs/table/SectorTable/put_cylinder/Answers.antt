use Rattle.std.proofs.Common.{rules, arith}
use Rattle.disk_image.proofs.Keeping.{keeps_more}
use Rattle.disk_image.proofs.table.SectorTable.put_cylinder.Goals as goal

pub loop-sector-preserved : goal.loop-sector-preserved
loop-sector-preserved c = record {
  capacity = search rules;
  long = search rules;
  here = keeps_more c.loop-sector.self c.put.new.self c.args.first c.loop-sector.sector c.read_sector.result c.args.bytes.now _ (omega arith) c.loop-sector.invariant.here c.put.ensures.here c.put.ensures.others c.read_sector.ensures.bytes;
  below = search rules;
  above = search rules;
}
