use Rattle.std.proofs.Common.{rules}
use Rattle.disk_image.proofs.Packs.{pack_bytes-written, whole-taken}
use Rattle.disk_image.proofs.codec.encode_drive.Goals as goal

pub loop-sector-preserved : goal.loop-sector-preserved
loop-sector-preserved c = record {
  one = search rules;
  count = search rules;
  capacity = search rules;
  whole = whole-taken c.args.sectors.now c.loop-sector.sector-index _ c.loop-sector-test.true c.loop-sector.invariant.whole c.write_sector.ensures.whole;
  so_far = rw (c.in-Ok.ensures.items, c.write_sector.ensures.bytes) (pack_bytes-written c.args.sectors.now c.loop-sector.sector-index _ c.loop-sector.bytes.items c.loop-sector-test.true c.loop-sector.invariant.so_far);
}
