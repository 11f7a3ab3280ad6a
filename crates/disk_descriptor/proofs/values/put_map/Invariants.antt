use Rattle.std.proofs.Common.{◌≡◌}
use Rattle.pack_model.specs.reading.Bytes.{put_at}
use Rattle.disk_descriptor.proofs.Texts.{words_from}
use Rattle.disk_descriptor.proofs.values.put_map.Given as goal

abbrev pub invariant-loop-i : goal.invariant-loop-i
invariant-loop-i l = l.value ≡ put_at l.at (words_from l.table l.first l.i) l.fn.value
