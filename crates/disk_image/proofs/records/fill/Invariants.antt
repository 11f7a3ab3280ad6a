use Rattle.std.proofs.Common.{◌*◌, replicate}
use Rattle.std.specs.Io.KnownBytes.{Appends}
use Rattle.disk_image.proofs.records.fill.Given as goal

abbrev pub invariant-loop : goal.invariant-loop
invariant-loop g l = Appends (g.F.Write.contents l.fn.file) (g.F.Write.contents l.file) (replicate (l.counter * 12768) 0)
