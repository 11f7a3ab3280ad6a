-- An interrupted read consumes nothing.
use Rattle.std.proofs.Common.{◌≡◌, length}
use Rattle.std.specs.Io.KnownBytes.{Keeps}
use Rattle.std.specs.Io.Buffered.{reader_remaining}
use Rattle.disk_image.proofs.machine.read_keys.Given as goal

abbrev pub invariant-loop : goal.invariant-loop
invariant-loop g l = (length l.buf ≡ length l.fn.buf) × Keeps (reader_remaining g.R.Read.remaining l.fn.keys) (reader_remaining g.R.Read.remaining l.keys)
