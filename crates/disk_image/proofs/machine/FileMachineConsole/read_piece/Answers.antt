use Rattle.std.proofs.Common.{◌≤◌, length, subst}
use Rattle.std.specs.Io.Buffered.{reader_buffer}
use Rattle.disk_records.specs.Tapes.{IsUnbroken}
use Rattle.disk_image.proofs.KeysOfLine.{no_line_before}
use Rattle.disk_image.proofs.machine.FileMachineConsole.read_piece.Goals as goal

pub returns-in_default-clause-goes_on : goal.returns-in_default-clause-goes_on
returns-in_default-clause-goes_on g c unbroken none =
    let before = c.args.self.now in
    let taken = c.take_read_ahead.ensures in
    no_line_before before.keys_after c.take_read_ahead.result (reader_buffer before.keys) before.ends_line (subst IsUnbroken taken.front unbroken) (subst (λ keys. length keys ≤ before.keys_after) taken.left none)
