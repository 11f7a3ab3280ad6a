use Rattle.std.proofs.Common.{◌≤◌, length, subst, ap, arith}
use Rattle.std.specs.Io.Buffered.{reader_buffer}
use Rattle.disk_records.specs.Tapes.{IsUnbroken}
use Rattle.disk_image.proofs.KeysOfLine.{no_line_before}
use Rattle.disk_image.proofs.machine.FileMachineConsole.read.Goals as goal

pub returns-then-taken-gt0-clause-goes_on : goal.returns-then-taken-gt0-clause-goes_on
returns-then-taken-gt0-clause-goes_on g c unbroken none =
    let count = c.take_read_ahead-taken.result in
    let before = c.forget_lengths.new.self in
    let taken = c.take_read_ahead-taken.ensures in
    let none_before : length (reader_buffer before.keys) ≤ before.keys_after =
    no_line_before before.keys_after count (reader_buffer before.keys) before.ends_line (subst IsUnbroken taken.front unbroken) (subst (λ keys. length keys ≤ before.keys_after) taken.left none)
    in
    let same_length = ap (λ keys. length (reader_buffer keys)) c.forget_lengths.ensures.same_keys in
    omega (arith, same_length, c.forget_lengths.ensures.same_after, none_before)
