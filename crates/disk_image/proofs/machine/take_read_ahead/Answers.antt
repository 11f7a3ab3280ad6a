use Rattle.std.proofs.Common.{◌≡◌, ◌≤◌, length, take, drop, sym, ap, ◌∙◌, length-take, arith}
use Rattle.std.proofs.lemmas.List.{take_at}
use Rattle.std.proofs.lemmas.Grind.{common_steps}
use Rattle.std.specs.Io.Buffered.{reader_buffer}
use Rattle.disk_image.proofs.KeysOfLine.{consumes_first}
use Rattle.disk_image.proofs.machine.take_read_ahead.Goals as goal

pub returns-clause-taken : goal.returns-clause-taken
returns-clause-taken g c =
    let count = c.keys_of_line-count.result in
    let ready = c.buffer-ready.result.now in
    let moved = c.copy_from_slice.new.self in
    let within : count ≤ length ready = omega (arith, c.keys_of_line-count.ensures.fits, length-take c.min-most.result ready) in
    let whole : length moved ≡ count = grind (arith, common_steps, within, c.copy_from_slice.ensures.after) in
    let front = take_at moved (drop count c.args.buf.now) count whole ∙ c.copy_from_slice.ensures.after ∙ ap (take count) c.buffer-ready.ensures in
    rw front (consumes_first _ (reader_buffer c.args.keys.now) _ _ count (rw (sym c.buffer-ready.ensures) within) c.consume.ensures.bytes)
