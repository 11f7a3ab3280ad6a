use Rattle.std.proofs.Common.{ap, ◌∙◌}
use Rattle.std.specs.Prelude.{take}
use Rattle.pack_reading.proofs.swept.counted_bytes.Goals as goal

pub returns : goal.returns
returns c = c.from_vec.ensures ∙ c.in_ok-from_slice.ensures.items ∙ ap (take c.args.count) c.words_into_bytes.ensures.bytes
