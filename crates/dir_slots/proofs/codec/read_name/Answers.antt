use Rattle.std.proofs.Common.{ap, ◌∙◌}
use Rattle.dir_slots.specs.Inside.{name_of}
use Rattle.dir_slots.proofs.codec.read_name.Goals as goal

pub returns : goal.returns
returns c = c.name_of.ensures ∙ ap name_of c.words_into_bytes.ensures.bytes
