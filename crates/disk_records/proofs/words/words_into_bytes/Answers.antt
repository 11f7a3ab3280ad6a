use Rattle.std.proofs.Common.{◌∙◌}
use Rattle.disk_records.proofs.WordBytes.{bytes_of-written}
use Rattle.disk_records.proofs.words.words_into_bytes.Goals as goal

pub returns-clause-bytes : goal.returns-clause-bytes
returns-clause-bytes c = c.write_u16_into.ensures ∙ bytes_of-written c.args.words.now c.type_inv.words
