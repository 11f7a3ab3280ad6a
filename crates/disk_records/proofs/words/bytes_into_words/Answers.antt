use Rattle.std.proofs.Common.{arith}
use Rattle.disk_records.proofs.WordBytes.{words_of-read, bytes_of-read}
use Rattle.disk_records.proofs.words.bytes_into_words.Goals as goal

pub returns-clause-words : goal.returns-clause-words
returns-clause-words c = words_of-read c.args.bytes.now c.read_u16_into.new.dst (omega (arith, c.requires, c.read_u16_into.auto.dst)) c.read_u16_into.ensures

pub returns-clause-bytes : goal.returns-clause-bytes
returns-clause-bytes c = bytes_of-read c.args.bytes.now c.read_u16_into.new.dst (omega (arith, c.requires, c.read_u16_into.auto.dst)) c.type_inv.bytes c.read_u16_into.ensures
