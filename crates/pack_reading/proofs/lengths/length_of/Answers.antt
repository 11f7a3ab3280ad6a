use Rattle.std.proofs.Common.{sym, ◌∙◌}
use Rattle.pack_reading.proofs.Measuring.{directory_length, ordinary_length}
use Rattle.pack_reading.proofs.lengths.length_of.Goals as goal

pub returns-then-is_directory : goal.returns-then-is_directory
returns-then-is_directory c = λ ss counted. directory_length ss c.args.file.now.fid (sym c.is_directory.ensures ∙ c.if-is_directory.true)

pub returns : goal.returns
returns c = λ ss counted. ordinary_length ss c.args.counts.now c.args.file.now.fid c.length.result (sym c.is_directory.ensures ∙ c.if-is_directory.false) counted c.length.ensures
