use Rattle.laws_operation.proofs.inside.looks.Unmoved.{bytes_leaders_and_widenings_keep_entries}
use Rattle.laws_operation.proofs.entries.bytes_leaders_and_widenings_keep_entries.Goals as goal

pub returns : goal.returns
returns c = bytes_leaders_and_widenings_keep_entries
