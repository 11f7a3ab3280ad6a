use Rattle.laws_operation.proofs.inside.looks.ReadFiles.{read_entries_are_kept}
use Rattle.laws_operation.proofs.entries.read_entries_are_kept.Goals as goal

pub returns : goal.returns
returns c = read_entries_are_kept
