use Rattle.laws_operation.proofs.inside.looks.Nameless.{entries_name_living_files}
use Rattle.laws_operation.proofs.entries.entries_name_living_files.Goals as goal

pub returns : goal.returns
returns c = entries_name_living_files
