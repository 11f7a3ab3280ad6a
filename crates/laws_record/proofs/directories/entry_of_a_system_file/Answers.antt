use Rattle.laws_record.proofs.SystemEntries.{entry_of_a_system_file}
use Rattle.laws_record.proofs.directories.entry_of_a_system_file.Goals as goal

pub returns : goal.returns
returns c = entry_of_a_system_file
