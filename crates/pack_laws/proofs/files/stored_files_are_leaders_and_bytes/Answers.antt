use Rattle.pack_laws.proofs.inside.Filing.{stored_files_are_leaders_and_bytes}
use Rattle.pack_laws.proofs.files.stored_files_are_leaders_and_bytes.Goals as goal

pub returns : goal.returns
returns c = stored_files_are_leaders_and_bytes
