use Rattle.disk_descriptor.proofs.SystemWords.{root_words}
use Rattle.disk_descriptor.proofs.root.root_value.Goals as goal

pub returns : goal.returns
returns c = root_words _ _ _ _ c.root_name.ensures c.descriptor_name.ensures c.put_entry.ensures c.put_entry-2.ensures
