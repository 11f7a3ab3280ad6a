use Rattle.disk_descriptor.proofs.Map.{shifted}
use Rattle.disk_descriptor.proofs.pages.first_map_word.Goals as goal

pub returns : goal.returns
returns c = shifted c.args.busy c.requires
