use Rattle.laws_operation.proofs.inside.DescriptorValues.{open_keeps_links}
use Rattle.laws_operation.proofs.descriptor.open_keeps_links.Goals as goal

pub returns : goal.returns
returns c = open_keeps_links
