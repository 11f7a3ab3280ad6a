use Rattle.laws_operation.proofs.inside.DescriptorValues.{close_keeps_links}
use Rattle.laws_operation.proofs.descriptor.close_keeps_links.Goals as goal

pub returns : goal.returns
returns c = close_keeps_links
