use Rattle.laws_operation.proofs.inside.DescriptorValues.{serial_keeps_links}
use Rattle.laws_operation.proofs.descriptor.serial_keeps_links.Goals as goal

pub returns : goal.returns
returns c = serial_keeps_links
