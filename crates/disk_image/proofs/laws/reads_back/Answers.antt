use Rattle.disk_image.proofs.Inverses.{image_same}
use Rattle.disk_image.proofs.laws.reads_back.Goals as goal

pub returns : goal.returns
returns c = image_same
