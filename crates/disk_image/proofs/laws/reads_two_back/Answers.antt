use Rattle.disk_image.proofs.Pairs.{images_same}
use Rattle.disk_image.proofs.laws.reads_two_back.Goals as goal

pub returns : goal.returns
returns c = images_same
