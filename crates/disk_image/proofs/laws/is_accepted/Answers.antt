use Rattle.disk_image.proofs.Inverses.{image_accepted}
use Rattle.disk_image.proofs.laws.is_accepted.Goals as goal

pub returns : goal.returns
returns c = image_accepted
