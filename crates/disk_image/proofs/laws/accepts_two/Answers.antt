use Rattle.disk_image.proofs.Pairs.{images_accepted}
use Rattle.disk_image.proofs.laws.accepts_two.Goals as goal

pub returns : goal.returns
returns c = images_accepted
