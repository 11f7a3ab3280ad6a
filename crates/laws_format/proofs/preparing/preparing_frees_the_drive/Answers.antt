use Rattle.laws_format.proofs.inside.Preparing.{preparing_frees_the_drive}
use Rattle.laws_format.proofs.preparing.preparing_frees_the_drive.Goals as goal

pub returns : goal.returns
returns c = preparing_frees_the_drive
