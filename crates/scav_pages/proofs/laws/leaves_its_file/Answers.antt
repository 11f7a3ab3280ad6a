use Rattle.scav_pages.proofs.Walking as walking
use Rattle.scav_pages.proofs.laws.leaves_its_file.Goals as goal

pub returns : goal.returns
returns c = walking.leaves_its_file
