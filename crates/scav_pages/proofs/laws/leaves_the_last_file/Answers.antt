use Rattle.scav_pages.proofs.Walking as walking
use Rattle.scav_pages.proofs.laws.leaves_the_last_file.Goals as goal

pub returns : goal.returns
returns c = walking.leaves_the_last_file
