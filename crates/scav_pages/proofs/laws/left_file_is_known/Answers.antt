use Rattle.scav_pages.proofs.Walking as walking
use Rattle.scav_pages.proofs.laws.left_file_is_known.Goals as goal

pub returns : goal.returns
returns c = walking.left_file_is_known
