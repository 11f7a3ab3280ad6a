use Rattle.scav_pages.proofs.DirectoryReading as reading
use Rattle.scav_pages.proofs.laws.left_directory_is_known.Goals as goal

pub returns : goal.returns
returns c = reading.may_cut
