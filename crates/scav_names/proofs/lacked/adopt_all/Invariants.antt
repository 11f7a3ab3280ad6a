use Rattle.std.proofs.Common.{◌++◌}
use Rattle.std.specs.FinMap.{FinMap}
use Rattle.alto_words.specs.Fid.{fid_cmp}
use Rattle.kept_names.specs.Homes.{StandsFor}
use Rattle.pack_model.specs.showing.View.{Home}
use Rattle.scav_names.specs.Adopting.{all_entered}
use Rattle.scav_names.proofs.Adopting.{IsAdopting}
use Rattle.scav_names.proofs.lacked.adopt_all.Given as goal

abbrev pub invariant-loop-file : goal.invariant-loop-file
invariant-loop-file l = (homes : FinMap fid_cmp Home) → StandsFor l.fn.names homes → IsAdopting l.files.items l.names l.passed l.living l.file-index (l.fn.files.items ++ all_entered homes l.living)
