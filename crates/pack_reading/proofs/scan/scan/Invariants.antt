use Rattle.std.proofs.Common.{take}
use Rattle.std.specs.Prelude.{fold}
use Rattle.std.specs.FinMap.{empty}
use Rattle.alto_words.specs.Fid.{fid_cmp}
use Rattle.pack_reading.specs.Kept.{lives_kept}
use Rattle.kept_names.specs.Homes.{StandsFor, considered}
use Rattle.pack_reading.specs.Scans.{all_namings}
use Rattle.pack_reading.proofs.scan.scan.Given as goal

abbrev pub invariant-loop-file : goal.invariant-loop-file
invariant-loop-file l = StandsFor l.names (fold (considered (lives_kept l.leaders)) (empty {R = fid_cmp}) (all_namings (take l.file-index l.files)))
