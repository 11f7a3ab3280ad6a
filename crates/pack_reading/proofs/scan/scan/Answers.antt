use Rattle.std.proofs.Common.{take, subst}
use Rattle.std.specs.Prelude.{fold}
use Rattle.std.specs.FinMap.{empty}
use Rattle.alto_words.specs.Fid.{fid_cmp}
use Rattle.pack_reading.specs.Kept.{lives_kept}
use Rattle.kept_names.specs.Homes.{StandsFor, considered}
use Rattle.pack_reading.specs.Scans.{all_namings}
use Rattle.pack_reading.proofs.Scanning.{file_more}
use Rattle.pack_reading.proofs.scan.scan.Goals as goal

pub loop-file-preserved : goal.loop-file-preserved
loop-file-preserved c =
    subst (StandsFor c.scan_directory.new.names)
    (file_more (lives_kept c.args.leaders.now) c.args.files.now c.loop-file.file-index c.file-item.result (empty {R = fid_cmp}) c.loop-file-test.true c.file-item.is)
    (c.in_ok-scan_directory.ensures
    (fold (considered (lives_kept c.args.leaders.now)) (empty {R = fid_cmp}) (all_namings (take c.loop-file.file-index c.args.files.now)))
    c.loop-file.invariant)
