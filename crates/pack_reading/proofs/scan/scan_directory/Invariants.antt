use Rattle.std.proofs.Common.{length}
use Rattle.std.specs.Prelude.{fold}
use Rattle.std.specs.FinMap.{FinMap}
use Rattle.alto_words.specs.Fid.{fid_cmp}
use Rattle.pack_model.specs.showing.View.{Home}
use Rattle.pack_reading.specs.Kept.{lives_kept}
use Rattle.kept_names.specs.Homes.{StandsFor, considered}
use Rattle.pack_reading.specs.Scans.{namings_of}
use Rattle.pack_reading.proofs.Scanning.{ComesTo}
use Rattle.pack_reading.proofs.scan.scan_directory.Given as goal

abbrev pub invariant-loop-slot : goal.invariant-loop-slot
invariant-loop-slot l =
    (homes : FinMap fid_cmp Home) → StandsFor l.fn.names homes
    → ComesTo (lives_kept l.leaders) l.file.fid l.names l.rest (fold (considered (lives_kept l.leaders)) homes (namings_of l.file))

abbrev pub decreases-loop-slot : goal.decreases-loop-slot
decreases-loop-slot l = length l.rest
