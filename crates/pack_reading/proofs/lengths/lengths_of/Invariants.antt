use Rattle.std.proofs.Common.{◌≡◌, List, map, take}
use Rattle.pack_model.specs.reading.Sights.{Sight}
use Rattle.pack_reading.specs.Lengths.{length_in, CountsFiles}
use Rattle.pack_reading.proofs.lengths.lengths_of.Given as goal

abbrev pub invariant-loop-file : goal.invariant-loop-file
invariant-loop-file l = (ss : List Sight) → CountsFiles ss l.counts → l.lengths.items ≡ map (λ x. length_in ss x.fid) (take l.file-index l.files)
