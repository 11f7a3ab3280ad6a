use Rattle.std.proofs.Common.{map, ap, refl, ◌∙◌}
use Rattle.pack_reading.specs.Lengths.{without_data, length_in}
use Rattle.pack_reading.proofs.Measured.{shows_lengths}
use Rattle.pack_reading.proofs.lengths.show_measured.Goals as goal

pub returns : goal.returns
returns c = λ form ss holds.
    shows_lengths ss form _ _ (c.in_ok-files.ensures form (map without_data ss) holds.swept) (c.in_ok-files-2.ensures ss holds.counts ∙ ap (map (λ x. length_in ss x.fid)) c.as_slice.ensures) refl
