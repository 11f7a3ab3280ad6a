use Rattle.pack_reading.proofs.Showing.{shows_swept}
use Rattle.pack_reading.proofs.pack.show_swept.Goals as goal

pub returns : goal.returns
returns c = λ form ss holds.
    shows_swept form ss c.args.swept c.in_ok-found.found c.as_slice.result.now c.in_ok-names.names c.settle.new.names _ c.as_slice-2.result.now c.as_slice.ensures c.as_slice-2.ensures holds c.in_ok-found.ensures.ordered c.in_ok-found.ensures.files c.in_ok-names.ensures c.in_ok-files.ensures c.in_ok-settle.ensures
    c.in_ok-names-2.ensures
