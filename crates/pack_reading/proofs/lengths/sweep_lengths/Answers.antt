use Rattle.pack_reading.proofs.Measuring.{measures_all}
use Rattle.pack_reading.proofs.lengths.sweep_lengths.Goals as goal

pub returns-clause-holds : goal.returns-clause-holds
returns-clause-holds g c = λ told. measures_all _ c.sweep.new.visitor c.new.ensures c.new-2.ensures c.new-3.ensures c.in_ok-sweep.ensures.swept told
