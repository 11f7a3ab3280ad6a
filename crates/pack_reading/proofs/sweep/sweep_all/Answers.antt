use Rattle.pack_reading.proofs.Sweeping.{holds_all}
use Rattle.pack_reading.proofs.sweep.sweep_all.Goals as goal

pub returns-clause-holds : goal.returns-clause-holds
returns-clause-holds g c = λ told. holds_all _ c.sweep.new.visitor c.new.ensures c.new-2.ensures c.in_ok-sweep.ensures.swept told
