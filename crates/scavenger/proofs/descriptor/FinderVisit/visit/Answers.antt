use Rattle.scavenger.proofs.descriptor.FinderVisit.visit.Goals as goal

pub returns-clause-step : goal.returns-clause-step
returns-clause-step c = c.note_page.ensures c.args._sector.now.value
