use Rattle.scavenger.proofs.map.MapVisit.visit.Goals as goal

pub returns-clause-step : goal.returns-clause-step
returns-clause-step c = (c.mark_free.ensures c.args._sector.now.value, c.note_page.ensures c.args._sector.now.value)
