use Rattle.scav_table.proofs.table.fill_items.Goals as goal

pub returns-in-Err-clause-cause : goal.returns-in-Err-clause-cause
returns-in-Err-clause-cause g c = c.in-Err.ensures.cause

pub returns-in-Err-clause-want : goal.returns-in-Err-clause-want
returns-in-Err-clause-want g c = c.in-Err.ensures.want
