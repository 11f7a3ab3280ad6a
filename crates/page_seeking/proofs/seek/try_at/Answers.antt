use Rattle.page_seeking.proofs.Seeking.{sought_missed, sought_noted}
use Rattle.page_seeking.proofs.seek.try_at.Goals as goal

pub returns-in-Ok-clause-sought : goal.returns-in-Ok-clause-sought
returns-in-Ok-clause-sought g c = sought_noted c.shape-shape.result c.shape-shape.ensures c.look_at.ensures.looks c.note_seen.ensures.refused c.note_seen.ensures.noted c.in-Ok.ensures.seen c.in-Ok.ensures.stands

pub returns-in-Err-Wrong-clause-sought : goal.returns-in-Err-Wrong-clause-sought
returns-in-Err-Wrong-clause-sought g c = sought_missed c.args.cache.now c.look_at.ensures.looks

pub returns-in-Err-DiskFault-clause-sought : goal.returns-in-Err-DiskFault-clause-sought
returns-in-Err-DiskFault-clause-sought g c = sought_missed c.args.cache.now c.look_at.ensures.looks

pub returns-in-Err-Memory-clause-sought : goal.returns-in-Err-Memory-clause-sought
returns-in-Err-Memory-clause-sought g c = sought_missed c.args.cache.now c.look_at.ensures.looks
