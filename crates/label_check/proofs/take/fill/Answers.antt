use Rattle.disk_records.proofs.Growing.{alone_twice}
use Rattle.label_check.proofs.Freeing.{filled, half_filled, short_filled, not_filled, header_stands}
use Rattle.label_check.proofs.take.fill.Goals as goal

pub returns-in-Ok-clause-guarded : goal.returns-in-Ok-clause-guarded
returns-in-Ok-clause-guarded g c = λ told.
    filled c.args.at c.args.buf.now c.requires.first c.requires.place c.requires.asks_free (c.in-Ok.ensures.ran told)

pub returns-in-Ok-clause-header : goal.returns-in-Ok-clause-header
returns-in-Ok-clause-header g c = λ told.
    header_stands c.args.at c.args.buf.now c.run.new.buf c.run.ensures.alone (c.in-Ok.ensures.ran told)

pub returns-in-Err-Mismatch-clause-alone : goal.returns-in-Err-Mismatch-clause-alone
returns-in-Err-Mismatch-clause-alone g c = alone_twice c.run.ensures.alone c.refusal.ensures.looks.alone

-- the sector isn't free, and the second command read its label
pub returns-in-Err-Mismatch-clause-guarded : goal.returns-in-Err-Mismatch-clause-guarded
returns-in-Err-Mismatch-clause-guarded g c = λ told.
    not_filled c.args.at c.args.buf.now c.requires.asks_free c.run.ensures.alone c.refusal.ensures.looks.alone
    (rw c.in-Err-Mismatch.field-0-is at (c.in-Err-Mismatch.ensures.ran told)) (c.refusal.ensures.refused told)

pub returns-in-Err-Failed-clause-guarded : goal.returns-in-Err-Failed-clause-guarded
returns-in-Err-Failed-clause-guarded g c = λ told.
    half_filled c.args.at c.args.buf.now c.requires.first c.requires.place c.requires.asks_free (rw c.in-Err-Failed.field-0-is at (c.in-Err-Failed.ensures.ran told))

pub returns-in-Err-Memory-clause-guarded : goal.returns-in-Err-Memory-clause-guarded
returns-in-Err-Memory-clause-guarded g c = λ told.
    short_filled c.args.at c.args.buf.now c.requires.first c.requires.place c.requires.asks_free (rw c.in-Err-Memory.field-0-is at (c.in-Err-Memory.ensures.ran told))
