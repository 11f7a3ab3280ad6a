use Rattle.std.proofs.Common.{refl}
use Rattle.disk_records.specs.Tapes.{pack}
use Rattle.directory.proofs.Rows.{all_rows}
use Rattle.directory.proofs.runs.room.Goals as goal

pub returns-clause-found : goal.returns-clause-found
returns-clause-found g c = λ told found. all_rows (pack (g.D.Tape.tape c.args.disk.now)) c.args.dir.now.fid _ c.visit_slots.new.visitor refl refl (c.in_ok-visit_slots.ensures.visited told found)
