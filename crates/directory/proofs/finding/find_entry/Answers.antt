use Rattle.std.proofs.Common.{refl}
use Rattle.disk_records.specs.Tapes.{pack}
use Rattle.pack_model.specs.hints.Links.{dir_slots}
use Rattle.directory.proofs.Meeting.{all_meant}
use Rattle.directory.proofs.finding.find_entry.Goals as goal

pub returns-in-Ok-clause-found : goal.returns-in-Ok-clause-found
returns-in-Ok-clause-found g c = λ told found. (all_meant c.args.wanted.now (dir_slots (pack (g.D.Tape.tape c.args.disk.now)) c.args.dir.now.fid) _ c.visit_slots.new.visitor refl refl (c.in-Ok.ensures.visited told found)).best
