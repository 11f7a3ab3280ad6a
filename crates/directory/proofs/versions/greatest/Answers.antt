use Rattle.std.proofs.Common.{refl, ap, ◌∙◌}
use Rattle.disk_records.specs.Tapes.{pack}
use Rattle.pack_model.specs.hints.Links.{dir_slots}
use Rattle.pack_model.specs.reading.Lookup.{version_met}
use Rattle.directory.proofs.Meeting.{all_versions}
use Rattle.directory.proofs.versions.greatest.Goals as goal

pub returns-in-Ok-clause-found : goal.returns-in-Ok-clause-found
returns-in-Ok-clause-found g c = λ told found.
    let all = all_versions c.args.base.now (dir_slots (pack (g.D.Tape.tape c.args.disk.now)) c.args.dir.now.fid) _ c.visit_slots.new.visitor refl refl refl (c.in-Ok.ensures.visited told found) in
    record { version = c.version_met.ensures ∙ ap version_met all.newest.best; held = all.held }
