use Rattle.std.proofs.Common.{[], refl}
use Rattle.disk_records.specs.Tapes.{pack}
use Rattle.label_check.specs.declared.errors.PageInfo.{PageInfo}
use Rattle.label_check.specs.Guarded.{Carries, FoundWrong}
use Rattle.pack_model.specs.hints.Misled.{IsOnDisk, leader_page}
use Rattle.page_seeking.specs.declared.seek.Found.{Found}
use Rattle.page_seeking.specs.Refs.{MisledBy, IsOwnAddress}
use Rattle.page_seeking.proofs.Erring.{at_wrong}
use Rattle.page_seeking.proofs.Misleading.{leader_misled, leader_on_disk}
use Rattle.page_seeking.proofs.Seeking.{sought_missed, sought_noted}
use Rattle.page_seeking.proofs.OwnHints.{wrong_at}
use Rattle.page_seeking.proofs.leader.look_at_leader.Goals as goal

pub returns-in-Ok-clause-sought : goal.returns-in-Ok-clause-sought
returns-in-Ok-clause-sought g c = sought_noted c.shape-shape.result c.shape-shape.ensures c.look_at.ensures.looks c.note_seen.ensures.refused c.note_seen.ensures.noted c.in-Ok.ensures.seen c.in-Ok.ensures.stands

pub returns-in-Err-clause-sought : goal.returns-in-Err-clause-sought
returns-in-Err-clause-sought g c = sought_missed c.args.cache.now c.look_at.ensures.looks

pub returns-in-Err-clause-misled : goal.returns-in-Err-clause-misled
returns-in-Err-clause-misled g c told stands =
    let old = g.D.Tape.tape c.args.disk.now in
    let file = c.args.file.now in
    at_wrong Found PageInfo (MisledBy (pack old) [] file.fid) (FoundWrong (Carries file.leader_at (leader_page file.fid)) file.leader_at old (g.D.Tape.tape c.look_at.new.disk)) c.in-Err.error c.error_at.ensures (c.in-Err.ensures.wrong told)
    (λ found wrong. leader_misled (pack old) file.fid file.leader_at file.from found stands wrong.failed wrong.label)

pub returns-in-Err-clause-on_disk : goal.returns-in-Err-clause-on_disk
returns-in-Err-clause-on_disk g c = λ told stands.
    let old = g.D.Tape.tape c.args.disk.now in
    let file = c.args.file.now in
    at_wrong Found PageInfo (λ place at wanted found. IsOnDisk place) (FoundWrong (Carries file.leader_at (leader_page file.fid)) file.leader_at old (g.D.Tape.tape c.look_at.new.disk)) c.in-Err.error c.error_at.ensures (c.in-Err.ensures.wrong told)
    (λ found wrong. leader_on_disk (pack old) file.fid file.leader_at file.from stands.from stands.root wrong.failed)

pub returns-in-Err-clause-hint : goal.returns-in-Err-clause-hint
returns-in-Err-clause-hint g c =
    let file = c.args.file.now in
    wrong_at Found (λ place at wanted found. IsOwnAddress file place at wanted) c.in-Err.error file.from file.leader_at (leader_page file.fid) c.error_at.result c.error_at.ensures (λ found. record { from = refl; address = refl; leader = refl })
