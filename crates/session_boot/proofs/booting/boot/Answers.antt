use Rattle.std.proofs.Common.{arith, sym, subst, ap, ◌<◌, ◌^◌, ◌∙◌}
use Rattle.disk_records.specs.Tapes.{pack}
use Rattle.exec_session.specs.Meant.{kept}
use Rattle.executive.specs.pack_model.specs.sessions.Tallies.{no_tally}
use Rattle.session_model.specs.Opening.{Begun}
use Rattle.session_boot.specs.Boots.{Booted, OpenedBy}
use Rattle.session_boot.specs.Faults.{NoFault, UnlessStopped, status_of, status_of_need}
use Rattle.session_boot.proofs.Entering.{ended_boots, failed_boots, fault_cause, fault_answers, need_cause, need_answers, need_unfailed, opened_boots, refused_boots, refused_cause, refused_unfailed, sound_once}
use Rattle.session_boot.proofs.Unfailing.{none_of_disk, none_twice, stopped_owes}
use Rattle.session_boot.proofs.Unread.{reason_writes, silent_writes}
use Rattle.disk_records.proofs.Framing.{writes_silent}
use Rattle.session_boot.proofs.Framing.{usable_grown, usable_none}
use Rattle.session_boot.proofs.booting.boot.Goals as goal

pub returns-in-Err-clause-unread : goal.returns-in-Err-clause-unread
returns-in-Err-clause-unread g c = λ told same.
    let y = g.M.Tape.tape c.begin_and_flush.new.disk in
    let z = g.M.Tape.tape c.refuse_pack.new.console in
    silent_writes z c.begin_and_flush.ensures.alone.grown c.refuse_pack.ensures.alone.grown (c.begin_and_flush.ensures.silent told) (reason_writes c.in-Err.error y z c.refuse_pack.result (c.refuse_pack.ensures.shown told))

pub returns-in-Err-clause-entered : goal.returns-in-Err-clause-entered
returns-in-Err-clause-entered g c = λ told other. absurd (other (c.refuse_pack.ensures.alone.keys ∙ c.begin_and_flush.ensures.alone.keys))

pub returns-in-Ok-ended-clause-unread : goal.returns-in-Ok-ended-clause-unread
returns-in-Ok-ended-clause-unread g c = λ told same.
    silent_writes (g.M.Tape.tape c.obey_lines-ended.new.machine) c.begin_and_flush.ensures.alone.grown c.obey_lines-ended.ensures.grown (c.begin_and_flush.ensures.silent told)
    (c.obey_lines-ended.ensures.unread told c.in-Ok.ensures.fresh.clean (same ∙ sym c.begin_and_flush.ensures.alone.keys))

pub returns-in-Ok-ended-clause-entered : goal.returns-in-Ok-ended-clause-entered
returns-in-Ok-ended-clause-entered g c = λ told other. c.in-Ok.ensures.clean_page told

pub returns-clause-unread : goal.returns-clause-unread
returns-clause-unread g c = λ told same.
    silent_writes (g.M.Tape.tape c.obey_lines-ended.new.machine) c.begin_and_flush.ensures.alone.grown c.obey_lines-ended.ensures.grown (c.begin_and_flush.ensures.silent told)
    (c.obey_lines-ended.ensures.unread told c.in-Ok.ensures.fresh.clean (same ∙ sym c.begin_and_flush.ensures.alone.keys))

pub returns-clause-entered : goal.returns-clause-entered
returns-clause-entered g c = λ told other. c.in-Ok.ensures.clean_page told

pub returns-in-Err-clause-unfailed : goal.returns-in-Err-clause-unfailed
returns-in-Err-clause-unfailed g c =
    refused_unfailed (g.M.Tape.tape c.args.machine.now) (g.M.Tape.tape c.begin_and_flush.new.disk) (g.M.Tape.tape c.refuse_pack.new.console) c.in-Err.error c.begin_and_flush.ensures.alone c.refuse_pack.ensures.alone c.in-Err.ensures.cause c.refuse_pack.result c.refuse_pack.ensures.refused c.refuse_pack.ensures.unfailed

pub returns-in-Ok-ended-clause-unfailed : goal.returns-in-Ok-ended-clause-unfailed
returns-in-Ok-ended-clause-unfailed g c =
    let none = none_twice (none_of_disk c.begin_and_flush.ensures.alone c.in-Ok.ensures.cause) c.in-Ok-ended.ensures.unfailed in
    let two = kept c.obey_lines-ended.new.session in
    subst (λ status. UnlessStopped status (NoFault (g.M.Tape.tape c.args.machine.now) (g.M.Tape.tape c.obey_lines-ended.new.machine))) (sym (c.status_of_need.ensures ∙ ap status_of_need c.needs_scavenge.ensures)) (need_unfailed _ two.need none)

pub returns-clause-unfailed : goal.returns-clause-unfailed
returns-clause-unfailed g c =
    subst (λ status. UnlessStopped status (NoFault (g.M.Tape.tape c.args.machine.now) (g.M.Tape.tape c.obey_lines-ended.new.machine))) (sym c.status.ensures) (stopped_owes c.in-Err-ended.fault _)

pub returns-in-Err-clause-booted : goal.returns-in-Err-clause-booted
returns-in-Err-clause-booted g c = λ told.
    let x = g.M.Tape.tape c.args.machine.now in
    let y = g.M.Tape.tape c.begin_and_flush.new.disk in
    let z = g.M.Tape.tape c.refuse_pack.new.console in
    let e = c.in-Err.error in
    let answer = c.refuse_pack.result in
    refused_boots e c.args.tally.now (no_tally c.limit_of-limit.result) c.begin_and_flush.ensures.alone.grown c.refuse_pack.ensures.alone.grown (c.begin_and_flush.ensures.silent told) (c.refuse_pack.ensures.alone.keys ∙ c.begin_and_flush.ensures.alone.keys) (ap no_tally c.limit_of-limit.ensures)
    c.args.moment answer (g.met.M.Disk.formed c.args.machine.now told) (c.in-Err.ensures.opens told) c.refuse_pack.ensures.refused (c.refuse_pack.ensures.shown told)
    (refused_cause x y z e c.begin_and_flush.ensures.alone c.refuse_pack.ensures.alone c.in-Err.ensures.cause answer c.refuse_pack.ensures.refused)

pub returns-in-Ok-ended-clause-booted : goal.returns-in-Ok-ended-clause-booted
returns-in-Ok-ended-clause-booted g c = λ told.
    let x = g.M.Tape.tape c.args.machine.now in
    let y = g.M.Tape.tape c.begin_and_flush.new.disk in
    let z = g.M.Tape.tape c.obey_lines-ended.new.machine in
    let moment = c.args.moment in
    let given = c.args.tally.now in
    let one = kept c.in-Ok.session in
    let two = kept c.obey_lines-ended.new.session in
    let limit = c.limit_of-limit.ensures in
    let by_opening : OpenedBy x y = record { grown = c.begin_and_flush.ensures.alone.grown; silent = c.begin_and_flush.ensures.silent told; keys = c.begin_and_flush.ensures.alone.keys; counts = g.met.M.Disk.counted c.args.machine.now told } in
    let most : given.limit < 2 ^ 64 = omega (arith, limit) in
    let all : Booted moment x z given two.tally (status_of_need two.need) =
    opened_boots moment x z given two.tally (status_of_need two.need) (g.met.M.Disk.formed c.args.machine.now told) (need_answers two.need) (λ once. (c.in-Ok.ensures.opens told once).0)
    (λ sound. ended_boots moment x z given two (c.in-Ok-ended.ensures.lasts told moment x given most by_opening sound (subst (Begun (pack x) one moment) limit ((c.in-Ok.ensures.opens told (sound_once (pack x) sound)).1 sound))))
    (need_cause x z two.need (none_twice (none_of_disk c.begin_and_flush.ensures.alone c.in-Ok.ensures.cause) c.in-Ok-ended.ensures.unfailed)) in
    subst (Booted moment x z given c.tally.result) (sym (c.status_of_need.ensures ∙ ap status_of_need c.needs_scavenge.ensures))
    (subst (λ t. Booted moment x z given t (status_of_need two.need)) (sym c.tally.ensures) all)

pub returns-clause-booted : goal.returns-clause-booted
returns-clause-booted g c = λ told.
    let x = g.M.Tape.tape c.args.machine.now in
    let y = g.M.Tape.tape c.begin_and_flush.new.disk in
    let z = g.M.Tape.tape c.obey_lines-ended.new.machine in
    let moment = c.args.moment in
    let given = c.args.tally.now in
    let one = kept c.in-Ok.session in
    let two = kept c.obey_lines-ended.new.session in
    let limit = c.limit_of-limit.ensures in
    let fault = c.in-Err-ended.fault in
    let by_opening : OpenedBy x y = record { grown = c.begin_and_flush.ensures.alone.grown; silent = c.begin_and_flush.ensures.silent told; keys = c.begin_and_flush.ensures.alone.keys; counts = g.met.M.Disk.counted c.args.machine.now told } in
    let most : given.limit < 2 ^ 64 = omega (arith, limit) in
    let all : Booted moment x z given two.tally (status_of fault) =
    opened_boots moment x z given two.tally (status_of fault) (g.met.M.Disk.formed c.args.machine.now told) (fault_answers fault) (λ once. (c.in-Ok.ensures.opens told once).0)
    (λ sound. failed_boots moment x z given two.tally fault (c.in-Err-ended.ensures.lasts told moment x given most by_opening sound (subst (Begun (pack x) one moment) limit ((c.in-Ok.ensures.opens told (sound_once (pack x) sound)).1 sound))))
    (fault_cause x y z fault (none_of_disk c.begin_and_flush.ensures.alone c.in-Ok.ensures.cause) c.in-Err-ended.ensures.cause) in
    subst (Booted moment x z given c.tally.result) (sym c.status.ensures)
    (subst (λ t. Booted moment x z given t (status_of fault)) (sym c.tally.ensures) all)

-- ---- where it writes
pub returns-in-Err-clause-frame : goal.returns-in-Err-clause-frame
returns-in-Err-clause-frame g c =
    let y = g.M.Tape.tape c.begin_and_flush.new.disk in
    let z = g.M.Tape.tape c.refuse_pack.new.console in
    usable_grown c.begin_and_flush.ensures.alone.grown c.refuse_pack.ensures.alone.grown (λ told. writes_silent _ _ (c.begin_and_flush.ensures.silent told)) (usable_none c.refuse_pack.ensures.alone.grown (λ told. reason_writes c.in-Err.error y z c.refuse_pack.result (c.refuse_pack.ensures.shown told)))

pub returns-in-Ok-ended-clause-frame : goal.returns-in-Ok-ended-clause-frame
returns-in-Ok-ended-clause-frame g c = usable_grown c.begin_and_flush.ensures.alone.grown c.obey_lines-ended.ensures.grown (λ told. writes_silent _ _ (c.begin_and_flush.ensures.silent told)) c.obey_lines-ended.ensures.frame

pub returns-clause-frame : goal.returns-clause-frame
returns-clause-frame g c = usable_grown c.begin_and_flush.ensures.alone.grown c.obey_lines-ended.ensures.grown (λ told. writes_silent _ _ (c.begin_and_flush.ensures.silent told)) c.obey_lines-ended.ensures.frame
