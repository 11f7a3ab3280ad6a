use Rattle.std.proofs.Common.{ℕ, [], ap, arith, nat_lt}
use Rattle.disk_records.specs.Tapes.{pack}
use Rattle.page_seeking.specs.Refs.{MisledBy}
use Rattle.exec_session.proofs.NewNaming.{found_of_stands}
use Rattle.exec_steps.proofs.RoomPlanning.{run_in_the_model}
use Rattle.exec_session.proofs.Looking.{hints_looked, looks_about_within}
use Rattle.exec_session.proofs.Stopping.{hint_of_dir, unrefused_by_dir}
use Rattle.exec_session.proofs.Causing.{cause_by_dir, cause_passed, not_wanted_by_dir}
use Rattle.exec_session.specs.Stops.{stop_of_dir}
use Rattle.disk_records.specs.Causes.{never}
use Rattle.exec_session.proofs.Parts.{ok_of_error}
use Rattle.exec_steps.proofs.rooms.lacks_room.Goals as goal

pub returns-in_err-room-clause-misled : goal.returns-in_err-room-clause-misled
returns-in_err-room-clause-misled g c = λ told stands.
    let p = pack (g.D.Tape.tape c.args.disk.now) in
    let d = c.args.dir.now.fid in
    hint_of_dir ℕ (MisledBy p [] d) (MisledBy p [] d) c.in_err-room.field-0.0 c.from_residual.result c.from_residual.ensures.1
    (λ place at wanted found h. h)
    (c.in_err-room.ensures.misled told (found_of_stands p c.args.dir.now stands))

pub returns-clause-lacks : goal.returns-clause-lacks
returns-clause-lacks g c = λ told stands.
    let p = pack (g.D.Tape.tape c.args.disk.now) in
    let dir = c.args.dir.now in
    ap (λ n. nat_lt n c.args.words) (run_in_the_model p dir c.in_ok-room.field-0 stands (c.in_ok-room.ensures.found told (found_of_stands p dir stands)))

pub returns-in_err-room-clause-lacks : goal.returns-in_err-room-clause-lacks
returns-in_err-room-clause-lacks g c = λ told stands. ok_of_error _ _ c.from_residual.result c.from_residual.ensures.1

pub returns-in_err-room-clause-cause : goal.returns-in_err-room-clause-cause
returns-in_err-room-clause-cause g c = cause_passed (g.D.Tape.tape c.args.disk.now) (g.D.Tape.tape c.room.new.disk) (stop_of_dir c.in_err-room.field-0.0) c.from_residual.result c.from_residual.ensures.1 (cause_by_dir never never never tt tt tt (g.D.Tape.tape c.args.disk.now) (g.D.Tape.tape c.room.new.disk) c.in_err-room.field-0.0 c.in_err-room.ensures.cause)

pub returns-in_err-room-clause-want : goal.returns-in_err-room-clause-want
returns-in_err-room-clause-want g c = λ told. not_wanted_by_dir ℕ c.in_err-room.field-0.0 c.from_residual.result c.from_residual.ensures.1 (c.in_err-room.ensures.want told)

pub returns-in_err-room-clause-unrefused : goal.returns-in_err-room-clause-unrefused
returns-in_err-room-clause-unrefused g c = unrefused_by_dir (λ r. ⊥) (g.D.Tape.tape c.args.disk.now) (g.D.Tape.tape c.room.new.disk) c.in_err-room.field-0.0 c.from_residual.result c.from_residual.ensures.1 c.in_err-room.ensures.cause

pub returns-in_err-room-clause-looks : goal.returns-in_err-room-clause-looks
returns-in_err-room-clause-looks g c = looks_about_within 4298375168 (omega arith) (hints_looked c.args.session.now c.room.new.hints c.in_err-room.ensures.looks c.in_err-room.ensures.table c.in_err-room.ensures.refused c.in_err-room.ensures.handy)

pub returns-clause-unrefused : goal.returns-clause-unrefused
returns-clause-unrefused g c = tt

pub returns-clause-misled : goal.returns-clause-misled
returns-clause-misled g c = λ told stands. tt

pub returns-clause-cause : goal.returns-clause-cause
returns-clause-cause g c = c.in_ok-room.ensures.cause

pub returns-clause-want : goal.returns-clause-want
returns-clause-want g c = λ told is. cc

pub returns-clause-looks : goal.returns-clause-looks
returns-clause-looks g c = looks_about_within 4298375168 (omega arith) (hints_looked c.args.session.now c.room.new.hints c.in_ok-room.ensures.looks c.in_ok-room.ensures.table c.in_ok-room.ensures.refused c.in_ok-room.ensures.handy)
