use Rattle.std.proofs.Common.{ap, subst, sym, ◌≡◌}
use Rattle.disk_records.proofs.Growing.{nothing_added}
use Rattle.disk_records.specs.Events.{writes_in}
use Rattle.disk_records.specs.Tapes.{Taped, added}
use Rattle.exec_words.specs.Texts.{reply_text}
use Rattle.exec_session.specs.Meant.{kept}
use Rattle.session_model.specs.Turning.{ended}
use Rattle.session_boot.specs.Turns.{ends_all}
use Rattle.session_boot.proofs.Answers.{answer_stopped, end_never_asks, end_said, err_is}
use Rattle.session_boot.proofs.Unread.{first_shown}
use Rattle.session_boot.proofs.Framing.{usable_grown, usable_shown}
use Rattle.session_boot.proofs.line.end_session.Goals as goal

pub returns-in_err-next_after-clause-quiet : goal.returns-in_err-next_after-clause-quiet
returns-in_err-next_after-clause-quiet g c = λ told clean.
    let x = g.M.Tape.tape c.args.machine.now in
    subst (λ (t : Taped). writes_in (added x t) ≡ 0) (sym (c.end_and_flush-reply.ensures.quiet told clean)) (ap writes_in (nothing_added x.events))

pub returns-clause-quiet : goal.returns-clause-quiet
returns-clause-quiet g c = λ told clean.
    let y = g.M.Tape.tape c.end_and_flush-reply.new.disk in
    let z = g.M.Tape.tape c.show_reply.new.console in
    subst (λ (t : Taped). writes_in (added t z) ≡ 0) (c.end_and_flush-reply.ensures.quiet told clean) (first_shown (reply_text c.end_and_flush-reply.result) (added y z) (c.show_reply.ensures.shown told).some)

pub returns-in_err-next_after-clause-turn : goal.returns-in_err-next_after-clause-turn
returns-in_err-next_after-clause-turn g c = λ told.
    answer_stopped ends_all (g.M.Tape.tape c.args.machine.now) (g.M.Tape.tape c.end_and_flush-reply.new.disk) (kept c.args.session.now) (kept c.end_and_flush-reply.new.session) ended c.end_and_flush-reply.result end_never_asks (c.end_and_flush-reply.ensures.turns told)
    c.in_err-next_after.field-0.0 (sym c.in_err-next_after.ensures) c.from_residual.result (err_is c.from_residual.result c.in_err-next_after.field-0.0 c.from_residual.ensures.1)

pub returns-clause-turn : goal.returns-clause-turn
returns-clause-turn g c = λ told.
    end_said (g.M.Tape.tape c.args.machine.now) (g.M.Tape.tape c.end_and_flush-reply.new.disk) (g.M.Tape.tape c.show_reply.new.console) (kept c.args.session.now) (kept c.end_and_flush-reply.new.session) c.end_and_flush-reply.result (c.end_and_flush-reply.ensures.turns told)
    c.end_and_flush-reply.ensures.alone.grown c.show_reply.ensures.alone.grown c.in_ok-next_after.field-0 (sym c.in_ok-next_after.ensures) c.show_reply.result (c.show_reply.ensures.shown told) c.show_reply.ensures.cause

pub returns-in_err-next_after-clause-frame : goal.returns-in_err-next_after-clause-frame
returns-in_err-next_after-clause-frame g c = c.end_and_flush-reply.ensures.frame

pub returns-clause-frame : goal.returns-clause-frame
returns-clause-frame g c = usable_grown c.end_and_flush-reply.ensures.alone.grown c.show_reply.ensures.alone.grown c.end_and_flush-reply.ensures.frame (usable_shown c.show_reply.ensures.shown)
