use Rattle.std.proofs.Common.{subst, sym}
use Rattle.exec_session.specs.Meant.{kept}
use Rattle.exec_words.specs.Grammar.{line_in}
use Rattle.session_boot.specs.declared.status.Fault.TheVariants.{Memory}
use Rattle.session_model.specs.Ending.{cue_of}
use Rattle.session_model.specs.Turning.{cue_for}
use Rattle.session_boot.specs.Turns.{TurnTaken, TurnsFrom, is_over}
use Rattle.disk_records.specs.Tapes.{added, pack}
use Rattle.session_boot.proofs.Answers.{answer_cut, answer_missed, answer_shown, answer_stopped, err_is, line_never_asks, next_over}
use Rattle.disk_records.proofs.Framing.{usable_here}
use Rattle.session_boot.proofs.Framing.{usable_grown, usable_shown}
use Rattle.session_boot.proofs.line.answer_line.Goals as goal

pub returns-in_err-line-clause-turn : goal.returns-in_err-line-clause-turn
returns-in_err-line-clause-turn g c = λ told.
    answer_missed is_over (g.M.Tape.tape c.args.machine.now) (kept c.args.session.now) (cue_of c.args.text.now) (line_never_asks (line_in c.args.text.now)) c.from_residual.result (err_is c.from_residual.result Memory c.from_residual.ensures.1)

pub returns-in_err-next-clause-turn : goal.returns-in_err-next-clause-turn
returns-in_err-next-clause-turn g c = λ told.
    let x = g.M.Tape.tape c.args.machine.now in
    let y = g.M.Tape.tape c.obey_and_flush-reply.new.disk in
    let one = kept c.args.session.now in
    let two = kept c.obey_and_flush-reply.new.session in
    let l = c.in_ok-line.line in
    let result = c.from_residual-in_err-next.result in
    subst (λ k. TurnsFrom is_over (pack x) (added x y) x.writes y one two (cue_for k) result) c.in_ok-line.ensures
    (answer_stopped is_over x y one two (cue_for l) c.obey_and_flush-reply.result (line_never_asks l) (c.obey_and_flush-reply.ensures.turns told) c.in_err-next.field-0.0 (sym c.in_err-next.ensures) result (err_is result c.in_err-next.field-0.0 c.from_residual-in_err-next.ensures.1))

pub returns-in_err-show_reply-clause-turn : goal.returns-in_err-show_reply-clause-turn
returns-in_err-show_reply-clause-turn g c = λ told.
    let x = g.M.Tape.tape c.args.machine.now in
    let y = g.M.Tape.tape c.obey_and_flush-reply.new.disk in
    let z = g.M.Tape.tape c.show_reply.new.console in
    let one = kept c.args.session.now in
    let two = kept c.obey_and_flush-reply.new.session in
    let l = c.in_ok-line.line in
    let result = c.from_residual-in_err-show_reply.result in
    let fault = c.in_err-show_reply.field-0.0 in
    subst (λ k. TurnsFrom is_over (pack x) (added x z) x.writes z one two (cue_for k) result) c.in_ok-line.ensures
    (answer_cut is_over x y one two (cue_for l) c.obey_and_flush-reply.result (line_never_asks l) (c.obey_and_flush-reply.ensures.turns told) z c.obey_and_flush-reply.ensures.alone.grown c.in_err-show_reply.ensures.alone.grown
    c.in_ok-next.next (sym c.in_ok-next.ensures) fault (c.in_err-show_reply.ensures.shown told) c.in_err-show_reply.ensures.cause result (err_is result fault c.from_residual-in_err-show_reply.ensures.1))

pub returns-clause-turn : goal.returns-clause-turn
returns-clause-turn g c = λ told s keeping.
    let x = g.M.Tape.tape c.args.machine.now in
    let y = g.M.Tape.tape c.obey_and_flush-reply.new.disk in
    let z = g.M.Tape.tape c.show_reply.new.console in
    let one = kept c.args.session.now in
    let two = kept c.obey_and_flush-reply.new.session in
    let l = c.in_ok-line.line in
    subst (λ k. TurnTaken (pack x) (added x z) x.writes z one two s (cue_for k) (is_over c.in_ok-next.next)) c.in_ok-line.ensures
    (subst (TurnTaken (pack x) (added x z) x.writes z one two s (cue_for l)) (next_over c.obey_and_flush-reply.result c.in_ok-next.next (sym c.in_ok-next.ensures))
    (answer_shown is_over x y one two (cue_for l) c.obey_and_flush-reply.result (line_never_asks l) (c.obey_and_flush-reply.ensures.turns told) z c.obey_and_flush-reply.ensures.alone.grown c.in_ok-show_reply.ensures.alone.grown
    c.in_ok-next.next (sym c.in_ok-next.ensures) (c.in_ok-show_reply.ensures.shown told).ok s keeping))

-- ---- where it writes
pub returns-in_err-line-clause-frame : goal.returns-in_err-line-clause-frame
returns-in_err-line-clause-frame g c = usable_here (g.M.Tape.tape c.args.machine.now)

pub returns-in_err-next-clause-frame : goal.returns-in_err-next-clause-frame
returns-in_err-next-clause-frame g c = c.obey_and_flush-reply.ensures.frame

pub returns-in_err-show_reply-clause-frame : goal.returns-in_err-show_reply-clause-frame
returns-in_err-show_reply-clause-frame g c = usable_grown c.obey_and_flush-reply.ensures.alone.grown c.in_err-show_reply.ensures.alone.grown c.obey_and_flush-reply.ensures.frame (usable_shown c.in_err-show_reply.ensures.shown)

pub returns-clause-frame : goal.returns-clause-frame
returns-clause-frame g c = usable_grown c.obey_and_flush-reply.ensures.alone.grown c.in_ok-show_reply.ensures.alone.grown c.obey_and_flush-reply.ensures.frame (usable_shown c.in_ok-show_reply.ensures.shown)
