use Rattle.std.proofs.Common.{Err, Ok, subst, take}
use Rattle.exec_session.specs.Meant.{kept}
use Rattle.session_model.specs.Ending.{cue_of}
use Rattle.session_boot.specs.Keys.{TookLine}
use Rattle.session_boot.specs.Turns.{TakesTurnBy}
use Rattle.session_boot.proofs.Answers.{err_is}
use Rattle.session_boot.proofs.Nexts.{next_broke}
use Rattle.session_boot.proofs.Framing.{usable_grown, usable_keys}
use Rattle.session_boot.proofs.line.answer_typed.Goals as goal

pub returns-in_err-next-clause-next : goal.returns-in_err-next-clause-next
returns-in_err-next-clause-next g c = λ told.
    let x = g.M.Tape.tape c.args.machine.now in
    let y = g.M.Tape.tape c.take_line.new.console in
    let z = g.M.Tape.tape c.answer_text.new.machine in
    let result = c.from_residual-in_err-next.result in
    let fault = c.in_err-next.field-0.0 in
    let text = take c.in-Some.kept c.take_line.new.buffer in
    let took = subst (λ o. TookLine x.keys y.keys c.args.left.now c.take_line.new.left c.take_line.new.buffer (Ok o)) c.in-Some.is (c.in_ok-kept.ensures.line told) in
    let turn : TakesTurnBy y z (kept c.args.session.now) (kept c.answer_text.new.session) (cue_of text) (Err fault) = c.in_err-next.ensures.turn told in
    next_broke text c.take_line.ensures.alone c.answer_text.ensures.keys took result fault turn c.in_err-next.ensures.no_key (err_is result fault c.from_residual-in_err-next.ensures.1)

pub returns-in_err-kept-clause-frame : goal.returns-in_err-kept-clause-frame
returns-in_err-kept-clause-frame g c = usable_keys c.in_err-kept.ensures.alone

pub returns-in_err-next-clause-frame : goal.returns-in_err-next-clause-frame
returns-in_err-next-clause-frame g c = usable_grown c.take_line.ensures.alone.grown c.answer_text.ensures.grown (usable_keys c.take_line.ensures.alone) c.answer_text.ensures.frame

pub returns-clause-frame : goal.returns-clause-frame
returns-clause-frame g c = usable_grown c.take_line.ensures.alone.grown c.answer_text.ensures.grown (usable_keys c.take_line.ensures.alone) c.answer_text.ensures.frame
