use Rattle.std.proofs.Common.{ap, subst, sym, ◌∙◌}
use Rattle.disk_records.specs.Causes.{IsCause}
use Rattle.disk_records.specs.Tapes.{pack}
use Rattle.exec_words.specs.declared.line.Line.TheVariants as line
use Rattle.session_model.specs.Answering.{IsByModel, TakesTurn}
use Rattle.session_model.specs.Keeping.{Formed}
use Rattle.session_model.specs.Turning.{typed}
use Rattle.exec_session.specs.Ends.{cause_of_reply}
use Rattle.exec_session.specs.Meant.{kept}
use Rattle.exec_session.specs.declared.session.Session.{Session}
use Rattle.exec_session.proofs.Ending.{formed_after, limit_after, never_by_model, no_streams, quit_ends, quit_reply, some_level, stopped_cause, stopped_formed, stopped_tally, turns_broken, turns_closed}
use Rattle.exec_session.proofs.Stopping.{stopped_unscavenged}
use Rattle.exec_session.proofs.end.quit.Goals as goal

pub returns-in-Ok-clause-turns : goal.returns-in-Ok-clause-turns
returns-in-Ok-clause-turns g c = λ told s keeping.
    let a = g.D.Tape.tape c.args.disk.now in
    let b = g.D.Tape.tape c.close.new.disk in
    let one = c.args.session.now in
    let none = no_streams (pack a) one s keeping in
    let least = some_level (pack a) one s a.form c.requires.formed keeping in
    let h = c.in-Ok.ensures in
    subst (TakesTurn a b (kept one) (kept c.close.new.session) s (typed line.Quit)) (quit_reply s none least)
    (turns_closed a b one c.close.new.session s (typed line.Quit) keeping (quit_ends s none least) (g.met.D.Disk.formed c.args.disk.now told) h.alone.grown
    c.in-Ok.field-0 (λ is. ((h.in_need is).1, (h.in_need is).2)) (h.closes told) h.kept)

pub returns-in-Ok-clause-formed : goal.returns-in-Ok-clause-formed
returns-in-Ok-clause-formed g c =
    let h = c.in-Ok.ensures in
    formed_after (g.D.Tape.tape c.args.disk.now) (g.D.Tape.tape c.close.new.disk) c.args.session.now c.close.new.session c.requires.formed h.alone.grown.form (λ is. (h.in_need is).2) h.kept

pub returns-in-Err-clause-turns : goal.returns-in-Err-clause-turns
returns-in-Err-clause-turns g c = λ told s keeping.
    let a = g.D.Tape.tape c.args.disk.now in
    let b = g.D.Tape.tape c.close.new.disk in
    let one = c.args.session.now in
    let x = c.in-Err.stop in
    let none = no_streams (pack a) one s keeping in
    let least = some_level (pack a) one s a.form c.requires.formed keeping in
    let h = c.in-Err.ensures in
    subst (TakesTurn a b (kept one) (kept c.stopped.new.session) s (typed line.Quit)) (sym c.stopped.ensures.reply)
    (turns_broken a b one c.stopped.new.session s (typed line.Quit) keeping (quit_ends s none least) (g.met.D.Disk.formed c.args.disk.now told) h.alone.grown
    x (λ is. (h.in_need is).0) (h.closes told) (h.unfailing told) h.unrefused
    (ap (λ k. k.tally) c.stopped.ensures.kept ∙ stopped_tally x (kept c.close.new.session) ∙ ap (λ z. z.tally) h.left))

pub returns-in-Err-clause-unrefused : goal.returns-in-Err-clause-unrefused
returns-in-Err-clause-unrefused g c = λ by. never_by_model c.in-Err.stop c.in-Err.ensures.unrefused (subst IsByModel c.stopped.ensures.reply by)

pub returns-in-Err-clause-unscavenged : goal.returns-in-Err-clause-unscavenged
returns-in-Err-clause-unscavenged g c = λ asks. stopped_unscavenged c.in-Err.stop (sym c.stopped.ensures.reply ∙ asks)

-- ---- the pack is closed, or nothing was to be done
pub returns-in-Ok-clause-idle : goal.returns-in-Ok-clause-idle
returns-in-Ok-clause-idle g c = λ is. (c.in-Ok.ensures.in_need is).1

pub returns-in-Ok-clause-limit : goal.returns-in-Ok-clause-limit
returns-in-Ok-clause-limit g c = limit_after c.args.session.now c.close.new.session (λ is. (c.in-Ok.ensures.in_need is).2) c.in-Ok.ensures.kept

pub returns-in-Ok-clause-cause : goal.returns-in-Ok-clause-cause
returns-in-Ok-clause-cause g c = c.in-Ok.ensures.cause

pub returns-in-Ok-clause-alone : goal.returns-in-Ok-clause-alone
returns-in-Ok-clause-alone g c = c.in-Ok.ensures.alone

pub returns-in-Ok-clause-frame : goal.returns-in-Ok-clause-frame
returns-in-Ok-clause-frame g c = c.in-Ok.ensures.frame

-- ---- it broke off
pub returns-in-Err-clause-idle : goal.returns-in-Err-clause-idle
returns-in-Err-clause-idle g c = λ is. absurd (c.in-Err.ensures.in_need is).0

pub returns-in-Err-clause-limit : goal.returns-in-Err-clause-limit
returns-in-Err-clause-limit g c = ap (λ k. k.tally.limit) c.stopped.ensures.kept ∙ ap (λ t. t.limit) (stopped_tally c.in-Err.stop (kept c.close.new.session)) ∙ ap (λ z. z.tally.limit) c.in-Err.ensures.left

pub returns-in-Err-clause-formed : goal.returns-in-Err-clause-formed
returns-in-Err-clause-formed g c =
    let h = c.in-Err.ensures in
    subst (Formed (g.D.Tape.tape c.close.new.disk).form) (sym c.stopped.ensures.kept)
    (stopped_formed (g.D.Tape.tape c.close.new.disk).form c.in-Err.stop (kept c.close.new.session)
    (subst (λ (s : Session). Formed (g.D.Tape.tape c.close.new.disk).form (kept s)) (sym h.left) (subst (λ f. Formed f (kept c.args.session.now)) (sym h.alone.grown.form) c.requires.formed)))

pub returns-in-Err-clause-cause : goal.returns-in-Err-clause-cause
returns-in-Err-clause-cause g c = subst (λ r. IsCause (g.D.Tape.tape c.args.disk.now) (g.D.Tape.tape c.close.new.disk) (cause_of_reply r)) (sym c.stopped.ensures.reply) (stopped_cause (g.D.Tape.tape c.args.disk.now) (g.D.Tape.tape c.close.new.disk) c.in-Err.stop c.in-Err.ensures.cause)

pub returns-in-Err-clause-alone : goal.returns-in-Err-clause-alone
returns-in-Err-clause-alone g c = c.in-Err.ensures.alone

pub returns-in-Err-clause-frame : goal.returns-in-Err-clause-frame
returns-in-Err-clause-frame g c = c.in-Err.ensures.frame
