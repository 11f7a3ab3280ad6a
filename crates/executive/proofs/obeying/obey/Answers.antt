use Rattle.std.proofs.Common.{◌≡◌, [], refl, sym, ap, ◌∙◌}
use Rattle.exec_words.specs.Built.{as_built}
use Rattle.disk_records.proofs.Framing.{usable_here}
use Rattle.disk_records.proofs.Growing.{alone_here, nothing_added}
use Rattle.disk_records.specs.Tapes.{added}
use Rattle.exec_session.specs.Meant.{kept}
use Rattle.session_model.specs.Keeping.{world_of}
use Rattle.session_model.specs.Refusals.{by_line}
use Rattle.exec_session.proofs.Stopping.{stopped_unscavenged}
use Rattle.exec_session.proofs.FirstRefusals.{as_built_turns, first_of, may_obey, not_quit, stop_cause, stop_turns}
use Rattle.executive.proofs.Limits.{answered_cause, answered_formed, answered_turns, answered_unscavenged, by_model_unwritten, limit_stays, stopped_formed, stopped_limit}
use Rattle.executive.proofs.obeying.obey.Goals as goal

pub returns-in-Err-clause-turns : goal.returns-in-Err-clause-turns
returns-in-Err-clause-turns g c = λ told.
    let l = as_built c.args.line.now in
    let one = c.args.session.now in
    stop_turns (g.D.Tape.tape c.args.disk.now) one c.stopped.new.session l c.in-Err.stop (first_of (by_line l (world_of (kept one)))) c.stopped.result refl (sym c.in-Err.is ∙ c.refuse_line.ensures) c.stopped.ensures.reply c.stopped.ensures.kept

pub returns-in-Err-clause-unscavenged : goal.returns-in-Err-clause-unscavenged
returns-in-Err-clause-unscavenged g c = λ asks. stopped_unscavenged c.in-Err.stop (sym c.stopped.ensures.reply ∙ asks)

pub returns-in-Err-clause-cause : goal.returns-in-Err-clause-cause
returns-in-Err-clause-cause g c =
    let t = g.D.Tape.tape c.args.disk.now in
    stop_cause t t c.in-Err.stop (first_of (by_line (as_built c.args.line.now) (world_of (kept c.args.session.now)))) c.stopped.result (sym c.in-Err.is ∙ c.refuse_line.ensures) c.stopped.ensures.reply refl

pub returns-in-Err-clause-unwritten : goal.returns-in-Err-clause-unwritten
returns-in-Err-clause-unwritten g c = λ told by_model. nothing_added (g.D.Tape.tape c.args.disk.now).events

pub returns-in-Err-clause-limit : goal.returns-in-Err-clause-limit
returns-in-Err-clause-limit g c = ap (λ k. k.tally.limit) c.stopped.ensures.kept ∙ stopped_limit c.in-Err.stop (kept c.args.session.now)

pub returns-in-Err-clause-formed : goal.returns-in-Err-clause-formed
returns-in-Err-clause-formed g c = stopped_formed (g.D.Tape.tape c.args.disk.now).form c.in-Err.stop (kept c.args.session.now) (kept c.stopped.new.session) c.requires.formed c.stopped.ensures.kept

pub returns-in-Err-clause-alone : goal.returns-in-Err-clause-alone
returns-in-Err-clause-alone g c = alone_here (g.D.Tape.tape c.args.disk.now)

pub returns-in-Err-clause-frame : goal.returns-in-Err-clause-frame
returns-in-Err-clause-frame g c = usable_here (g.D.Tape.tape c.args.disk.now)

pub obey_line-done-requires : goal.obey_line-done-requires
obey_line-done-requires g c =
    let may = may_obey (g.D.Tape.tape c.args.disk.now) c.args.session.now c.args.line.now c.in-Ok.field-0 c.requires.formed (sym c.in-Ok.is ∙ c.refuse_line.ensures) in
    record { obeys = may.1; built = may.0; no_quit = not_quit c.args.line.now c.in_default.not-Quit }

pub returns-in-Quit-clause-turns : goal.returns-in-Quit-clause-turns
returns-in-Quit-clause-turns g c = rw c.in-Quit.is c.quit.ensures.turns

pub returns-in-Quit-clause-unwritten : goal.returns-in-Quit-clause-unwritten
returns-in-Quit-clause-unwritten g c = λ told by_model. absurd (c.quit.ensures.unrefused by_model)

pub returns-in-Quit-clause-unscavenged : goal.returns-in-Quit-clause-unscavenged
returns-in-Quit-clause-unscavenged g c = c.quit.ensures.unscavenged

pub returns-in-Quit-clause-limit : goal.returns-in-Quit-clause-limit
returns-in-Quit-clause-limit g c = c.quit.ensures.limit

pub returns-in-Quit-clause-formed : goal.returns-in-Quit-clause-formed
returns-in-Quit-clause-formed g c = c.quit.ensures.formed

pub returns-in-Quit-clause-cause : goal.returns-in-Quit-clause-cause
returns-in-Quit-clause-cause g c = c.quit.ensures.cause

pub returns-in-Quit-clause-alone : goal.returns-in-Quit-clause-alone
returns-in-Quit-clause-alone g c = c.quit.ensures.alone

pub returns-in-Quit-clause-frame : goal.returns-in-Quit-clause-frame
returns-in-Quit-clause-frame g c = c.quit.ensures.frame

pub returns-in_default : goal.returns-in_default
returns-in_default g c =
    let a = g.D.Tape.tape c.args.disk.now in
    let b = g.D.Tape.tape c.obey_line-done.new.disk in
    let one = c.args.session.now in
    let two = c.obey_line-done.new.session in
    let l = c.args.line.now in
    let limit = c.limit_of-limit.result in
    let done = c.obey_line-done.result in
    let may = may_obey a one l c.in-Ok.field-0 c.requires.formed (sym c.in-Ok.is ∙ c.refuse_line.ensures) in
    record {
      turns = λ told. as_built_turns a b (kept one) (kept c.answer.new.session) l c.answer.result may.0
          (answered_turns a b one two l done limit (kept c.answer.new.session) c.answer.result c.limit_of-limit.ensures (c.obey_line-done.ensures.turns told) c.answer.ensures.kept c.answer.ensures.reply);
      unwritten = λ told. by_model_unwritten (added a b ≡ []) done c.answer.result c.answer.ensures.reply (c.obey_line-done.ensures.unwritten told);
      unscavenged = answered_unscavenged done c.answer.result c.answer.ensures.reply;
      limit = ap (λ k. k.tally.limit) c.answer.ensures.kept ∙ limit_stays done limit (kept two) ∙ c.limit_of-limit.ensures;
      formed = answered_formed b.form done limit (kept two) (kept c.answer.new.session) c.obey_line-done.ensures.formed c.answer.ensures.kept;
      cause = answered_cause a b done c.answer.result c.answer.ensures.reply c.obey_line-done.ensures.cause;
      frame = c.obey_line-done.ensures.frame;
      alone = c.obey_line-done.ensures.alone;
    }
