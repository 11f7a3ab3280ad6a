use Rattle.std.proofs.Common.{subst}
use Rattle.std.proofs.lemmas.Bool.{false≢true}
use Rattle.exec_session.specs.Meant.{kept}
use Rattle.session_model.specs.Ending.{cue_of}
use Rattle.session_boot.specs.Turns.{TakesTurnBy}
use Rattle.session_boot.proofs.Framing.{still_usable}
use Rattle.session_boot.proofs.line.answer_text.Goals as goal

pub returns-in_err-flush_unless-clause-turn : goal.returns-in_err-flush_unless-clause-turn
returns-in_err-flush_unless-clause-turn g c = λ told. absurd (false≢true (c.in_err-flush_unless.ensures.told told).0)

pub returns-clause-turn : goal.returns-clause-turn
returns-clause-turn g c = λ told.
    subst (λ t. TakesTurnBy t (g.M.Tape.tape c.answer_line.new.machine) (kept c.args.session.now) (kept c.answer_line.new.session) (cue_of c.args.text.now) c.answer_line.result)
    (c.in_ok-flush_unless.ensures.told told).1 (c.answer_line.ensures.turn told)

pub returns-in_err-flush_unless-clause-frame : goal.returns-in_err-flush_unless-clause-frame
returns-in_err-flush_unless-clause-frame g c = λ told. absurd (false≢true (c.in_err-flush_unless.ensures.told told).0)

pub returns-clause-frame : goal.returns-clause-frame
returns-clause-frame g c = still_usable c.answer_line.ensures.grown (λ told. (c.in_ok-flush_unless.ensures.told told).1) c.answer_line.ensures.frame
