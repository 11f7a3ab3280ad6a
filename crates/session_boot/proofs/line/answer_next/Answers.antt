use Rattle.std.proofs.Common.{subst}
use Rattle.std.proofs.lemmas.Bool.{false≢true}
use Rattle.exec_session.specs.Meant.{kept}
use Rattle.session_boot.specs.Turns.{NextTurn}
use Rattle.session_boot.proofs.Framing.{still_usable}
use Rattle.session_boot.proofs.line.answer_next.Goals as goal

pub returns-in_err-flush_unless-clause-next : goal.returns-in_err-flush_unless-clause-next
returns-in_err-flush_unless-clause-next g c = λ told. absurd (false≢true (c.in_err-flush_unless.ensures.told told).0)

pub returns-clause-next : goal.returns-clause-next
returns-clause-next g c = λ told.
    subst (λ t. NextTurn t (g.M.Tape.tape c.answer_typed.new.machine) (kept c.args.session.now) (kept c.answer_typed.new.session) c.args.left.now c.answer_typed.new.left c.answer_typed.result)
    (c.in_ok-flush_unless.ensures.told told).1 (c.answer_typed.ensures.next told)

pub returns-in_err-flush_unless-clause-frame : goal.returns-in_err-flush_unless-clause-frame
returns-in_err-flush_unless-clause-frame g c = λ told. absurd (false≢true (c.in_err-flush_unless.ensures.told told).0)

pub returns-clause-frame : goal.returns-clause-frame
returns-clause-frame g c = still_usable c.answer_typed.ensures.grown (λ told. (c.in_ok-flush_unless.ensures.told told).1) c.answer_typed.ensures.frame
