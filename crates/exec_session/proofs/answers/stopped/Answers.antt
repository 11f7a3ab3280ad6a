use Rattle.std.proofs.Common.{ap, sym, true, ◌∙◌}
use Rattle.exec_session.specs.Meant.{kept, kept_stopped}
use Rattle.exec_session.proofs.answers.stopped.Goals as goal

-- a hint failed
pub returns-in-Misled-clause-kept : goal.returns-in-Misled-clause-kept
returns-in-Misled-clause-kept c =
    ap (λ slots. record (kept c.args.session.now) { streams = slots; need = true }) c.none.result.unopened
    ∙ ap (λ stop. kept_stopped stop (kept c.args.session.now)) (sym c.in-Misled.is)
