use Rattle.std.proofs.Common.{sym, ap, ◌∙◌}
use Rattle.pack_model.specs.reading.Sights.{sight}
use Rattle.label_sweep.proofs.Showing.{sees, sees_nothing}
use Rattle.label_sweep.proofs.sector.see.Goals as goal

pub returns-then-right-clause-sight : goal.returns-then-right-clause-sight
returns-then-right-clause-sight g c = λ told.
    let form = (g.D.Tape.tape c.args.disk.now).form in
    c.sight_in-sight.ensures.shown
    ∙ sees form c.args.at c.look.new.buf c.requires.first (sym c.in_ok-right.ensures.right ∙ c.if-right.true)
    ∙ ap (sight form c.args.at) (c.in_ok-right.ensures.holds told)

pub returns-else-right-clause-sight : goal.returns-else-right-clause-sight
returns-else-right-clause-sight g c = λ told.
    let form = (g.D.Tape.tape c.args.disk.now).form in
    sees_nothing form c.args.at c.look.new.buf c.requires.first (sym c.in_ok-right.ensures.right ∙ c.if-right.false)
    ∙ ap (sight form c.args.at) (c.in_ok-right.ensures.holds told)
