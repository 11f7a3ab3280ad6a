use Rattle.std.proofs.Common.{Err, [], subst, sym}
use Rattle.disk_records.specs.Commands.{value_writes}
use Rattle.label_check.specs.Guarded.{Carries, Guarded}
use Rattle.disk_descriptor.proofs.Guards.{guards_err}
use Rattle.disk_descriptor.specs.Writing.{GuardsPage}
use Rattle.disk_descriptor.proofs.writing.write_page.Goals as goal

pub returns-in-Err-clause-guarded : goal.returns-in-Err-clause-guarded
returns-in-Err-clause-guarded g c = λ told.
    let a = g.D.Tape.tape c.args.disk.now in
    let b = g.D.Tape.tape c.write_value.new.disk in
    let at = c.args.at in
    let writes = value_writes at c.args.value.now in
    subst (λ e. GuardsPage {T = Unit {0}} at c.args.number a b (Err e)) (sym c.error_at.ensures)
    (guards_err at c.args.number 2 writes c.in-Err.error
    (subst (λ page. Guarded {T = Unit {0}} (Carries at page) at [] writes 2 a b (Err c.in-Err.error)) c.page_of_descriptor.ensures (c.in-Err.ensures.guarded told)))
