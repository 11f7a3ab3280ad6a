use Rattle.std.proofs.Common.{sym, subst}
use Rattle.alto_top.specs.Scavenging.{ScavengesPack}
use Rattle.alto_top.proofs.Scavenged.{broke_off, told_short, told_whole}
use Rattle.alto_top.proofs.scavenging.scavenge_pack.Goals as goal

pub returns-in-Err-clause-scavenges : goal.returns-in-Err-clause-scavenges
returns-in-Err-clause-scavenges g c = λ told.
    subst (ScavengesPack (g.M.Tape.tape c.args.machine.now) (g.M.Tape.tape c.scavenge_disk.new.disk)) (sym c.status.ensures)
    (broke_off c.in-Err.fault c.in-Err.ensures.alone (c.in-Err.ensures.scavenges told) c.in-Err.ensures.cause)

pub returns-in-Ok-show_all-clause-scavenges : goal.returns-in-Ok-show_all-clause-scavenges
returns-in-Ok-show_all-clause-scavenges g c = λ told.
    let shown = c.in-Ok-show_all.ensures.shown told in
    subst (ScavengesPack (g.M.Tape.tape c.args.machine.now) (g.M.Tape.tape c.show_all.new.console)) (sym c.status-in-Ok-show_all.ensures)
    (told_whole c.in-Ok.told c.in-Ok.ensures.alone c.in-Ok.ensures.cause (c.in-Ok.ensures.scavenges told) c.in-Ok-show_all.ensures.alone c.text.result.now c.text.ensures _ shown shown.ok)

pub returns-clause-scavenges : goal.returns-clause-scavenges
returns-clause-scavenges g c = λ told.
    let shown = c.in-Err-show_all.ensures.shown told in
    subst (ScavengesPack (g.M.Tape.tape c.args.machine.now) (g.M.Tape.tape c.show_all.new.console)) (sym c.status-in-Err-show_all.ensures)
    (told_short c.in-Ok.told c.in-Ok.ensures.alone c.in-Ok.ensures.cause (c.in-Ok.ensures.scavenges told) c.in-Err-show_all.ensures.alone c.text.result.now c.text.ensures _ shown c.in-Err-show_all.fault c.in-Err-show_all.ensures.cause shown.none)
