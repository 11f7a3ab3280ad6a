use Rattle.std.proofs.Common.{sym, ◌∙◌, subst}
use Rattle.disk_records.specs.Addresses.{pages_of}
use Rattle.disk_records.specs.Tapes.{pack}
use Rattle.laws_format.specs.Preparing.{IsPrepared, drive_pages, prepare_writes}
use Rattle.alto_top.specs.Formats.{PreparesPack, prepare_text}
use Rattle.alto_top.proofs.Formatted.{broken, cut_short, shows_on, whole}
use Rattle.alto_top.proofs.preparing.prepare_pack.Goals as goal

pub returns-in-Err-clause-prepares : goal.returns-in-Err-clause-prepares
returns-in-Err-clause-prepares g c = λ told.
    let old = g.M.Tape.tape c.args.machine.now in
    subst (PreparesPack c.args.number old (g.M.Tape.tape c.prepare_disk.new.disk)) (sym c.status.ensures)
    (broken (prepare_writes old.form c.args.number) (prepare_text (drive_pages old.form)) (IsPrepared (pack old)) (pages_of old.form) c.in-Err.ensures.alone c.in-Err.fault (c.in-Err.ensures.prepares told) c.in-Err.ensures.cause)

pub returns-in-Ok-show_all-clause-prepares : goal.returns-in-Ok-show_all-clause-prepares
returns-in-Ok-show_all-clause-prepares g c = λ told.
    let old = g.M.Tape.tape c.args.machine.now in
    whole (prepare_writes old.form c.args.number) (prepare_text (drive_pages old.form)) (IsPrepared (pack old)) (pages_of old.form) c.in-Ok.ensures.alone _ _ _ (c.in-Ok.ensures.prepares told) (c.deref.ensures.value ∙ c.in-Ok.ensures.text) c.in-Ok-show_all.ensures.alone (c.in-Ok-show_all.ensures.shown told) (c.in-Ok-show_all.ensures.shown told).ok

pub returns-clause-prepares : goal.returns-clause-prepares
returns-clause-prepares g c = λ told.
    let old = g.M.Tape.tape c.args.machine.now in
    subst (PreparesPack c.args.number old (g.M.Tape.tape c.show_all.new.console)) (sym c.status-in-Err-show_all.ensures)
    (cut_short (prepare_writes old.form c.args.number) (prepare_text (drive_pages old.form)) (IsPrepared (pack old)) (pages_of old.form) c.in-Ok.ensures.alone _ _ _ (c.in-Ok.ensures.prepares told) (c.deref.ensures.value ∙ c.in-Ok.ensures.text) c.in-Err-show_all.ensures.alone (c.in-Err-show_all.ensures.shown told) c.in-Err-show_all.fault (c.in-Err-show_all.ensures.shown told).none)

pub returns-in-Ok-show_all-clause-shows : goal.returns-in-Ok-show_all-clause-shows
returns-in-Ok-show_all-clause-shows g c = λ told. shows_on _ c.in-Ok.ensures.alone.grown c.in-Ok-show_all.ensures.alone.grown (c.in-Ok-show_all.ensures.shown told).some (c.in-Ok.ensures.shows told)

pub returns-clause-shows : goal.returns-clause-shows
returns-clause-shows g c = λ told. shows_on _ c.in-Ok.ensures.alone.grown c.in-Err-show_all.ensures.alone.grown (c.in-Err-show_all.ensures.shown told).some (c.in-Ok.ensures.shows told)
