use Rattle.std.proofs.Common.{sym, ◌∙◌, subst}
use Rattle.disk_records.specs.Addresses.{pages_of}
use Rattle.pack_model.specs.sessions.Format.{format_writes, free_after_format}
use Rattle.disk_descriptor.specs.Formatting.{IsFormatted}
use Rattle.alto_top.specs.Formats.{FormatsPack, format_text}
use Rattle.alto_top.proofs.Formatted.{broken, cut_short, whole}
use Rattle.alto_top.proofs.formatting.format_pack.Goals as goal

pub returns-in-Err-clause-formats : goal.returns-in-Err-clause-formats
returns-in-Err-clause-formats g c = λ told.
    let form = (g.M.Tape.tape c.args.machine.now).form in
    subst (FormatsPack c.args.number c.args.moment (g.M.Tape.tape c.args.machine.now) (g.M.Tape.tape c.format_disk.new.disk)) (sym c.status.ensures)
    (broken (format_writes form c.args.number c.args.moment) (format_text (free_after_format form)) (IsFormatted form c.args.number c.args.moment) (pages_of form) c.in-Err.ensures.alone c.in-Err.fault (c.in-Err.ensures.formats told) c.in-Err.ensures.cause)

pub returns-in-Ok-show_all-clause-formats : goal.returns-in-Ok-show_all-clause-formats
returns-in-Ok-show_all-clause-formats g c = λ told.
    let form = (g.M.Tape.tape c.args.machine.now).form in
    whole (format_writes form c.args.number c.args.moment) (format_text (free_after_format form)) (IsFormatted form c.args.number c.args.moment) (pages_of form) c.in-Ok.ensures.alone _ _ _ (c.in-Ok.ensures.formats told) (c.deref.ensures.value ∙ c.in-Ok.ensures.text) c.in-Ok-show_all.ensures.alone (c.in-Ok-show_all.ensures.shown told) (c.in-Ok-show_all.ensures.shown told).ok

pub returns-clause-formats : goal.returns-clause-formats
returns-clause-formats g c = λ told.
    let form = (g.M.Tape.tape c.args.machine.now).form in
    subst (FormatsPack c.args.number c.args.moment (g.M.Tape.tape c.args.machine.now) (g.M.Tape.tape c.show_all.new.console)) (sym c.status-in-Err-show_all.ensures)
    (cut_short (format_writes form c.args.number c.args.moment) (format_text (free_after_format form)) (IsFormatted form c.args.number c.args.moment) (pages_of form) c.in-Ok.ensures.alone _ _ _ (c.in-Ok.ensures.formats told) (c.deref.ensures.value ∙ c.in-Ok.ensures.text) c.in-Err-show_all.ensures.alone (c.in-Err-show_all.ensures.shown told) c.in-Err-show_all.fault (c.in-Err-show_all.ensures.shown told).none)
