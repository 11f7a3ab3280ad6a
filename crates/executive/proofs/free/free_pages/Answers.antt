use Rattle.std.proofs.Common.{◌-◌, Ok, ap, ◌∙◌}
use Rattle.disk_records.specs.Tapes.{pack}
use Rattle.exec_words.specs.Texts.{free_text}
use Rattle.exec_words.specs.declared.line.Line.TheVariants as line
use Rattle.pack_model.specs.reading.Model.{read_as}
use Rattle.exec_session.specs.Meant.{replied}
use Rattle.exec_writing.specs.exec_steps.proofs.SectorTaking.{free_room}
use Rattle.exec_session.proofs.TakingUp.{few_none}
use Rattle.executive.proofs.Answering.{free_reads, passes_memory, reading_turns}
use Rattle.executive.proofs.Passing.{looks_alone, uncounted}
use Rattle.executive.proofs.Untaken.{free_refused}
use Rattle.exec_session.proofs.Causing.{cause_by_look, cause_passed}
use Rattle.exec_session.specs.Stops.{stop_of_look}
use Rattle.exec_session.specs.declared.stop.Stop.TheVariants as stop
use Rattle.executive.proofs.free.free_pages.Goals as goal

pub returns-in_err-free-clause-turns : goal.returns-in_err-free-clause-turns
returns-in_err-free-clause-turns g c = λ told.
    let old = g.D.Tape.tape c.args.disk.now in
    let new = g.D.Tape.tape c.count_free.new.disk in
    let s = c.args._session.now in
    reading_turns old new s s line.Free c.from_residual.result free_reads told c.requires.obeys (looks_alone s c.count_free.ensures.looks)
    (λ sound. uncounted (pack old) line.Free (λ v. v.items) c.in_err-free.field-0.0 c.from_residual.result c.from_residual.ensures.1)
    (λ u keeping handy none. few_none line.Free (λ p m n. tt) (pack old) u.model (replied c.from_residual.result) (new.runs - old.runs))

pub returns-in_err-free_text-clause-turns : goal.returns-in_err-free_text-clause-turns
returns-in_err-free_text-clause-turns g c = λ told.
    let old = g.D.Tape.tape c.args.disk.now in
    let new = g.D.Tape.tape c.count_free.new.disk in
    let s = c.args._session.now in
    reading_turns old new s s line.Free c.from_residual-in_err-free_text.result free_reads told c.requires.obeys (looks_alone s c.count_free.ensures.looks)
    (λ sound. passes_memory (pack old) line.Free (λ v. v.items) c.from_residual-in_err-free_text.result c.from_residual-in_err-free_text.ensures.1)
    (λ u keeping handy none. few_none line.Free (λ p m n. tt) (pack old) u.model (replied c.from_residual-in_err-free_text.result) (new.runs - old.runs))

pub returns-clause-turns : goal.returns-clause-turns
returns-clause-turns g c = λ told.
    let old = g.D.Tape.tape c.args.disk.now in
    let new = g.D.Tape.tape c.count_free.new.disk in
    let s = c.args._session.now in
    reading_turns old new s s line.Free (Ok c.in_ok-free_text.field-0) free_reads told c.requires.obeys (looks_alone s c.count_free.ensures.looks)
    (λ sound w taken. record {
      said = record {
        unrefused = free_refused (read_as (pack old)) w taken;
        text_is = c.in_ok-free_text.ensures ∙ ap free_text (c.in_ok-free.ensures.counted told ∙ free_room (pack old) sound);
      };
      refused = tt;
      misled = tt;
    })
    (λ u keeping handy none. few_none line.Free (λ p m n. tt) (pack old) u.model (replied (Ok c.in_ok-free_text.field-0)) (new.runs - old.runs))

pub returns-in_err-free-clause-silent : goal.returns-in_err-free-clause-silent
returns-in_err-free-clause-silent g c = c.count_free.ensures.looks.silent

pub returns-in_err-free_text-clause-silent : goal.returns-in_err-free_text-clause-silent
returns-in_err-free_text-clause-silent g c = c.count_free.ensures.looks.silent

pub returns-clause-silent : goal.returns-clause-silent
returns-clause-silent g c = c.count_free.ensures.looks.silent

pub returns-in_err-free-clause-alone : goal.returns-in_err-free-clause-alone
returns-in_err-free-clause-alone g c = c.count_free.ensures.looks.alone

pub returns-in_err-free_text-clause-alone : goal.returns-in_err-free_text-clause-alone
returns-in_err-free_text-clause-alone g c = c.count_free.ensures.looks.alone

pub returns-clause-alone : goal.returns-clause-alone
returns-clause-alone g c = c.count_free.ensures.looks.alone

pub returns-in_err-free-clause-cause : goal.returns-in_err-free-clause-cause
returns-in_err-free-clause-cause g c = cause_passed (g.D.Tape.tape c.args.disk.now) (g.D.Tape.tape c.count_free.new.disk) (stop_of_look c.in_err-free.field-0.0) c.from_residual.result c.from_residual.ensures.1 (cause_by_look (g.D.Tape.tape c.args.disk.now) (g.D.Tape.tape c.count_free.new.disk) c.in_err-free.field-0.0 c.in_err-free.ensures.cause)

pub returns-in_err-free_text-clause-cause : goal.returns-in_err-free_text-clause-cause
returns-in_err-free_text-clause-cause g c = cause_passed (g.D.Tape.tape c.args.disk.now) (g.D.Tape.tape c.count_free.new.disk) stop.Memory c.from_residual-in_err-free_text.result c.from_residual-in_err-free_text.ensures.1 c.in_ok-free.ensures.cause

pub returns-clause-cause : goal.returns-clause-cause
returns-clause-cause g c = c.in_ok-free.ensures.cause
