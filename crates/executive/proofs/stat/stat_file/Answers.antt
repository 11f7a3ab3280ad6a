use Rattle.std.proofs.Common.{◌-◌, Ok, ◌∙◌}
use Rattle.disk_records.specs.Tapes.{pack}
use Rattle.exec_words.specs.Texts.{stat_text}
use Rattle.exec_words.specs.declared.line.Line.TheVariants as line
use Rattle.exec_words.specs.declared.reply.Stat.{Stat}
use Rattle.exec_session.specs.Meant.{replied}
use Rattle.exec_session.proofs.Looking.{stays_looked}
use Rattle.exec_session.proofs.TakingUp.{few_none}
use Rattle.executive.proofs.Answering.{passes_memory, passes_stop, reading_turns, stat_reads}
use Rattle.exec_session.proofs.Causing.{cause_passed}
use Rattle.exec_session.specs.declared.stop.Stop.TheVariants as stop
use Rattle.executive.proofs.stat.stat_file.Goals as goal

pub returns-in_err-stat-clause-turns : goal.returns-in_err-stat-clause-turns
returns-in_err-stat-clause-turns g c = λ told.
    let old = g.D.Tape.tape c.args.disk.now in
    let new = g.D.Tape.tape c.find_stat.new.disk in
    let l = line.Stat c.args.target.now in
    reading_turns old new c.args.session.now c.find_stat.new.session l c.from_residual.result (stat_reads c.args.target.now) told c.requires.obeys c.find_stat.ensures.looks
    (λ sound. passes_stop {T = Stat} (pack old) l stat_text (λ v. v.items) c.in_err-stat.field-0.0 c.from_residual.result c.from_residual.ensures.1 (c.in_err-stat.ensures.reads told sound))
    (λ u keeping handy none. few_none l (λ p m n. tt) (pack old) u.model (replied c.from_residual.result) (new.runs - old.runs))

pub returns-in_err-stat_text-clause-turns : goal.returns-in_err-stat_text-clause-turns
returns-in_err-stat_text-clause-turns g c = λ told.
    let old = g.D.Tape.tape c.args.disk.now in
    let new = g.D.Tape.tape c.find_stat.new.disk in
    let l = line.Stat c.args.target.now in
    reading_turns old new c.args.session.now c.find_stat.new.session l c.from_residual-in_err-stat_text.result (stat_reads c.args.target.now) told c.requires.obeys c.find_stat.ensures.looks
    (λ sound. passes_memory (pack old) l (λ v. v.items) c.from_residual-in_err-stat_text.result c.from_residual-in_err-stat_text.ensures.1)
    (λ u keeping handy none. few_none l (λ p m n. tt) (pack old) u.model (replied c.from_residual-in_err-stat_text.result) (new.runs - old.runs))

pub returns-clause-turns : goal.returns-clause-turns
returns-clause-turns g c = λ told.
    let old = g.D.Tape.tape c.args.disk.now in
    let new = g.D.Tape.tape c.find_stat.new.disk in
    let l = line.Stat c.args.target.now in
    reading_turns old new c.args.session.now c.find_stat.new.session l (Ok c.in_ok-stat_text.field-0) (stat_reads c.args.target.now) told c.requires.obeys c.find_stat.ensures.looks
    (λ sound w taken.
    let said = (c.in_ok-stat.ensures.reads told sound w taken).said in
    record { said = record { unrefused = said.unrefused; text_is = c.in_ok-stat_text.ensures ∙ said.text_is }; refused = tt; misled = tt })
    (λ u keeping handy none. few_none l (λ p m n. tt) (pack old) u.model (replied (Ok c.in_ok-stat_text.field-0)) (new.runs - old.runs))

pub returns-in_err-stat-clause-stays : goal.returns-in_err-stat-clause-stays
returns-in_err-stat-clause-stays g c = stays_looked (g.D.Tape.tape c.args.disk.now) (g.D.Tape.tape c.find_stat.new.disk) c.find_stat.ensures.looks.looked c.find_stat.ensures.looks.looks.alone.grown.form c.requires.obeys.formed

pub returns-in_err-stat_text-clause-stays : goal.returns-in_err-stat_text-clause-stays
returns-in_err-stat_text-clause-stays g c = stays_looked (g.D.Tape.tape c.args.disk.now) (g.D.Tape.tape c.find_stat.new.disk) c.find_stat.ensures.looks.looked c.find_stat.ensures.looks.looks.alone.grown.form c.requires.obeys.formed

pub returns-clause-stays : goal.returns-clause-stays
returns-clause-stays g c = stays_looked (g.D.Tape.tape c.args.disk.now) (g.D.Tape.tape c.find_stat.new.disk) c.find_stat.ensures.looks.looked c.find_stat.ensures.looks.looks.alone.grown.form c.requires.obeys.formed

pub returns-in_err-stat-clause-silent : goal.returns-in_err-stat-clause-silent
returns-in_err-stat-clause-silent g c = c.in_err-stat.ensures.looks.looks.silent

pub returns-in_err-stat-clause-cause : goal.returns-in_err-stat-clause-cause
returns-in_err-stat-clause-cause g c = cause_passed (g.D.Tape.tape c.args.disk.now) (g.D.Tape.tape c.find_stat.new.disk) c.in_err-stat.field-0.0 c.from_residual.result c.from_residual.ensures.1 c.in_err-stat.ensures.cause

pub returns-in_err-stat-clause-alone : goal.returns-in_err-stat-clause-alone
returns-in_err-stat-clause-alone g c = c.in_err-stat.ensures.looks.looks.alone

pub returns-in_err-stat_text-clause-silent : goal.returns-in_err-stat_text-clause-silent
returns-in_err-stat_text-clause-silent g c = c.in_ok-stat.ensures.looks.looks.silent

pub returns-in_err-stat_text-clause-cause : goal.returns-in_err-stat_text-clause-cause
returns-in_err-stat_text-clause-cause g c = cause_passed (g.D.Tape.tape c.args.disk.now) (g.D.Tape.tape c.find_stat.new.disk) stop.Memory c.from_residual-in_err-stat_text.result c.from_residual-in_err-stat_text.ensures.1 c.in_ok-stat.ensures.cause

pub returns-in_err-stat_text-clause-alone : goal.returns-in_err-stat_text-clause-alone
returns-in_err-stat_text-clause-alone g c = c.in_ok-stat.ensures.looks.looks.alone

pub returns-clause-silent : goal.returns-clause-silent
returns-clause-silent g c = c.in_ok-stat.ensures.looks.looks.silent

pub returns-clause-cause : goal.returns-clause-cause
returns-clause-cause g c = c.in_ok-stat.ensures.cause

pub returns-clause-alone : goal.returns-clause-alone
returns-clause-alone g c = c.in_ok-stat.ensures.looks.looks.alone
