use Rattle.std.proofs.Common.{◌-◌, Ok, ◌∙◌, ap, sym, subst}
use Rattle.disk_records.specs.Tapes.{pack}
use Rattle.exec_words.specs.Texts.{type_text}
use Rattle.exec_words.specs.declared.line.Line.TheVariants as line
use Rattle.exec_session.specs.Meant.{IsTakenUpBy}
use Rattle.exec_session.specs.declared.stop.Stop.TheVariants as stop
use Rattle.exec_session.proofs.Looking.{stays_looked}
use Rattle.exec_session.proofs.TakingUp.{need_none}
use Rattle.executive.proofs.Answering.{passes_memory, passes_stop, reading_turns, type_reads}
use Rattle.executive.proofs.Passing.{few_stopped, type_few}
use Rattle.exec_session.proofs.Causing.{cause_passed}
use Rattle.executive.proofs.type_out.type_file.Goals as goal

pub returns-in_err-bytes-clause-turns : goal.returns-in_err-bytes-clause-turns
returns-in_err-bytes-clause-turns g c = λ told.
    let old = g.D.Tape.tape c.args.disk.now in
    let new = g.D.Tape.tape c.find_bytes.new.disk in
    let l = line.TypeOut c.args.target.now in
    reading_turns old new c.args.session.now c.find_bytes.new.session l c.from_residual.result (type_reads c.args.target.now) told c.requires.obeys c.find_bytes.ensures.looks
    (λ sound. passes_stop (pack old) l (λ bytes. type_text bytes.items) (λ v. v.items) c.in_err-bytes.field-0.0 c.from_residual.result c.from_residual.ensures.1 (c.in_err-bytes.ensures.reads told sound))
    (λ u keeping handy none. few_stopped (pack old) u.model l c.in_err-bytes.field-0.0 c.from_residual.result (new.runs - old.runs) c.from_residual.ensures.1)

pub returns-in_err-type_text-clause-turns : goal.returns-in_err-type_text-clause-turns
returns-in_err-type_text-clause-turns g c = λ told.
    let old = g.D.Tape.tape c.args.disk.now in
    let new = g.D.Tape.tape c.find_bytes.new.disk in
    let l = line.TypeOut c.args.target.now in
    reading_turns old new c.args.session.now c.find_bytes.new.session l c.from_residual-in_err-type_text.result (type_reads c.args.target.now) told c.requires.obeys c.find_bytes.ensures.looks
    (λ sound. passes_memory (pack old) l (λ v. v.items) c.from_residual-in_err-type_text.result c.from_residual-in_err-type_text.ensures.1)
    (λ u keeping handy none. few_stopped (pack old) u.model l stop.Memory c.from_residual-in_err-type_text.result (new.runs - old.runs) c.from_residual-in_err-type_text.ensures.1)

pub returns-clause-turns : goal.returns-clause-turns
returns-clause-turns g c = λ told.
    let old = g.D.Tape.tape c.args.disk.now in
    let new = g.D.Tape.tape c.find_bytes.new.disk in
    let target = c.args.target.now in
    let l = line.TypeOut target in
    reading_turns old new c.args.session.now c.find_bytes.new.session l (Ok c.in_ok-type_text.field-0) (type_reads target) told c.requires.obeys c.find_bytes.ensures.looks
    (λ sound w taken.
    let said = (c.in_ok-bytes.ensures.reads told sound w taken).said in
    record { said = record { unrefused = said.unrefused; text_is = c.in_ok-type_text.ensures ∙ ap type_text c.deref.ensures.value ∙ said.text_is }; refused = tt; misled = tt })
    (λ u keeping handy none.
    let taken = subst (λ w. IsTakenUpBy w l) (sym keeping.world) c.requires.obeys.taken_up in
    type_few old new c.args.session.now c.find_bytes.new.session u target c.in_ok-type_text.field-0.items (keeping.stands.reads (need_none l u.world (type_reads target).needs taken)) taken
    (λ path is all. c.in_ok-bytes.ensures.quick path told is all) handy none)

pub returns-in_err-bytes-clause-stays : goal.returns-in_err-bytes-clause-stays
returns-in_err-bytes-clause-stays g c = stays_looked (g.D.Tape.tape c.args.disk.now) (g.D.Tape.tape c.find_bytes.new.disk) c.find_bytes.ensures.looks.looked c.find_bytes.ensures.looks.looks.alone.grown.form c.requires.obeys.formed

pub returns-in_err-type_text-clause-stays : goal.returns-in_err-type_text-clause-stays
returns-in_err-type_text-clause-stays g c = stays_looked (g.D.Tape.tape c.args.disk.now) (g.D.Tape.tape c.find_bytes.new.disk) c.find_bytes.ensures.looks.looked c.find_bytes.ensures.looks.looks.alone.grown.form c.requires.obeys.formed

pub returns-clause-stays : goal.returns-clause-stays
returns-clause-stays g c = stays_looked (g.D.Tape.tape c.args.disk.now) (g.D.Tape.tape c.find_bytes.new.disk) c.find_bytes.ensures.looks.looked c.find_bytes.ensures.looks.looks.alone.grown.form c.requires.obeys.formed

pub returns-in_err-bytes-clause-silent : goal.returns-in_err-bytes-clause-silent
returns-in_err-bytes-clause-silent g c = c.in_err-bytes.ensures.looks.looks.silent

pub returns-in_err-bytes-clause-cause : goal.returns-in_err-bytes-clause-cause
returns-in_err-bytes-clause-cause g c = cause_passed (g.D.Tape.tape c.args.disk.now) (g.D.Tape.tape c.find_bytes.new.disk) c.in_err-bytes.field-0.0 c.from_residual.result c.from_residual.ensures.1 c.in_err-bytes.ensures.cause

pub returns-in_err-bytes-clause-alone : goal.returns-in_err-bytes-clause-alone
returns-in_err-bytes-clause-alone g c = c.in_err-bytes.ensures.looks.looks.alone

pub returns-in_err-type_text-clause-silent : goal.returns-in_err-type_text-clause-silent
returns-in_err-type_text-clause-silent g c = c.in_ok-bytes.ensures.looks.looks.silent

pub returns-in_err-type_text-clause-cause : goal.returns-in_err-type_text-clause-cause
returns-in_err-type_text-clause-cause g c = cause_passed (g.D.Tape.tape c.args.disk.now) (g.D.Tape.tape c.find_bytes.new.disk) stop.Memory c.from_residual-in_err-type_text.result c.from_residual-in_err-type_text.ensures.1 c.in_ok-bytes.ensures.cause

pub returns-in_err-type_text-clause-alone : goal.returns-in_err-type_text-clause-alone
returns-in_err-type_text-clause-alone g c = c.in_ok-bytes.ensures.looks.looks.alone

pub returns-clause-silent : goal.returns-clause-silent
returns-clause-silent g c = c.in_ok-bytes.ensures.looks.looks.silent

pub returns-clause-cause : goal.returns-clause-cause
returns-clause-cause g c = c.in_ok-bytes.ensures.cause

pub returns-clause-alone : goal.returns-clause-alone
returns-clause-alone g c = c.in_ok-bytes.ensures.looks.looks.alone
