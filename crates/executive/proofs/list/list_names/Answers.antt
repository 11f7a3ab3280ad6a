use Rattle.std.proofs.Common.{◌-◌, Ok, ap, ◌∙◌}
use Rattle.dir_slots.specs.Items.{items_of}
use Rattle.disk_records.specs.Tapes.{pack}
use Rattle.exec_words.specs.Texts.{list_text}
use Rattle.exec_words.specs.declared.line.Line.TheVariants as line
use Rattle.exec_session.specs.Meant.{replied}
use Rattle.exec_session.proofs.Looking.{stays_looked}
use Rattle.exec_session.proofs.TakingUp.{few_none}
use Rattle.executive.proofs.Answering.{list_reads, passes_memory, passes_stop, reading_turns}
use Rattle.executive.proofs.Names.{names_among}
use Rattle.exec_session.proofs.Causing.{cause_passed}
use Rattle.exec_session.specs.declared.stop.Stop.TheVariants as stop
use Rattle.executive.proofs.list.list_names.Goals as goal

pub returns-in_err-slots-clause-turns : goal.returns-in_err-slots-clause-turns
returns-in_err-slots-clause-turns g c = λ told.
    let old = g.D.Tape.tape c.args.disk.now in
    let new = g.D.Tape.tape c.find_slots.new.disk in
    let l = line.ListNames c.args.dir.now in
    reading_turns old new c.args.session.now c.find_slots.new.session l c.from_residual.result (list_reads c.args.dir.now) told c.requires.obeys c.find_slots.ensures.looks
    (λ sound. passes_stop (pack old) l (λ slots. list_text (names_among (items_of slots.items))) (λ v. v.items) c.in_err-slots.field-0.0 c.from_residual.result c.from_residual.ensures.1 (c.in_err-slots.ensures.reads told sound))
    (λ u keeping handy none. few_none l (λ p m n. tt) (pack old) u.model (replied c.from_residual.result) (new.runs - old.runs))

pub returns-clause-turns : goal.returns-clause-turns
returns-clause-turns g c = λ told.
    let old = g.D.Tape.tape c.args.disk.now in
    let new = g.D.Tape.tape c.find_slots.new.disk in
    let l = line.ListNames c.args.dir.now in
    reading_turns old new c.args.session.now c.find_slots.new.session l (Ok c.in_ok-slots_text.field-0) (list_reads c.args.dir.now) told c.requires.obeys c.find_slots.ensures.looks
    (λ sound w taken.
    let said = (c.in_ok-slots.ensures.reads told sound w taken).said in
    record {
      said = record { unrefused = said.unrefused; text_is = c.in_ok-slots_text.ensures ∙ ap (λ s. list_text (names_among (items_of s))) c.deref.ensures.value ∙ said.text_is };
      refused = tt;
      misled = tt;
    })
    (λ u keeping handy none. few_none l (λ p m n. tt) (pack old) u.model (replied (Ok c.in_ok-slots_text.field-0)) (new.runs - old.runs))

pub returns-in_err-slots-clause-stays : goal.returns-in_err-slots-clause-stays
returns-in_err-slots-clause-stays g c = stays_looked (g.D.Tape.tape c.args.disk.now) (g.D.Tape.tape c.find_slots.new.disk) c.find_slots.ensures.looks.looked c.find_slots.ensures.looks.looks.alone.grown.form c.requires.obeys.formed

pub returns-clause-stays : goal.returns-clause-stays
returns-clause-stays g c = stays_looked (g.D.Tape.tape c.args.disk.now) (g.D.Tape.tape c.find_slots.new.disk) c.find_slots.ensures.looks.looked c.find_slots.ensures.looks.looks.alone.grown.form c.requires.obeys.formed

pub returns-in_err-slots_text-clause-turns : goal.returns-in_err-slots_text-clause-turns
returns-in_err-slots_text-clause-turns g c = λ told.
    let old = g.D.Tape.tape c.args.disk.now in
    let new = g.D.Tape.tape c.find_slots.new.disk in
    let l = line.ListNames c.args.dir.now in
    reading_turns old new c.args.session.now c.find_slots.new.session l c.from_residual-in_err-slots_text.result (list_reads c.args.dir.now) told c.requires.obeys c.find_slots.ensures.looks
    (λ sound. passes_memory (pack old) l (λ v. v.items) c.from_residual-in_err-slots_text.result c.from_residual-in_err-slots_text.ensures.1)
    (λ u keeping handy none. few_none l (λ p m n. tt) (pack old) u.model (replied c.from_residual-in_err-slots_text.result) (new.runs - old.runs))

pub returns-in_err-slots_text-clause-stays : goal.returns-in_err-slots_text-clause-stays
returns-in_err-slots_text-clause-stays g c = stays_looked (g.D.Tape.tape c.args.disk.now) (g.D.Tape.tape c.find_slots.new.disk) c.find_slots.ensures.looks.looked c.find_slots.ensures.looks.looks.alone.grown.form c.requires.obeys.formed

pub returns-in_err-slots-clause-silent : goal.returns-in_err-slots-clause-silent
returns-in_err-slots-clause-silent g c = c.in_err-slots.ensures.looks.looks.silent

pub returns-in_err-slots-clause-cause : goal.returns-in_err-slots-clause-cause
returns-in_err-slots-clause-cause g c = cause_passed (g.D.Tape.tape c.args.disk.now) (g.D.Tape.tape c.find_slots.new.disk) c.in_err-slots.field-0.0 c.from_residual.result c.from_residual.ensures.1 c.in_err-slots.ensures.cause

pub returns-in_err-slots-clause-alone : goal.returns-in_err-slots-clause-alone
returns-in_err-slots-clause-alone g c = c.in_err-slots.ensures.looks.looks.alone

pub returns-in_err-slots_text-clause-silent : goal.returns-in_err-slots_text-clause-silent
returns-in_err-slots_text-clause-silent g c = c.in_ok-slots.ensures.looks.looks.silent

pub returns-in_err-slots_text-clause-cause : goal.returns-in_err-slots_text-clause-cause
returns-in_err-slots_text-clause-cause g c = cause_passed (g.D.Tape.tape c.args.disk.now) (g.D.Tape.tape c.find_slots.new.disk) stop.Memory c.from_residual-in_err-slots_text.result c.from_residual-in_err-slots_text.ensures.1 c.in_ok-slots.ensures.cause

pub returns-in_err-slots_text-clause-alone : goal.returns-in_err-slots_text-clause-alone
returns-in_err-slots_text-clause-alone g c = c.in_ok-slots.ensures.looks.looks.alone

pub returns-clause-silent : goal.returns-clause-silent
returns-clause-silent g c = c.in_ok-slots.ensures.looks.looks.silent

pub returns-clause-cause : goal.returns-clause-cause
returns-clause-cause g c = c.in_ok-slots.ensures.cause

pub returns-clause-alone : goal.returns-clause-alone
returns-clause-alone g c = c.in_ok-slots.ensures.looks.looks.alone
