use Rattle.std.proofs.Common.{[], OnOk, true, false, refl, sym, subst, ◌≡◌, ◌∙◌}
use Rattle.disk_records.specs.Causes.{HasCause}
use Rattle.disk_records.specs.Tapes.{pack}
use Rattle.exec_words.specs.declared.reply.Refusal.TheVariants as refusal
use Rattle.page_seeking.specs.Refs.{MisledBy}
use Rattle.exec_session.proofs.Causing.{cause_passed}
use Rattle.exec_session.proofs.Looking.{hints_looked}
use Rattle.exec_session.proofs.Parts.{ok_of_error}
use Rattle.exec_session.specs.Meant.{IfHint, IfRefused}
use Rattle.exec_session.specs.Stops.{cause_of_stop, stop_of_list}
use Rattle.exec_writing.proofs.Causing.{list_cause}
use Rattle.exec_writing.proofs.DropFinding.{entries_of_slots, list_misled, list_unrefused}
use Rattle.exec_writing.specs.Dropping.{HasEntries}
use Rattle.exec_writing.proofs.rmdir.refuse_entries.Goals as goal

pub returns-in_err-slots-clause-refused : goal.returns-in_err-slots-clause-refused
returns-in_err-slots-clause-refused g c = λ told there. list_unrefused _ (g.D.Tape.tape c.args.disk.now) (g.D.Tape.tape c.list.new.disk) c.in_err-slots.field-0.0 c.from_residual.result c.from_residual.ensures.1 c.in_err-slots.ensures.cause

pub returns-in_err-slots-clause-misled : goal.returns-in_err-slots-clause-misled
returns-in_err-slots-clause-misled g c = λ told there. list_misled (Unit {0}) _ c.in_err-slots.field-0.0 c.from_residual.result c.from_residual.ensures.1 (c.in_err-slots.ensures.misled told there)

pub returns-in_err-slots-clause-looks : goal.returns-in_err-slots-clause-looks
returns-in_err-slots-clause-looks g c = hints_looked c.args.session.now c.list.new.hints c.list.ensures.looks c.list.ensures.table c.list.ensures.refused c.list.ensures.handy

pub returns-then-has_entry-clause-looks : goal.returns-then-has_entry-clause-looks
returns-then-has_entry-clause-looks g c = hints_looked c.args.session.now c.list.new.hints c.list.ensures.looks c.list.ensures.table c.list.ensures.refused c.list.ensures.handy

pub returns-clause-looks : goal.returns-clause-looks
returns-clause-looks g c = hints_looked c.args.session.now c.list.new.hints c.list.ensures.looks c.list.ensures.table c.list.ensures.refused c.list.ensures.handy

pub returns-in_err-slots-clause-empty : goal.returns-in_err-slots-clause-empty
returns-in_err-slots-clause-empty g c = λ told there. ok_of_error _ _ c.from_residual.result c.from_residual.ensures.1

pub returns-in_err-slots-clause-cause : goal.returns-in_err-slots-clause-cause
returns-in_err-slots-clause-cause g c =
    let a = g.D.Tape.tape c.args.disk.now in
    let b = g.D.Tape.tape c.list.new.disk in
    cause_passed a b (stop_of_list c.in_err-slots.field-0.0) c.from_residual.result c.from_residual.ensures.1 (list_cause a b c.in_err-slots.field-0.0 c.in_err-slots.ensures.cause)

pub returns-then-has_entry-clause-cause : goal.returns-then-has_entry-clause-cause
returns-then-has_entry-clause-cause g c = subst (HasCause cause_of_stop (g.D.Tape.tape c.args.disk.now) (g.D.Tape.tape c.list.new.disk)) (sym c.refused.ensures) c.in_ok-slots.ensures.cause

pub returns-then-has_entry-clause-misled : goal.returns-then-has_entry-clause-misled
returns-then-has_entry-clause-misled g c = λ told there. subst (λ r. IfHint r (MisledBy (pack (g.D.Tape.tape c.args.disk.now)) [] c.args.dir.now.fid)) (sym c.refused.ensures) tt

pub returns-clause-refused : goal.returns-clause-refused
returns-clause-refused g c = λ told there. tt

pub returns-clause-misled : goal.returns-clause-misled
returns-clause-misled g c = λ told there. tt

pub returns-clause-cause : goal.returns-clause-cause
returns-clause-cause g c = c.in_ok-slots.ensures.cause

pub returns-then-has_entry-clause-empty : goal.returns-then-has_entry-clause-empty
returns-then-has_entry-clause-empty g c = λ told there. subst (λ r. OnOk r (HasEntries (pack (g.D.Tape.tape c.args.disk.now)) c.args.dir.now.fid false)) (sym c.refused.ensures) tt

pub returns-then-has_entry-clause-refused : goal.returns-then-has_entry-clause-refused
returns-then-has_entry-clause-refused g c = λ told there.
    let p = pack (g.D.Tape.tape c.args.disk.now) in
    let d = c.args.dir.now.fid in
    subst (λ r. IfRefused r (λ x. (x ≡ refusal.NotEmpty) × HasEntries p d true)) (sym c.refused.ensures)
    (refl, entries_of_slots p d c.in_ok-slots.slots.items c.deref.result.now true (c.in_ok-slots.ensures.found told there) c.deref.ensures.value (sym c.has_entry.ensures ∙ c.if-has_entry.true))

pub returns-clause-empty : goal.returns-clause-empty
returns-clause-empty g c = λ told there.
    entries_of_slots (pack (g.D.Tape.tape c.args.disk.now)) c.args.dir.now.fid c.in_ok-slots.slots.items c.deref.result.now false (c.in_ok-slots.ensures.found told there) c.deref.ensures.value (sym c.has_entry.ensures ∙ c.if-has_entry.false)
