use Rattle.std.proofs.Common.{◌≡◌, ◌≤◌, ◌<◌, ◌+◌, ◌-◌, ℕ, Some, min, nat_le, Err, refl, sym, subst, ap, ◌∙◌}
use Rattle.disk_records.proofs.Looking.{looks_none}
use Rattle.disk_records.specs.Addresses.{pages_of}
use Rattle.disk_records.specs.Tapes.{pack}
use Rattle.exec_words.specs.declared.reply.Refusal.TheVariants as refusal
use Rattle.pack_model.specs.reading.Model.{read_as, room}
use Rattle.session_model.specs.Refusals.{most_serials}
use Rattle.exec_session.proofs.Causing.{cause_refused}
use Rattle.exec_session.proofs.OrdinaryFiles.{by_test, ok_test}
use Rattle.exec_session.proofs.Parts.{ok_of_error}
use Rattle.exec_steps.proofs.SectorTaking.{on_err}
use Rattle.exec_session.proofs.Stopping.{error_is, refused_as}
use Rattle.exec_session.specs.Meant.{IfHint}
use Rattle.exec_steps.specs.Rooms.{pages_planned}
use Rattle.exec_writing.proofs.NewPlaces.{if_ok_then}
use Rattle.exec_writing.proofs.NewSectors.{below_most, full_refused, nothing_refused, on_ok, refused_then, serials_spent}
use Rattle.exec_writing.proofs.Required.{asked_most, reserved_asked}
use Rattle.exec_writing.specs.Entries.{new_refusal}
use Rattle.exec_writing.proofs.reserving.reserve_new.Goals as goal

-- ---- no serial is left
pub returns-in_err-require_serial-clause-refused : goal.returns-in_err-require_serial-clause-refused
returns-in_err-require_serial-clause-refused g c = λ told sound.
    let last = c.args.session.now.descriptor.last in
    let free = room (read_as (pack (g.D.Tape.tape c.args.disk.now))) in
    let pages = pages_planned c.args.entry.now + 2 + c.args.more in
    let t = by_test (nat_le most_serials last) c.in_err-require_serial.field-0.0 (refusal.SerialsSpent last) c.in_err-require_serial.ensures in
    refused_as (λ r. new_refusal last pages free ≡ Some r) c.from_residual.result (refusal.SerialsSpent last) (error_is c.from_residual.result c.from_residual.ensures.1 ∙ ap Err t.1) (serials_spent last pages free t.0)

pub returns-in_err-require_serial-clause-looks : goal.returns-in_err-require_serial-clause-looks
returns-in_err-require_serial-clause-looks g c = looks_none (pages_of (g.D.Tape.tape c.args.disk.now).form - 1) (g.D.Tape.tape c.args.disk.now)

pub returns-in_err-require_serial-clause-left : goal.returns-in_err-require_serial-clause-left
returns-in_err-require_serial-clause-left g c = ok_of_error _ _ c.from_residual.result c.from_residual.ensures.1

pub returns-in_err-require_serial-clause-reserved : goal.returns-in_err-require_serial-clause-reserved
returns-in_err-require_serial-clause-reserved g c = ok_of_error _ _ c.from_residual.result c.from_residual.ensures.1

pub returns-in_err-require_serial-clause-free : goal.returns-in_err-require_serial-clause-free
returns-in_err-require_serial-clause-free g c = λ told. ok_of_error _ _ c.from_residual.result c.from_residual.ensures.1

pub returns-in_err-require_serial-clause-enough : goal.returns-in_err-require_serial-clause-enough
returns-in_err-require_serial-clause-enough g c = λ told sound. ok_of_error _ _ c.from_residual.result c.from_residual.ensures.1

pub returns-in_err-require_serial-clause-never_misled : goal.returns-in_err-require_serial-clause-never_misled
returns-in_err-require_serial-clause-never_misled g c =
    let last = c.args.session.now.descriptor.last in
    let t = by_test (nat_le most_serials last) c.in_err-require_serial.field-0.0 (refusal.SerialsSpent last) c.in_err-require_serial.ensures in
    subst (λ r. IfHint r (λ place at wanted found. ⊥)) (sym (error_is c.from_residual.result c.from_residual.ensures.1 ∙ ap Err t.1)) tt

pub returns-in_err-require_serial-clause-table : goal.returns-in_err-require_serial-clause-table
returns-in_err-require_serial-clause-table g c = λ told sound table. ok_of_error _ _ c.from_residual.result c.from_residual.ensures.1

pub returns-in_err-require_serial-clause-stays_true : goal.returns-in_err-require_serial-clause-stays_true
returns-in_err-require_serial-clause-stays_true g c = λ told sound table. on_err c.from_residual.result table

pub returns-in_err-require_serial-clause-sized : goal.returns-in_err-require_serial-clause-sized
returns-in_err-require_serial-clause-sized g c = refl

pub returns-in_err-require_serial-clause-cause : goal.returns-in_err-require_serial-clause-cause
returns-in_err-require_serial-clause-cause g c =
    let t = g.D.Tape.tape c.args.disk.now in
    let last = c.args.session.now.descriptor.last in
    cause_refused t t c.in_err-require_serial.field-0.0 (refusal.SerialsSpent last) c.from_residual.result c.from_residual.ensures.1 (by_test (nat_le most_serials last) c.in_err-require_serial.field-0.0 (refusal.SerialsSpent last) c.in_err-require_serial.ensures).1 refl

pub returns-in_err-require_serial-clause-same : goal.returns-in_err-require_serial-clause-same
returns-in_err-require_serial-clause-same g c = refl

-- ---- there is one
pub returns-clause-left : goal.returns-clause-left
returns-clause-left g c =
    let last = c.args.session.now.descriptor.last in
    on_ok c.reserve_pages.result (below_most last (ok_test (nat_le most_serials last) c.in_ok-require_serial.field-0 (refusal.SerialsSpent last) c.in_ok-require_serial.ensures))

pub returns-clause-reserved : goal.returns-clause-reserved
returns-clause-reserved g c = if_ok_then c.reserve_pages.result (λ fresh h. reserved_asked c.args.entry.now c.pages.result c.args.more _ _ fresh.items c.pages.ensures c.requires.most h) c.reserve_pages.ensures.reserved

pub returns-clause-free : goal.returns-clause-free
returns-clause-free g c = c.reserve_pages.ensures.free

pub returns-clause-enough : goal.returns-clause-enough
returns-clause-enough g c = λ told sound.
    let last = c.args.session.now.descriptor.last in
    let free = room (read_as (pack (g.D.Tape.tape c.args.disk.now))) in
    let left = ok_test (nat_le most_serials last) c.in_ok-require_serial.field-0 (refusal.SerialsSpent last) c.in_ok-require_serial.ensures in
    if_ok_then c.reserve_pages.result (λ fresh h. nothing_refused last (pages_planned c.args.entry.now + 2 + c.args.more) free left (subst (λ (n : ℕ). n + 2 + c.args.more ≤ free) c.pages.ensures h)) (c.reserve_pages.ensures.enough told sound)

pub returns-clause-refused : goal.returns-clause-refused
returns-clause-refused g c = λ told sound.
    let last = c.args.session.now.descriptor.last in
    let more = c.args.more in
    let asked = c.pages.result + 2 + more in
    let pages = pages_planned c.args.entry.now + 2 + more in
    let free = room (read_as (pack (g.D.Tape.tape c.args.disk.now))) in
    let left = ok_test (nat_le most_serials last) c.in_ok-require_serial.field-0 (refusal.SerialsSpent last) c.in_ok-require_serial.ensures in
    refused_then (λ r. (r ≡ refusal.Full (min asked 65535) free) × (free < asked)) (λ r. new_refusal last pages free ≡ Some r) c.reserve_pages.result
    (λ r h. full_refused last pages free left (subst (λ (n : ℕ). free < n + 2 + more) c.pages.ensures h.1) ∙ ap Some (sym (h.0 ∙ ap (λ (n : ℕ). refusal.Full n free) (asked_most c.args.entry.now c.pages.result more c.pages.ensures c.requires.most))))
    (c.reserve_pages.ensures.full told sound)

pub returns-clause-never_misled : goal.returns-clause-never_misled
returns-clause-never_misled g c = c.reserve_pages.ensures.never_misled

pub returns-clause-table : goal.returns-clause-table
returns-clause-table g c = c.reserve_pages.ensures.table

pub returns-clause-stays_true : goal.returns-clause-stays_true
returns-clause-stays_true g c = c.reserve_pages.ensures.stays_true

pub returns-clause-sized : goal.returns-clause-sized
returns-clause-sized g c = c.reserve_pages.ensures.sized

pub returns-clause-cause : goal.returns-clause-cause
returns-clause-cause g c = c.reserve_pages.ensures.cause

pub returns-clause-same : goal.returns-clause-same
returns-clause-same g c = c.reserve_pages.ensures.same

pub returns-clause-looks : goal.returns-clause-looks
returns-clause-looks g c = c.reserve_pages.ensures.looks
