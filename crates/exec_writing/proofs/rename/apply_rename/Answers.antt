use Rattle.std.proofs.Common.{Result, Vec, get_or, ℕ, List, Some, refl, subst, sym, ap, [], ◌≡◌, ◌∙◌, length}
use Rattle.disk_records.proofs.Growing.{alone_here, alone_twice, nothing_added}
use Rattle.disk_records.proofs.Framing.{usable_looks, usable_twice}
use Rattle.disk_records.specs.Tapes.{pack, added}
use Rattle.std.specs.declared.alloc.Global.{Global}
use Rattle.exec_words.specs.declared.line.Line.TheVariants as line
use Rattle.exec_words.specs.declared.reply.Refusal.TheVariants as refusal
use Rattle.session_model.specs.Keeping.{world_of}
use Rattle.session_model.specs.Refusals.{is_streamed}
use Rattle.exec_session.proofs.Stopping.{error_is}
use Rattle.exec_session.specs.Meant.{kept}
use Rattle.exec_session.specs.declared.stop.Stop.{Stop}
use Rattle.exec_steps.specs.Midway.{StepsOn}
use Rattle.exec_writing.specs.Plans.{MayRename, renamed}
use Rattle.exec_writing.specs.Writes.{WritesLine}
use Rattle.exec_writing.proofs.Ends.{begins_sound}
use Rattle.exec_steps.proofs.Frames.{works_here, works_reserved, works_twice, cause_after, cause_passed, if_refused, never_refused}
use Rattle.exec_writing.proofs.RenameLine.{asks, enough_as_planned, files, mark_stops, may, renaming_ends, reserved_as_planned, reserving_stops, streams_stop}
use Rattle.exec_session.proofs.LookedBefore.{same_count}
use Rattle.exec_session.proofs.Causing.{cause_refused, cause_sooner}
use Rattle.exec_session.proofs.OrdinaryFiles.{by_test, ok_test}
use Rattle.exec_writing.proofs.NewSectors.{refused_then}
use Rattle.exec_writing.proofs.Required.{shape_worked, sized_worked}
use Rattle.exec_session.proofs.Framing.{usable_looked}
use Rattle.exec_writing.proofs.rename.apply_rename.Goals as goal

pub open_mark-requires : goal.open_mark-requires
open_mark-requires g c =
    let e = c.in_ok-fresh.ensures in
    record { shape = shape_worked (g.D.Tape.tape c.args.disk.now) (g.D.Tape.tape c.reserve_pages.new.disk) (works_reserved e.same e.sized) e.looks.alone c.requires.shape }

pub rename_entry-requires-clause-shape : goal.rename_entry-requires-clause-shape
rename_entry-requires-clause-shape g c =
    let e = c.in_ok-fresh.ensures in
    let o = c.in_ok-open_mark.ensures in
    shape_worked (g.D.Tape.tape c.args.disk.now) (g.D.Tape.tape c.open_mark.new.disk) (works_twice (works_reserved e.same e.sized) o.works) (alone_twice e.looks.alone o.alone) c.requires.shape

pub rename_entry-requires-clause-sized : goal.rename_entry-requires-clause-sized
rename_entry-requires-clause-sized g c =
    let e = c.in_ok-fresh.ensures in
    let o = c.in_ok-open_mark.ensures in
    sized_worked (g.D.Tape.tape c.args.disk.now) (g.D.Tape.tape c.open_mark.new.disk) (works_twice (works_reserved e.same e.sized) o.works) (alone_twice e.looks.alone o.alone) c.requires.sized

pub rename_entry-requires-clause-number : goal.rename_entry-requires-clause-number
rename_entry-requires-clause-number g c = ap length c.deref.ensures.value ∙ (reserved_as_planned c.args.plan.now.entry c.pages.result _ _ c.in_ok-fresh.fresh.items c.pages.ensures c.in_ok-fresh.ensures.reserved).count

-- ---- an open stream has the file
pub returns-in_err-refuse_streamed-clause-writes : goal.returns-in_err-refuse_streamed-clause-writes
returns-in_err-refuse_streamed-clause-writes g c = λ s old new told begins is.
    let a = g.D.Tape.tape c.args.disk.now in
    let s0 = c.args.session.now in
    subst (λ (r : Result (Unit {0}) Stop). WritesLine a a (kept s0) (kept s0) s (line.Rename old new) r) (sym (error_is c.from_residual.result c.from_residual.ensures.1))
    (streams_stop a s0 s old new c.args.plan.now c.in_err-refuse_streamed.field-0.0 begins is c.in_err-refuse_streamed.ensures)

pub returns-in_err-refuse_streamed-clause-unwritten : goal.returns-in_err-refuse_streamed-clause-unwritten
returns-in_err-refuse_streamed-clause-unwritten g c = λ told. if_refused (added (g.D.Tape.tape c.args.disk.now) (g.D.Tape.tape c.args.disk.now) ≡ []) c.from_residual.result (nothing_added (g.D.Tape.tape c.args.disk.now).events)

pub returns-in_err-refuse_streamed-clause-works : goal.returns-in_err-refuse_streamed-clause-works
returns-in_err-refuse_streamed-clause-works g c = works_here c.args.session.now

pub returns-in_err-refuse_streamed-clause-cause : goal.returns-in_err-refuse_streamed-clause-cause
returns-in_err-refuse_streamed-clause-cause g c =
    cause_refused (g.D.Tape.tape c.args.disk.now) (g.D.Tape.tape c.args.disk.now) c.in_err-refuse_streamed.field-0.0 refusal.StreamsOpen c.from_residual.result c.from_residual.ensures.1
    (by_test (is_streamed (world_of (kept c.args.session.now)) (Some c.args.plan.now.found.file.fid)) c.in_err-refuse_streamed.field-0.0 refusal.StreamsOpen c.in_err-refuse_streamed.ensures).1 refl

pub returns-in_err-refuse_streamed-clause-alone : goal.returns-in_err-refuse_streamed-clause-alone
returns-in_err-refuse_streamed-clause-alone g c = alone_here (g.D.Tape.tape c.args.disk.now)

-- ---- the sectors aren't reserved
pub returns-in_err-fresh-clause-writes : goal.returns-in_err-fresh-clause-writes
returns-in_err-fresh-clause-writes g c = λ s old new told begins is.
    let a = g.D.Tape.tape c.args.disk.now in
    let b = g.D.Tape.tape c.reserve_pages.new.disk in
    let s0 = c.args.session.now in
    let s1 = c.reserve_pages.new.session in
    let e = c.in_err-fresh.ensures in
    let sound = begins_sound begins in
    let none = ok_test (is_streamed (world_of (kept s0)) (Some c.args.plan.now.found.file.fid)) c.in_ok-refuse_streamed.field-0 refusal.StreamsOpen c.in_ok-refuse_streamed.ensures in
    subst (λ (r : Result (Unit {0}) Stop). WritesLine a b (kept s0) (kept s1) s (line.Rename old new) r) (sym (error_is c.from_residual-in_err-fresh.result c.from_residual-in_err-fresh.ensures.1))
    (reserving_stops a b s0 s1 s old new c.args.plan.now begins is none e.looks.alone (e.looks.silent told) e.same (Vec ℕ Global) c.pages.result c.in_err-fresh.field-0.0 c.pages.ensures (e.stays_true told sound) (e.full told sound) e.never_misled)

pub returns-in_err-open_mark-clause-alone : goal.returns-in_err-open_mark-clause-alone
returns-in_err-open_mark-clause-alone g c = alone_twice c.in_ok-fresh.ensures.looks.alone c.in_err-open_mark.ensures.alone

pub returns-in_err-open_mark-clause-frame : goal.returns-in_err-open_mark-clause-frame
returns-in_err-open_mark-clause-frame g c = usable_looked c.in_ok-fresh.ensures.looks c.in_err-open_mark.ensures.alone c.in_err-open_mark.ensures.frame

pub returns-clause-alone : goal.returns-clause-alone
returns-clause-alone g c = alone_twice c.in_ok-fresh.ensures.looks.alone (alone_twice c.in_ok-open_mark.ensures.alone c.rename_entry.ensures.alone)

pub returns-clause-frame : goal.returns-clause-frame
returns-clause-frame g c = usable_looked c.in_ok-fresh.ensures.looks (alone_twice c.in_ok-open_mark.ensures.alone c.rename_entry.ensures.alone) (usable_twice c.in_ok-open_mark.ensures.alone c.rename_entry.ensures.alone c.in_ok-open_mark.ensures.frame c.rename_entry.ensures.frame)

pub returns-in_err-open_mark-clause-writes : goal.returns-in_err-open_mark-clause-writes
returns-in_err-open_mark-clause-writes g c = λ s old new told begins is.
    let a = g.D.Tape.tape c.args.disk.now in
    let b = g.D.Tape.tape c.reserve_pages.new.disk in
    let d = g.D.Tape.tape c.open_mark.new.disk in
    let s0 = c.args.session.now in
    let s1 = c.reserve_pages.new.session in
    let s2 = c.open_mark.new.session in
    let plan = c.args.plan.now in
    let fresh = c.in_ok-fresh.fresh.items in
    let e = c.in_ok-fresh.ensures in
    let h = c.in_err-open_mark.ensures in
    let sound = begins_sound begins in
    let none = ok_test (is_streamed (world_of (kept s0)) (Some c.args.plan.now.found.file.fid)) c.in_ok-refuse_streamed.field-0 refusal.StreamsOpen c.in_ok-refuse_streamed.ensures in
    let silent = e.looks.silent told in
    let writes = same_count a b e.looks.alone silent (g.met.D.Disk.counted c.args.disk.now told) (g.met.D.Disk.counted c.reserve_pages.new.disk told) in
    let reserved = reserved_as_planned plan.entry c.pages.result _ s1.hints.table fresh c.pages.ensures e.reserved in
    let enough = enough_as_planned (pack a) plan.entry c.pages.result c.pages.ensures (e.enough told sound) in
    let m = may a b s0 s1 s old new plan begins is none e.looks.alone silent e.same writes fresh _ reserved (e.free told) enough (e.table told sound) in
    subst (λ (r : Result (Unit {0}) Stop). WritesLine a d (kept s0) (kept s2) s (line.Rename old new) r) (sym (error_is c.from_residual-in_err-open_mark.result c.from_residual-in_err-open_mark.ensures.1))
    (mark_stops a b s0 s1 s old new plan begins is none e.looks.alone silent e.same writes fresh _ reserved (e.free told) enough (e.table told sound)
    d s2 c.in_err-open_mark.field-0.0 (works_twice (works_reserved e.same e.sized) h.works) h.alone h.unrefused (h.starts (kept s0) (get_or s0.descriptor.pages 0 0) fresh told m.start))

pub returns-clause-writes : goal.returns-clause-writes
returns-clause-writes g c = λ s old new told begins is.
    let a = g.D.Tape.tape c.args.disk.now in
    let b = g.D.Tape.tape c.reserve_pages.new.disk in
    let d = g.D.Tape.tape c.open_mark.new.disk in
    let z = g.D.Tape.tape c.rename_entry.new.disk in
    let s0 = c.args.session.now in
    let s1 = c.reserve_pages.new.session in
    let s2 = c.open_mark.new.session in
    let s3 = c.rename_entry.new.session in
    let plan = c.args.plan.now in
    let fresh = c.in_ok-fresh.fresh.items in
    let e = c.in_ok-fresh.ensures in
    let h = c.in_ok-open_mark.ensures in
    let w = c.rename_entry.ensures in
    let sound = begins_sound begins in
    let none = ok_test (is_streamed (world_of (kept s0)) (Some c.args.plan.now.found.file.fid)) c.in_ok-refuse_streamed.field-0 refusal.StreamsOpen c.in_ok-refuse_streamed.ensures in
    let silent = e.looks.silent told in
    let writes = same_count a b e.looks.alone silent (g.met.D.Disk.counted c.args.disk.now told) (g.met.D.Disk.counted c.reserve_pages.new.disk told) in
    let reserved = reserved_as_planned plan.entry c.pages.result _ s1.hints.table fresh c.pages.ensures e.reserved in
    let enough = enough_as_planned (pack a) plan.entry c.pages.result c.pages.ensures (e.enough told sound) in
    let m = may a b s0 s1 s old new plan begins is none e.looks.alone silent e.same writes fresh _ reserved (e.free told) enough (e.table told sound) in
    let started = h.starts (kept s0) (get_or s0.descriptor.pages 0 0) fresh told m.start in
    let there = asks a b s0 s1 s old new plan begins is none e.looks.alone silent e.same writes fresh _ reserved (e.free told) enough (e.table told sound) d s2 c.in_ok-open_mark.field-0 started in
    renaming_ends a b s0 s1 s old new plan begins is none e.looks.alone silent e.same writes fresh _ reserved (e.free told) enough (e.table told sound) d s2 c.in_ok-open_mark.field-0 started
    z s3 c.rename_entry.result (works_twice (works_reserved e.same e.sized) (works_twice h.works w.works)) (alone_twice h.alone w.alone) w.unrefused (subst (λ (l : List ℕ). MayRename (pack d) plan l → StepsOn d z (kept s2) (kept s3) (renamed plan) l (files (pack a) old new plan is) c.rename_entry.result) c.deref.ensures.value (w.steps told) there)

pub returns-in_err-fresh-clause-unwritten : goal.returns-in_err-fresh-clause-unwritten
returns-in_err-fresh-clause-unwritten g c = λ told. if_refused (added (g.D.Tape.tape c.args.disk.now) (g.D.Tape.tape c.reserve_pages.new.disk) ≡ []) c.from_residual-in_err-fresh.result (c.in_err-fresh.ensures.looks.silent told)

pub returns-in_err-fresh-clause-works : goal.returns-in_err-fresh-clause-works
returns-in_err-fresh-clause-works g c = works_reserved c.in_err-fresh.ensures.same c.in_err-fresh.ensures.sized

pub returns-in_err-fresh-clause-cause : goal.returns-in_err-fresh-clause-cause
returns-in_err-fresh-clause-cause g c = cause_passed (g.D.Tape.tape c.args.disk.now) (g.D.Tape.tape c.reserve_pages.new.disk) c.in_err-fresh.field-0.0 c.from_residual-in_err-fresh.result c.from_residual-in_err-fresh.ensures.1 c.in_err-fresh.ensures.cause

pub returns-in_err-fresh-clause-alone : goal.returns-in_err-fresh-clause-alone
returns-in_err-fresh-clause-alone g c = c.in_err-fresh.ensures.looks.alone

pub returns-in_err-fresh-clause-frame : goal.returns-in_err-fresh-clause-frame
returns-in_err-fresh-clause-frame g c = usable_looks c.in_err-fresh.ensures.looks

pub returns-in_err-open_mark-clause-unwritten : goal.returns-in_err-open_mark-clause-unwritten
returns-in_err-open_mark-clause-unwritten g c =
    λ told. never_refused (Unit {0}) (λ x. added (g.D.Tape.tape c.args.disk.now) (g.D.Tape.tape c.open_mark.new.disk) ≡ []) c.in_err-open_mark.field-0.0 c.from_residual-in_err-open_mark.result c.from_residual-in_err-open_mark.ensures.1 c.in_err-open_mark.ensures.unrefused

pub returns-in_err-open_mark-clause-works : goal.returns-in_err-open_mark-clause-works
returns-in_err-open_mark-clause-works g c = works_twice (works_reserved c.in_ok-fresh.ensures.same c.in_ok-fresh.ensures.sized) c.in_err-open_mark.ensures.works

pub returns-in_err-open_mark-clause-cause : goal.returns-in_err-open_mark-clause-cause
returns-in_err-open_mark-clause-cause g c =
    cause_after (g.D.Tape.tape c.args.disk.now) (g.D.Tape.tape c.reserve_pages.new.disk) (g.D.Tape.tape c.open_mark.new.disk) c.in_err-open_mark.field-0.0 c.from_residual-in_err-open_mark.result c.from_residual-in_err-open_mark.ensures.1 c.in_ok-fresh.ensures.cause c.in_err-open_mark.ensures.cause

pub returns-clause-unwritten : goal.returns-clause-unwritten
returns-clause-unwritten g c = λ told. refused_then (λ r. ⊥) (λ r. added (g.D.Tape.tape c.args.disk.now) (g.D.Tape.tape c.rename_entry.new.disk) ≡ []) c.rename_entry.result (λ r none. absurd none) c.rename_entry.ensures.unrefused

pub returns-clause-works : goal.returns-clause-works
returns-clause-works g c = works_twice (works_twice (works_reserved c.in_ok-fresh.ensures.same c.in_ok-fresh.ensures.sized) c.in_ok-open_mark.ensures.works) c.rename_entry.ensures.works

pub returns-clause-cause : goal.returns-clause-cause
returns-clause-cause g c =
    cause_sooner (g.D.Tape.tape c.args.disk.now) (g.D.Tape.tape c.open_mark.new.disk) (g.D.Tape.tape c.rename_entry.new.disk) c.rename_entry.result (c.in_ok-open_mark.ensures.cause ∙ c.in_ok-fresh.ensures.cause) c.rename_entry.ensures.cause
