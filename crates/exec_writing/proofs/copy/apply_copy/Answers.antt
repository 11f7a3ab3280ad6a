use Rattle.std.proofs.Common.{All, None, Some, Vec, false, min, true, ◌∷◌, Err, IfOk, Result, [], List, ℕ, get_or, length, ◌+◌, ◌<◌, ◌≡◌, ◌/◌, ◌∙◌, ap, subst, sym}
use Rattle.disk_records.proofs.Framing.{usable_looks, usable_twice}
use Rattle.alto_words.specs.Fid.{sys_dir}
use Rattle.alto_words.specs.declared.fid.Fid.{Fid}
use Rattle.disk_records.proofs.Growing.{alone_twice, silent_twice}
use Rattle.disk_records.proofs.Looking.{looks_pack}
use Rattle.disk_records.specs.Addresses.{pages_of}
use Rattle.disk_records.specs.Packs.{is_free_at}
use Rattle.disk_records.specs.Tapes.{added, pack}
use Rattle.std.specs.declared.alloc.Global.{Global}
use Rattle.exec_words.specs.declared.line.Line.TheVariants as line
use Rattle.page_alloc.specs.Free.{IsReserved}
use Rattle.pack_model.specs.hints.Tables.{TableTrue}
use Rattle.pack_model.specs.reading.Model.{read_as, room}
use Rattle.pack_model.specs.states.Sound.{Sound}
use Rattle.exec_steps.proofs.SectorTaking.{each_sector}
use Rattle.exec_session.proofs.Stopping.{error_is}
use Rattle.session_model.specs.Refusals.{most_serials}
use Rattle.exec_session.specs.Meant.{kept}
use Rattle.exec_steps.specs.Rooms.{pages_planned}
use Rattle.exec_session.specs.declared.session.Session.{Session}
use Rattle.exec_session.specs.declared.stop.Stop.{Stop}
use Rattle.exec_steps.specs.Asked.{made_fid}
use Rattle.exec_steps.specs.Midway.{StepsOn}
use Rattle.exec_writing.specs.Entries.{new_refusal}
use Rattle.exec_writing.specs.Plans.{MayCopy, copied}
use Rattle.exec_writing.specs.Writes.{WritesLine}
use Rattle.exec_writing.proofs.CopyLine.{asks, copying_ends, left_before, looked_hints, mark_stops, may, pages_asked, reading_stops, refusal_before, reserved_hints, reserves_before, reserving_stops, source_lives, true_before}
use Rattle.exec_writing.proofs.Ends.{begins_sound}
use Rattle.exec_steps.proofs.Frames.{cause_after, cause_passed, if_refused, never_refused, works_looked, works_reserved, works_twice}
use Rattle.exec_writing.proofs.NewSectors.{refused_then}
use Rattle.exec_writing.proofs.Required.{enough_sectors, shape_worked, sized_worked}
use Rattle.exec_session.proofs.LookedBefore.{same_count}
use Rattle.exec_session.proofs.Causing.{cause_sooner}
use Rattle.exec_session.proofs.Parts.{ok_of_error}
use Rattle.exec_session.proofs.Framing.{usable_looked}
use Rattle.exec_writing.proofs.copy.apply_copy.Goals as goal

-- ---- what is required
pub reserve_new-requires-clause-shape : goal.reserve_new-requires-clause-shape
reserve_new-requires-clause-shape g c =
    let h = c.in_ok-bytes.ensures.looks in
    shape_worked (g.D.Tape.tape c.args.disk.now) (g.D.Tape.tape c.bytes_of.new.disk) (works_looked h.looked) h.looks.alone c.requires.shape

pub reserve_new-requires-clause-sized : goal.reserve_new-requires-clause-sized
reserve_new-requires-clause-sized g c =
    let h = c.in_ok-bytes.ensures.looks in
    sized_worked (g.D.Tape.tape c.args.disk.now) (g.D.Tape.tape c.bytes_of.new.disk) (works_looked h.looked) h.looks.alone c.requires.sized

pub open_mark-requires : goal.open_mark-requires
open_mark-requires g c =
    let h = c.in_ok-bytes.ensures.looks in
    let r = c.in_ok-fresh.ensures in
    record { shape = shape_worked (g.D.Tape.tape c.args.disk.now) (g.D.Tape.tape c.reserve_new.new.disk) (works_twice (works_looked h.looked) (works_reserved r.same r.sized)) (alone_twice h.looks.alone r.looks.alone) c.requires.shape }

pub write_copy-requires-clause-shape : goal.write_copy-requires-clause-shape
write_copy-requires-clause-shape g c =
    let h = c.in_ok-bytes.ensures.looks in
    let r = c.in_ok-fresh.ensures in
    let o = c.in_ok-open_mark.ensures in
    shape_worked (g.D.Tape.tape c.args.disk.now) (g.D.Tape.tape c.open_mark.new.disk) (works_twice (works_twice (works_looked h.looked) (works_reserved r.same r.sized)) o.works) (alone_twice (alone_twice h.looks.alone r.looks.alone) o.alone) c.requires.shape

pub write_copy-requires-clause-sized : goal.write_copy-requires-clause-sized
write_copy-requires-clause-sized g c =
    let h = c.in_ok-bytes.ensures.looks in
    let r = c.in_ok-fresh.ensures in
    let o = c.in_ok-open_mark.ensures in
    sized_worked (g.D.Tape.tape c.args.disk.now) (g.D.Tape.tape c.open_mark.new.disk) (works_twice (works_twice (works_looked h.looked) (works_reserved r.same r.sized)) o.works) (alone_twice (alone_twice h.looks.alone r.looks.alone) o.alone) c.requires.sized

pub write_copy-requires-clause-left : goal.write_copy-requires-clause-left
write_copy-requires-clause-left g c =
    let last = λ (s : Session). s.descriptor.last in
    subst (λ (n : ℕ). n < most_serials) (sym (ap last c.in_ok-open_mark.ensures.same ∙ ap last c.in_ok-fresh.ensures.same)) c.in_ok-fresh.ensures.left

pub write_copy-requires-clause-many : goal.write_copy-requires-clause-many
write_copy-requires-clause-many g c = enough_sectors c.args.plan.now.entry _ _ _ c.in_ok-fresh.fresh.items _ c.deref-2.ensures.value c.in_ok-fresh.ensures.reserved

-- ---- the disk alone
pub returns-in_err-fresh-clause-alone : goal.returns-in_err-fresh-clause-alone
returns-in_err-fresh-clause-alone g c = alone_twice c.in_ok-bytes.ensures.looks.looks.alone c.in_err-fresh.ensures.looks.alone

pub returns-in_err-fresh-clause-frame : goal.returns-in_err-fresh-clause-frame
returns-in_err-fresh-clause-frame g c = usable_looked c.in_ok-bytes.ensures.looks.looks c.in_err-fresh.ensures.looks.alone (usable_looks c.in_err-fresh.ensures.looks)

pub returns-in_err-open_mark-clause-alone : goal.returns-in_err-open_mark-clause-alone
returns-in_err-open_mark-clause-alone g c = alone_twice c.in_ok-bytes.ensures.looks.looks.alone (alone_twice c.in_ok-fresh.ensures.looks.alone c.in_err-open_mark.ensures.alone)

pub returns-in_err-open_mark-clause-frame : goal.returns-in_err-open_mark-clause-frame
returns-in_err-open_mark-clause-frame g c = usable_looked c.in_ok-bytes.ensures.looks.looks (alone_twice c.in_ok-fresh.ensures.looks.alone c.in_err-open_mark.ensures.alone) (usable_looked c.in_ok-fresh.ensures.looks c.in_err-open_mark.ensures.alone c.in_err-open_mark.ensures.frame)

pub returns-clause-alone : goal.returns-clause-alone
returns-clause-alone g c = alone_twice c.in_ok-bytes.ensures.looks.looks.alone (alone_twice c.in_ok-fresh.ensures.looks.alone (alone_twice c.in_ok-open_mark.ensures.alone c.write_copy.ensures.alone))

pub returns-clause-frame : goal.returns-clause-frame
returns-clause-frame g c = usable_looked c.in_ok-bytes.ensures.looks.looks (alone_twice c.in_ok-fresh.ensures.looks.alone (alone_twice c.in_ok-open_mark.ensures.alone c.write_copy.ensures.alone)) (usable_looked c.in_ok-fresh.ensures.looks (alone_twice c.in_ok-open_mark.ensures.alone c.write_copy.ensures.alone) (usable_twice c.in_ok-open_mark.ensures.alone c.write_copy.ensures.alone c.in_ok-open_mark.ensures.frame c.write_copy.ensures.frame))

-- ---- what it writes
pub returns-in_err-bytes-clause-writes : goal.returns-in_err-bytes-clause-writes
returns-in_err-bytes-clause-writes g c = λ s target path told begins is.
    let a = g.D.Tape.tape c.args.disk.now in
    let m = g.D.Tape.tape c.bytes_of.new.disk in
    let s0 = c.args.session.now in
    let s1 = c.bytes_of.new.session in
    let h = c.in_err-bytes.ensures in
    let sound = begins_sound begins in
    let same = looks_pack h.looks.looks told in
    subst (λ (r : Result Fid Stop). WritesLine a m (kept s0) (kept s1) s (line.Copy target path) r) (sym (error_is c.from_residual.result c.from_residual.ensures.1))
    (reading_stops a m s0 s1 s target path c.args.plan.now begins is h.looks.looks.alone (h.looks.looks.silent told) (looked_hints h.looks.looked) (Vec ℕ Global) c.in_err-bytes.field-0.0
    (λ was. subst (TableTrue (pack a)) (sym (ap (λ x. x.hints.table) h.looks.looked.same)) was) (h.unrefused told sound) (h.misled told sound is.source.from))

pub returns-in_err-fresh-clause-writes : goal.returns-in_err-fresh-clause-writes
returns-in_err-fresh-clause-writes g c = λ s target path told begins is.
    let a = g.D.Tape.tape c.args.disk.now in
    let m = g.D.Tape.tape c.bytes_of.new.disk in
    let b = g.D.Tape.tape c.reserve_new.new.disk in
    let s0 = c.args.session.now in
    let s1 = c.bytes_of.new.session in
    let s2 = c.reserve_new.new.session in
    let plan = c.args.plan.now in
    let bytes = c.in_ok-bytes.bytes.items in
    let h = c.in_ok-bytes.ensures in
    let r = c.in_err-fresh.ensures in
    let sound = begins_sound begins in
    let same = looks_pack h.looks.looks told in
    let there = subst Sound (sym same) sound in
    let read = h.read told sound in
    let many = pages_asked (pack a) plan.source.fid bytes c.min-more.result (each_sector a (g.met.D.Disk.sized c.args.disk.now told)) sound is.ordinary (source_lives (pack a) target path plan is sound) read (c.min-more.ensures ∙ ap (λ n. min (n / 512) 60000) (c.len.ensures ∙ c.in_ok-bytes.bytes.ok.0)) in
    let alone = alone_twice h.looks.looks.alone r.looks.alone in
    let silent = silent_twice h.looks.looks.alone.grown r.looks.alone.grown (h.looks.looks.silent told) (r.looks.silent told) in
    let hints = reserved_hints h.looks.looked r.same in
    subst (λ (y : Result Fid Stop). WritesLine a b (kept s0) (kept s2) s (line.Copy target path) y) (sym (error_is c.from_residual-in_err-fresh.result c.from_residual-in_err-fresh.ensures.1))
    (reserving_stops a b s0 s2 s target path plan begins is alone silent hints bytes read (Vec ℕ Global) c.in_err-fresh.field-0.0 (true_before a m s0 s1 h.looks.looked same s2.hints.table (r.stays_true told there))
    (refused_then {T = Vec ℕ Global} (λ x. new_refusal s1.descriptor.last (pages_planned plan.entry + 2 + c.min-more.result) (room (read_as (pack m))) ≡ Some x) (λ x. new_refusal s0.descriptor.last (pages_planned plan.entry + 2 + length bytes / 512) (room (read_as (pack a))) ≡ Some x) (Err c.in_err-fresh.field-0.0) (λ x is2. refusal_before a m s0 s1 h.looks.looked same (pages_planned plan.entry + 2 + length bytes / 512) (Some x) (subst (λ n. new_refusal s1.descriptor.last (pages_planned plan.entry + 2 + n) (room (read_as (pack m))) ≡ Some x) many is2)) (r.refused told there)) r.never_misled)

pub returns-in_err-open_mark-clause-writes : goal.returns-in_err-open_mark-clause-writes
returns-in_err-open_mark-clause-writes g c = λ s target path told begins is.
    let a = g.D.Tape.tape c.args.disk.now in
    let m = g.D.Tape.tape c.bytes_of.new.disk in
    let b = g.D.Tape.tape c.reserve_new.new.disk in
    let s0 = c.args.session.now in
    let s1 = c.bytes_of.new.session in
    let s2 = c.reserve_new.new.session in
    let plan = c.args.plan.now in
    let bytes = c.in_ok-bytes.bytes.items in
    let h = c.in_ok-bytes.ensures in
    let r = c.in_ok-fresh.ensures in
    let sound = begins_sound begins in
    let same = looks_pack h.looks.looks told in
    let there = subst Sound (sym same) sound in
    let read = h.read told sound in
    let many = pages_asked (pack a) plan.source.fid bytes c.min-more.result (each_sector a (g.met.D.Disk.sized c.args.disk.now told)) sound is.ordinary (source_lives (pack a) target path plan is sound) read (c.min-more.ensures ∙ ap (λ n. min (n / 512) 60000) (c.len.ensures ∙ c.in_ok-bytes.bytes.ok.0)) in
    let alone = alone_twice h.looks.looks.alone r.looks.alone in
    let silent = silent_twice h.looks.looks.alone.grown r.looks.alone.grown (h.looks.looks.silent told) (r.looks.silent told) in
    let hints = reserved_hints h.looks.looked r.same in
    let fresh = c.in_ok-fresh.fresh.items in
    let end = pages_of m.form in
    let s3 = c.open_mark.new.session in
    let d = g.D.Tape.tape c.open_mark.new.disk in
    let count = same_count a b alone silent (g.met.D.Disk.counted c.args.disk.now told) (g.met.D.Disk.counted c.reserve_new.new.disk told) in
    let reserved = subst (λ n. IsReserved end (pages_planned plan.entry + 2 + n) s2.hints.table fresh) many r.reserved in
    let free = subst (λ p. All (λ i. is_free_at p i ≡ true) fresh) same (r.free told) in
    let left = left_before a m s0 s1 h.looks.looked same r.left in
    let enough = refusal_before a m s0 s1 h.looks.looked same (pages_planned plan.entry + 2 + length bytes / 512) None (subst (λ n. new_refusal s1.descriptor.last (pages_planned plan.entry + 2 + n) (room (read_as (pack m))) ≡ None) many (r.enough told there)) in
    let table = reserves_before a m s0 s1 h.looks.looked same s2.hints.table fresh (r.table told there) in
    let ready = may a b s0 s2 s target path plan begins is alone silent hints bytes read count fresh end reserved free left enough table in
    let at = get_or s0.descriptor.pages 0 0 in
    let worked = works_twice (works_looked h.looks.looked) (works_reserved r.same r.sized) in
    let o = c.in_err-open_mark.ensures in
    subst (λ (y : Result Fid Stop). WritesLine a d (kept s0) (kept s3) s (line.Copy target path) y) (sym (error_is c.from_residual-in_err-open_mark.result c.from_residual-in_err-open_mark.ensures.1))
    (mark_stops a b s0 s2 s target path plan begins is alone silent hints bytes read count fresh end reserved free left enough table d s3 c.in_err-open_mark.field-0.0 (works_twice worked o.works) o.alone o.unrefused (o.starts (kept s0) at fresh told ready.start))

pub returns-clause-writes : goal.returns-clause-writes
returns-clause-writes g c = λ s target path told begins is.
    let a = g.D.Tape.tape c.args.disk.now in
    let m = g.D.Tape.tape c.bytes_of.new.disk in
    let b = g.D.Tape.tape c.reserve_new.new.disk in
    let s0 = c.args.session.now in
    let s1 = c.bytes_of.new.session in
    let s2 = c.reserve_new.new.session in
    let plan = c.args.plan.now in
    let bytes = c.in_ok-bytes.bytes.items in
    let h = c.in_ok-bytes.ensures in
    let r = c.in_ok-fresh.ensures in
    let sound = begins_sound begins in
    let same = looks_pack h.looks.looks told in
    let there = subst Sound (sym same) sound in
    let read = h.read told sound in
    let many = pages_asked (pack a) plan.source.fid bytes c.min-more.result (each_sector a (g.met.D.Disk.sized c.args.disk.now told)) sound is.ordinary (source_lives (pack a) target path plan is sound) read (c.min-more.ensures ∙ ap (λ n. min (n / 512) 60000) (c.len.ensures ∙ c.in_ok-bytes.bytes.ok.0)) in
    let alone = alone_twice h.looks.looks.alone r.looks.alone in
    let silent = silent_twice h.looks.looks.alone.grown r.looks.alone.grown (h.looks.looks.silent told) (r.looks.silent told) in
    let hints = reserved_hints h.looks.looked r.same in
    let fresh = c.in_ok-fresh.fresh.items in
    let end = pages_of m.form in
    let s3 = c.open_mark.new.session in
    let d = g.D.Tape.tape c.open_mark.new.disk in
    let count = same_count a b alone silent (g.met.D.Disk.counted c.args.disk.now told) (g.met.D.Disk.counted c.reserve_new.new.disk told) in
    let reserved = subst (λ n. IsReserved end (pages_planned plan.entry + 2 + n) s2.hints.table fresh) many r.reserved in
    let free = subst (λ p. All (λ i. is_free_at p i ≡ true) fresh) same (r.free told) in
    let left = left_before a m s0 s1 h.looks.looked same r.left in
    let enough = refusal_before a m s0 s1 h.looks.looked same (pages_planned plan.entry + 2 + length bytes / 512) None (subst (λ n. new_refusal s1.descriptor.last (pages_planned plan.entry + 2 + n) (room (read_as (pack m))) ≡ None) many (r.enough told there)) in
    let table = reserves_before a m s0 s1 h.looks.looked same s2.hints.table fresh (r.table told there) in
    let ready = may a b s0 s2 s target path plan begins is alone silent hints bytes read count fresh end reserved free left enough table in
    let at = get_or s0.descriptor.pages 0 0 in
    let worked = works_twice (works_looked h.looks.looked) (works_reserved r.same r.sized) in
    let o = c.in_ok-open_mark.ensures in
    let w = c.write_copy.ensures in
    let z = g.D.Tape.tape c.write_copy.new.disk in
    let s4 = c.write_copy.new.session in
    let started = o.starts (kept s0) at fresh told ready.start in
    let f = made_fid false (s3.descriptor.last + 1) in
    let files = sys_dir ∷ plan.entry.dir.fid ∷ f ∷ [] in
    let steps =
    subst (λ (bs : List ℕ). MayCopy (pack d) (kept s3) plan.entry bs fresh → StepsOn d z (kept s3) (kept s4) (copied plan.entry f bs s3.moment) fresh files c.write_copy.result) c.deref.ensures.value
    (subst (λ (l : List ℕ). MayCopy (pack d) (kept s3) plan.entry c.deref.result.now l → StepsOn d z (kept s3) (kept s4) (copied plan.entry f c.deref.result.now s3.moment) l files c.write_copy.result) c.deref-2.ensures.value (w.steps told))
    in
    let asked = asks a b s0 s2 s target path plan begins is alone silent hints bytes read count fresh end reserved free left enough table d s3 c.in_ok-open_mark.field-0 started o.same in
    copying_ends a b s0 s2 s target path plan begins is alone silent hints bytes read count fresh end reserved free left enough table d s3 c.in_ok-open_mark.field-0 started o.same Fid z s4 c.write_copy.result
    (works_twice worked (works_twice o.works w.works)) (alone_twice o.alone w.alone) w.unrefused (steps asked)

-- ---- a refusal comes before the first record write
pub returns-in_err-bytes-clause-unwritten : goal.returns-in_err-bytes-clause-unwritten
returns-in_err-bytes-clause-unwritten g c = λ told. if_refused (added (g.D.Tape.tape c.args.disk.now) (g.D.Tape.tape c.bytes_of.new.disk) ≡ []) c.from_residual.result (c.in_err-bytes.ensures.looks.looks.silent told)

pub returns-in_err-fresh-clause-unwritten : goal.returns-in_err-fresh-clause-unwritten
returns-in_err-fresh-clause-unwritten g c = λ told.
    let h = c.in_ok-bytes.ensures.looks.looks in
    let r = c.in_err-fresh.ensures.looks in
    if_refused (added (g.D.Tape.tape c.args.disk.now) (g.D.Tape.tape c.reserve_new.new.disk) ≡ []) c.from_residual-in_err-fresh.result (silent_twice h.alone.grown r.alone.grown (h.silent told) (r.silent told))

pub returns-in_err-open_mark-clause-unwritten : goal.returns-in_err-open_mark-clause-unwritten
returns-in_err-open_mark-clause-unwritten g c = λ told. never_refused (Unit {0}) (λ x. added (g.D.Tape.tape c.args.disk.now) (g.D.Tape.tape c.open_mark.new.disk) ≡ []) c.in_err-open_mark.field-0.0 c.from_residual-in_err-open_mark.result c.from_residual-in_err-open_mark.ensures.1 c.in_err-open_mark.ensures.unrefused

pub returns-clause-unwritten : goal.returns-clause-unwritten
returns-clause-unwritten g c = λ told. refused_then (λ x. ⊥) (λ x. added (g.D.Tape.tape c.args.disk.now) (g.D.Tape.tape c.write_copy.new.disk) ≡ []) c.write_copy.result (λ x none. absurd none) c.write_copy.ensures.unrefused

-- ---- the session
pub returns-in_err-bytes-clause-works : goal.returns-in_err-bytes-clause-works
returns-in_err-bytes-clause-works g c = works_looked c.in_err-bytes.ensures.looks.looked

pub returns-in_err-fresh-clause-works : goal.returns-in_err-fresh-clause-works
returns-in_err-fresh-clause-works g c = let r = c.in_err-fresh.ensures in works_twice (works_looked c.in_ok-bytes.ensures.looks.looked) (works_reserved r.same r.sized)

pub returns-in_err-open_mark-clause-works : goal.returns-in_err-open_mark-clause-works
returns-in_err-open_mark-clause-works g c = let r = c.in_ok-fresh.ensures in works_twice (works_twice (works_looked c.in_ok-bytes.ensures.looks.looked) (works_reserved r.same r.sized)) c.in_err-open_mark.ensures.works

pub returns-clause-works : goal.returns-clause-works
returns-clause-works g c = let r = c.in_ok-fresh.ensures in works_twice (works_twice (works_twice (works_looked c.in_ok-bytes.ensures.looks.looked) (works_reserved r.same r.sized)) c.in_ok-open_mark.ensures.works) c.write_copy.ensures.works

-- ---- the cause of a fault
pub returns-in_err-bytes-clause-cause : goal.returns-in_err-bytes-clause-cause
returns-in_err-bytes-clause-cause g c = cause_passed (g.D.Tape.tape c.args.disk.now) (g.D.Tape.tape c.bytes_of.new.disk) c.in_err-bytes.field-0.0 c.from_residual.result c.from_residual.ensures.1 c.in_err-bytes.ensures.cause

pub returns-in_err-fresh-clause-cause : goal.returns-in_err-fresh-clause-cause
returns-in_err-fresh-clause-cause g c =
    cause_after (g.D.Tape.tape c.args.disk.now) (g.D.Tape.tape c.bytes_of.new.disk) (g.D.Tape.tape c.reserve_new.new.disk) c.in_err-fresh.field-0.0 c.from_residual-in_err-fresh.result c.from_residual-in_err-fresh.ensures.1 c.in_ok-bytes.ensures.cause c.in_err-fresh.ensures.cause

pub returns-in_err-open_mark-clause-cause : goal.returns-in_err-open_mark-clause-cause
returns-in_err-open_mark-clause-cause g c =
    cause_after (g.D.Tape.tape c.args.disk.now) (g.D.Tape.tape c.reserve_new.new.disk) (g.D.Tape.tape c.open_mark.new.disk) c.in_err-open_mark.field-0.0 c.from_residual-in_err-open_mark.result c.from_residual-in_err-open_mark.ensures.1
    (c.in_ok-fresh.ensures.cause ∙ c.in_ok-bytes.ensures.cause) c.in_err-open_mark.ensures.cause

pub returns-in_err-bytes-clause-made : goal.returns-in_err-bytes-clause-made
returns-in_err-bytes-clause-made g c = ok_of_error (λ s. s ≡ c.in_err-bytes.field-0.0) _ c.from_residual.result c.from_residual.ensures.1

pub returns-in_err-bytes-clause-alone : goal.returns-in_err-bytes-clause-alone
returns-in_err-bytes-clause-alone g c = c.in_err-bytes.ensures.looks.looks.alone

pub returns-in_err-bytes-clause-frame : goal.returns-in_err-bytes-clause-frame
returns-in_err-bytes-clause-frame g c = usable_looks c.in_err-bytes.ensures.looks.looks

pub returns-in_err-fresh-clause-made : goal.returns-in_err-fresh-clause-made
returns-in_err-fresh-clause-made g c = ok_of_error (λ s. s ≡ c.in_err-fresh.field-0.0) _ c.from_residual-in_err-fresh.result c.from_residual-in_err-fresh.ensures.1

pub returns-in_err-open_mark-clause-made : goal.returns-in_err-open_mark-clause-made
returns-in_err-open_mark-clause-made g c = ok_of_error (λ s. s ≡ c.in_err-open_mark.field-0.0) _ c.from_residual-in_err-open_mark.result c.from_residual-in_err-open_mark.ensures.1

pub returns-clause-cause : goal.returns-clause-cause
returns-clause-cause g c =
    cause_sooner (g.D.Tape.tape c.args.disk.now) (g.D.Tape.tape c.open_mark.new.disk) (g.D.Tape.tape c.write_copy.new.disk) c.write_copy.result (c.in_ok-open_mark.ensures.cause ∙ c.in_ok-fresh.ensures.cause ∙ c.in_ok-bytes.ensures.cause) c.write_copy.ensures.cause

pub returns-clause-made : goal.returns-clause-made
returns-clause-made g c =
    let last = λ (s : Session). s.descriptor.last in
    subst (λ (n : ℕ). IfOk c.write_copy.result (λ (fid : Fid). fid ≡ made_fid false (n + 1)))
    (ap last c.in_ok-open_mark.ensures.same ∙ ap last c.in_ok-fresh.ensures.same ∙ ap last c.in_ok-bytes.ensures.looks.looked.same) c.write_copy.ensures.made
