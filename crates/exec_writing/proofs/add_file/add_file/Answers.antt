use Rattle.std.proofs.Common.{◌+◌, ◌<◌, ◌≡◌, ◌∷◌, ℕ, List, [], Result, Ok, Err, get_or, take, sym, subst, ap, ◌∙◌}
use Rattle.disk_records.proofs.Framing.{usable_looks, usable_twice}
use Rattle.alto_words.specs.Fid.{sys_dir}
use Rattle.alto_words.specs.declared.fid.Fid.{Fid}
use Rattle.disk_records.proofs.Growing.{alone_twice}
use Rattle.disk_records.specs.Addresses.{pages_of}
use Rattle.disk_records.specs.Tapes.{added, pack}
use Rattle.page_seeking.specs.declared.refs.FileRef.{FileRef}
use Rattle.exec_session.proofs.Stopping.{error_is}
use Rattle.session_model.specs.Refusals.{most_serials}
use Rattle.exec_session.specs.Meant.{kept}
use Rattle.exec_steps.specs.Rooms.{pages_planned}
use Rattle.exec_session.specs.declared.session.Session.{Session}
use Rattle.exec_session.specs.declared.stop.Stop.{Stop}
use Rattle.exec_steps.specs.Asked.{MayMakeEntered, made_entered, made_fid}
use Rattle.exec_steps.specs.Midway.{StepsOn}
use Rattle.exec_writing.proofs.AddedFile.{asks, file_done, file_stops, has_sectors, mark_stops, may, reserve_stops}
use Rattle.exec_writing.proofs.Ends.{begins_sound}
use Rattle.exec_steps.proofs.Frames.{cause_after, cause_passed, if_refused, never_refused, works_reserved, works_twice}
use Rattle.exec_writing.proofs.Required.{enough_sectors, shape_worked, sized_worked}
use Rattle.exec_writing.specs.Writes.{WritesLine}
use Rattle.exec_session.proofs.Parts.{ok_of_error}
use Rattle.exec_session.proofs.Framing.{usable_looked}
use Rattle.exec_writing.proofs.add_file.add_file.Goals as goal

-- ---- what is required
pub open_mark-requires : goal.open_mark-requires
open_mark-requires g c =
    let r = c.in_ok-fresh.ensures in
    record { shape = shape_worked (g.D.Tape.tape c.args.disk.now) (g.D.Tape.tape c.reserve_new.new.disk) (works_reserved r.same r.sized) r.looks.alone c.requires.shape }

pub make_entered-requires-clause-shape : goal.make_entered-requires-clause-shape
make_entered-requires-clause-shape g c =
    let r = c.in_ok-fresh.ensures in
    let m = c.in_ok-open_mark.ensures in
    shape_worked (g.D.Tape.tape c.args.disk.now) (g.D.Tape.tape c.open_mark.new.disk) (works_twice (works_reserved r.same r.sized) m.works) (alone_twice r.looks.alone m.alone) c.requires.shape

pub make_entered-requires-clause-sized : goal.make_entered-requires-clause-sized
make_entered-requires-clause-sized g c =
    let r = c.in_ok-fresh.ensures in
    let m = c.in_ok-open_mark.ensures in
    sized_worked (g.D.Tape.tape c.args.disk.now) (g.D.Tape.tape c.open_mark.new.disk) (works_twice (works_reserved r.same r.sized) m.works) (alone_twice r.looks.alone m.alone) c.requires.sized

pub make_entered-requires-clause-left : goal.make_entered-requires-clause-left
make_entered-requires-clause-left g c =
    let last = λ (s : Session). s.descriptor.last in
    subst (λ (n : ℕ). n < most_serials) (sym (ap last c.in_ok-open_mark.ensures.same ∙ ap last c.in_ok-fresh.ensures.same)) c.in_ok-fresh.ensures.left

pub make_entered-requires-clause-many : goal.make_entered-requires-clause-many
make_entered-requires-clause-many g c = enough_sectors c.args.entry.now 0 _ _ c.in_ok-fresh.fresh.items _ c.deref.ensures.value c.in_ok-fresh.ensures.reserved

-- ---- no serial or no room is left
pub returns-in_err-fresh-clause-writes : goal.returns-in_err-fresh-clause-writes
returns-in_err-fresh-clause-writes g c = λ s l told begins adds.
    let a = g.D.Tape.tape c.args.disk.now in
    let b = g.D.Tape.tape c.reserve_new.new.disk in
    let s0 = c.args.session.now in
    let s1 = c.reserve_new.new.session in
    let r = c.in_err-fresh.ensures in
    let sound = begins_sound begins in
    subst (λ (x : Result Fid Stop). WritesLine a b (kept s0) (kept s1) s l x) (sym (error_is c.from_residual.result c.from_residual.ensures.1))
    (reserve_stops a b s0 s1 s l c.args.entry.now c.args.of_directory c.in_err-fresh.field-0.0 begins adds r.looks.alone (r.looks.silent told) r.same (r.stays_true told sound) (r.refused told sound) r.never_misled)

-- ---- the mark isn't opened
pub returns-in_err-open_mark-clause-writes : goal.returns-in_err-open_mark-clause-writes
returns-in_err-open_mark-clause-writes g c = λ s l told begins adds.
    let a = g.D.Tape.tape c.args.disk.now in
    let b = g.D.Tape.tape c.reserve_new.new.disk in
    let d = g.D.Tape.tape c.open_mark.new.disk in
    let s0 = c.args.session.now in
    let s1 = c.reserve_new.new.session in
    let s2 = c.open_mark.new.session in
    let e = c.args.entry.now in
    let dir = c.args.of_directory in
    let fresh = c.in_ok-fresh.fresh.items in
    let r = c.in_ok-fresh.ensures in
    let sound = begins_sound begins in
    let h = has_sectors a b s0 s1 s l e dir (pages_of a.form) fresh begins adds r.looks.alone (r.looks.silent told) (g.met.D.Disk.counted c.args.disk.now told) (g.met.D.Disk.counted c.reserve_new.new.disk told) r.same r.reserved (r.free told) r.left (r.enough told sound) (r.table told sound) in
    let m = c.in_err-open_mark.ensures in
    subst (λ (x : Result Fid Stop). WritesLine a d (kept s0) (kept s2) s l x) (sym (error_is c.from_residual-in_err-open_mark.result c.from_residual-in_err-open_mark.ensures.1))
    (mark_stops a b s0 s1 s l e dir fresh h d s2 c.in_err-open_mark.field-0.0 (works_twice (works_reserved r.same r.sized) m.works) m.alone m.unrefused
    (m.starts (kept s0) (get_or s0.descriptor.pages 0 0) fresh told (may a b s0 s1 s l e dir fresh h).start))

-- ---- the steps
pub returns-in_err-file-clause-writes : goal.returns-in_err-file-clause-writes
returns-in_err-file-clause-writes g c = λ s l told begins adds.
    let a = g.D.Tape.tape c.args.disk.now in
    let b = g.D.Tape.tape c.reserve_new.new.disk in
    let d = g.D.Tape.tape c.open_mark.new.disk in
    let z = g.D.Tape.tape c.make_entered.new.disk in
    let s0 = c.args.session.now in
    let s1 = c.reserve_new.new.session in
    let s2 = c.open_mark.new.session in
    let s3 = c.make_entered.new.session in
    let e = c.args.entry.now in
    let dir = c.args.of_directory in
    let fresh = c.in_ok-fresh.fresh.items in
    let r = c.in_ok-fresh.ensures in
    let sound = begins_sound begins in
    let h = has_sectors a b s0 s1 s l e dir (pages_of a.form) fresh begins adds r.looks.alone (r.looks.silent told) (g.met.D.Disk.counted c.args.disk.now told) (g.met.D.Disk.counted c.reserve_new.new.disk told) r.same r.reserved (r.free told) r.left (r.enough told sound) (r.table told sound) in
    let m = c.in_ok-open_mark.ensures in
    let f = c.in_err-file.ensures in
    let started = m.starts (kept s0) (get_or s0.descriptor.pages 0 0) fresh told (may a b s0 s1 s l e dir fresh h).start in
    let steps = subst (λ (fs : List ℕ). MayMakeEntered (pack d) (kept s2) e dir fs → StepsOn {T = FileRef} d z (kept s2) (kept s3) (made_entered e (made_fid dir (s2.descriptor.last + 1)) s2.moment) (take (pages_planned e + 2) fs) (sys_dir ∷ e.dir.fid ∷ []) (Err c.in_err-file.field-0.0)) c.deref.ensures.value (f.steps told) in
    subst (λ (x : Result Fid Stop). WritesLine a z (kept s0) (kept s3) s l x) (sym (error_is c.from_residual-in_err-file.result c.from_residual-in_err-file.ensures.1))
    (file_stops a b s0 s1 s l e dir fresh h d s2 c.in_ok-open_mark.field-0 started m.same FileRef z s3 c.in_err-file.field-0.0 (works_twice (works_twice (works_reserved r.same r.sized) m.works) f.works) (alone_twice m.alone f.alone) f.unrefused
    (steps (asks a b s0 s1 s l e dir fresh h d s2 c.in_ok-open_mark.field-0 started m.same)))

pub returns-clause-writes : goal.returns-clause-writes
returns-clause-writes g c = λ s l told begins adds.
    let a = g.D.Tape.tape c.args.disk.now in
    let b = g.D.Tape.tape c.reserve_new.new.disk in
    let d = g.D.Tape.tape c.open_mark.new.disk in
    let z = g.D.Tape.tape c.make_entered.new.disk in
    let s0 = c.args.session.now in
    let s1 = c.reserve_new.new.session in
    let s2 = c.open_mark.new.session in
    let s3 = c.make_entered.new.session in
    let e = c.args.entry.now in
    let dir = c.args.of_directory in
    let fresh = c.in_ok-fresh.fresh.items in
    let r = c.in_ok-fresh.ensures in
    let sound = begins_sound begins in
    let h = has_sectors a b s0 s1 s l e dir (pages_of a.form) fresh begins adds r.looks.alone (r.looks.silent told) (g.met.D.Disk.counted c.args.disk.now told) (g.met.D.Disk.counted c.reserve_new.new.disk told) r.same r.reserved (r.free told) r.left (r.enough told sound) (r.table told sound) in
    let m = c.in_ok-open_mark.ensures in
    let f = c.in_ok-file.ensures in
    let started = m.starts (kept s0) (get_or s0.descriptor.pages 0 0) fresh told (may a b s0 s1 s l e dir fresh h).start in
    let steps = subst (λ (fs : List ℕ). MayMakeEntered (pack d) (kept s2) e dir fs → StepsOn {T = FileRef} d z (kept s2) (kept s3) (made_entered e (made_fid dir (s2.descriptor.last + 1)) s2.moment) (take (pages_planned e + 2) fs) (sys_dir ∷ e.dir.fid ∷ []) (Ok c.in_ok-file.file)) c.deref.ensures.value (f.steps told) in
    file_done a b s0 s1 s l e dir fresh h d s2 c.in_ok-open_mark.field-0 started m.same FileRef z s3 c.in_ok-file.file (works_twice (works_twice (works_reserved r.same r.sized) m.works) f.works) (alone_twice m.alone f.alone)
    (steps (asks a b s0 s1 s l e dir fresh h d s2 c.in_ok-open_mark.field-0 started m.same))

-- ---- the frame
pub returns-in_err-open_mark-clause-alone : goal.returns-in_err-open_mark-clause-alone
returns-in_err-open_mark-clause-alone g c = alone_twice c.in_ok-fresh.ensures.looks.alone c.in_err-open_mark.ensures.alone

pub returns-in_err-open_mark-clause-frame : goal.returns-in_err-open_mark-clause-frame
returns-in_err-open_mark-clause-frame g c = usable_looked c.in_ok-fresh.ensures.looks c.in_err-open_mark.ensures.alone c.in_err-open_mark.ensures.frame

pub returns-in_err-file-clause-alone : goal.returns-in_err-file-clause-alone
returns-in_err-file-clause-alone g c = alone_twice (alone_twice c.in_ok-fresh.ensures.looks.alone c.in_ok-open_mark.ensures.alone) c.in_err-file.ensures.alone

pub returns-in_err-file-clause-frame : goal.returns-in_err-file-clause-frame
returns-in_err-file-clause-frame g c = usable_looked c.in_ok-fresh.ensures.looks (alone_twice c.in_ok-open_mark.ensures.alone c.in_err-file.ensures.alone) (usable_twice c.in_ok-open_mark.ensures.alone c.in_err-file.ensures.alone c.in_ok-open_mark.ensures.frame c.in_err-file.ensures.frame)

pub returns-clause-alone : goal.returns-clause-alone
returns-clause-alone g c = alone_twice (alone_twice c.in_ok-fresh.ensures.looks.alone c.in_ok-open_mark.ensures.alone) c.in_ok-file.ensures.alone

pub returns-clause-frame : goal.returns-clause-frame
returns-clause-frame g c = usable_looked c.in_ok-fresh.ensures.looks (alone_twice c.in_ok-open_mark.ensures.alone c.in_ok-file.ensures.alone) (usable_twice c.in_ok-open_mark.ensures.alone c.in_ok-file.ensures.alone c.in_ok-open_mark.ensures.frame c.in_ok-file.ensures.frame)

-- no fault came
pub returns-clause-cause : goal.returns-clause-cause
returns-clause-cause g c = c.in_ok-file.ensures.cause ∙ c.in_ok-open_mark.ensures.cause ∙ c.in_ok-fresh.ensures.cause

-- ---- a refusal comes before the first record write
pub returns-in_err-fresh-clause-unwritten : goal.returns-in_err-fresh-clause-unwritten
returns-in_err-fresh-clause-unwritten g c = λ told. if_refused (added (g.D.Tape.tape c.args.disk.now) (g.D.Tape.tape c.reserve_new.new.disk) ≡ []) c.from_residual.result (c.in_err-fresh.ensures.looks.silent told)

pub returns-in_err-open_mark-clause-unwritten : goal.returns-in_err-open_mark-clause-unwritten
returns-in_err-open_mark-clause-unwritten g c = λ told. never_refused (Unit {0}) (λ x. added (g.D.Tape.tape c.args.disk.now) (g.D.Tape.tape c.open_mark.new.disk) ≡ []) c.in_err-open_mark.field-0.0 c.from_residual-in_err-open_mark.result c.from_residual-in_err-open_mark.ensures.1 c.in_err-open_mark.ensures.unrefused

pub returns-in_err-file-clause-unwritten : goal.returns-in_err-file-clause-unwritten
returns-in_err-file-clause-unwritten g c = λ told. never_refused FileRef (λ x. added (g.D.Tape.tape c.args.disk.now) (g.D.Tape.tape c.make_entered.new.disk) ≡ []) c.in_err-file.field-0.0 c.from_residual-in_err-file.result c.from_residual-in_err-file.ensures.1 c.in_err-file.ensures.unrefused

-- ---- the session
pub returns-in_err-fresh-clause-works : goal.returns-in_err-fresh-clause-works
returns-in_err-fresh-clause-works g c = let r = c.in_err-fresh.ensures in works_reserved r.same r.sized

pub returns-in_err-open_mark-clause-works : goal.returns-in_err-open_mark-clause-works
returns-in_err-open_mark-clause-works g c = let r = c.in_ok-fresh.ensures in works_twice (works_reserved r.same r.sized) c.in_err-open_mark.ensures.works

pub returns-in_err-file-clause-works : goal.returns-in_err-file-clause-works
returns-in_err-file-clause-works g c = let r = c.in_ok-fresh.ensures in works_twice (works_twice (works_reserved r.same r.sized) c.in_ok-open_mark.ensures.works) c.in_err-file.ensures.works

pub returns-clause-works : goal.returns-clause-works
returns-clause-works g c = let r = c.in_ok-fresh.ensures in works_twice (works_twice (works_reserved r.same r.sized) c.in_ok-open_mark.ensures.works) c.in_ok-file.ensures.works

-- ---- the cause of a fault
pub returns-in_err-fresh-clause-cause : goal.returns-in_err-fresh-clause-cause
returns-in_err-fresh-clause-cause g c = cause_passed (g.D.Tape.tape c.args.disk.now) (g.D.Tape.tape c.reserve_new.new.disk) c.in_err-fresh.field-0.0 c.from_residual.result c.from_residual.ensures.1 c.in_err-fresh.ensures.cause

pub returns-in_err-open_mark-clause-cause : goal.returns-in_err-open_mark-clause-cause
returns-in_err-open_mark-clause-cause g c =
    cause_after (g.D.Tape.tape c.args.disk.now) (g.D.Tape.tape c.reserve_new.new.disk) (g.D.Tape.tape c.open_mark.new.disk) c.in_err-open_mark.field-0.0 c.from_residual-in_err-open_mark.result c.from_residual-in_err-open_mark.ensures.1 c.in_ok-fresh.ensures.cause c.in_err-open_mark.ensures.cause

pub returns-in_err-file-clause-cause : goal.returns-in_err-file-clause-cause
returns-in_err-file-clause-cause g c =
    cause_after (g.D.Tape.tape c.args.disk.now) (g.D.Tape.tape c.open_mark.new.disk) (g.D.Tape.tape c.make_entered.new.disk) c.in_err-file.field-0.0 c.from_residual-in_err-file.result c.from_residual-in_err-file.ensures.1
    (c.in_ok-open_mark.ensures.cause ∙ c.in_ok-fresh.ensures.cause) c.in_err-file.ensures.cause

pub returns-in_err-fresh-clause-made : goal.returns-in_err-fresh-clause-made
returns-in_err-fresh-clause-made g c = ok_of_error (λ s. s ≡ c.in_err-fresh.field-0.0) _ c.from_residual.result c.from_residual.ensures.1

pub returns-in_err-fresh-clause-alone : goal.returns-in_err-fresh-clause-alone
returns-in_err-fresh-clause-alone g c = c.in_err-fresh.ensures.looks.alone

pub returns-in_err-fresh-clause-frame : goal.returns-in_err-fresh-clause-frame
returns-in_err-fresh-clause-frame g c = usable_looks c.in_err-fresh.ensures.looks

pub returns-in_err-open_mark-clause-made : goal.returns-in_err-open_mark-clause-made
returns-in_err-open_mark-clause-made g c = ok_of_error (λ s. s ≡ c.in_err-open_mark.field-0.0) _ c.from_residual-in_err-open_mark.result c.from_residual-in_err-open_mark.ensures.1

pub returns-in_err-file-clause-made : goal.returns-in_err-file-clause-made
returns-in_err-file-clause-made g c = ok_of_error (λ s. s ≡ c.in_err-file.field-0.0) _ c.from_residual-in_err-file.result c.from_residual-in_err-file.ensures.1

pub returns-clause-unwritten : goal.returns-clause-unwritten
returns-clause-unwritten g c = λ told. tt

pub returns-clause-made : goal.returns-clause-made
returns-clause-made g c =
    ap (λ (f : FileRef). f.fid) c.in_ok-file.ensures.made
    ∙ ap (λ n. made_fid c.args.of_directory (n + 1)) (ap (λ (s : Session). s.descriptor.last) c.in_ok-open_mark.ensures.same ∙ ap (λ (s : Session). s.descriptor.last) c.in_ok-fresh.ensures.same)
