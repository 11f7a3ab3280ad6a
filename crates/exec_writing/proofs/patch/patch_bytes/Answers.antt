use Rattle.std.proofs.Common.{◌∙◌, [], ◌∷◌, Err, ap, refl, sym, ◌≡◌, subst}
use Rattle.disk_records.proofs.Framing.{usable_looks}
use Rattle.disk_records.proofs.Growing.{alone_twice, pack-silent}
use Rattle.disk_records.proofs.Looking.{looks_pack}
use Rattle.disk_records.specs.Tapes.{pack, added}
use Rattle.exec_words.specs.Texts.{done_text}
use Rattle.exec_words.specs.declared.line.Line.TheVariants as line
use Rattle.exec_words.specs.declared.reply.Refusal.TheVariants as refusal
use Rattle.session_model.specs.Keeping.{world_of}
use Rattle.session_model.specs.Streams.{puts}
use Rattle.exec_session.specs.Meant.{kept}
use Rattle.exec_session.specs.declared.stop.Stop.TheVariants as stop
use Rattle.exec_session.proofs.Looking.{same_but_looked}
use Rattle.exec_session.proofs.Stopping.{error_is}
use Rattle.exec_writing.specs.declared.measuring.Measured.{Measured}
use Rattle.exec_session.proofs.Causing.{cause_refused}
use Rattle.exec_steps.proofs.Frames.{works_looked, works_twice, cause_after, cause_passed, if_refused, never_refused, stays_worked}
use Rattle.exec_writing.proofs.Looked.{ready_looked, refused_turns, unfound_turns}
use Rattle.exec_writing.proofs.Patching.{may_patch, patch_answers, patch_beyond, patch_plans, patch_streamed, patch_unfound, patch_writes, when_none, when_some}
use Rattle.exec_writing.proofs.Streamed.{none_has, one_has}
use Rattle.exec_writing.proofs.Turns.{broke_turns, done_turns, late_turns, nothing_turns, unwritten_turns}
use Rattle.disk_records.specs.Causes.{HasCause}
use Rattle.exec_session.specs.Stops.{cause_of_stop}
use Rattle.exec_session.proofs.Framing.{usable_looked}
use Rattle.exec_writing.proofs.patch.patch_bytes.Goals as goal

pub returns-in_err-found-clause-turns : goal.returns-in_err-found-clause-turns
returns-in_err-found-clause-turns g c = λ told.
    let old = g.D.Tape.tape c.args.disk.now in
    let new = g.D.Tape.tape c.find_measured.new.disk in
    let s = c.args.session.now in
    let target = c.args.target.now in
    let at = c.args.offset in
    let bytes = c.args.bytes.now in
    unfound_turns old new s c.find_measured.new.session (line.Patch target at bytes) (patch_writes target at bytes) told c.requires.obeys c.find_measured.ensures.looks Measured target c.in_err-found.field-0.0 c.from_residual.result c.from_residual.ensures.1 refl
    (λ sound x is. patch_unfound (pack old) (world_of (kept s)) target at bytes sound c.requires.obeys.taken_up x is)
    (c.in_err-found.ensures.refused told) (c.in_err-found.ensures.misled told)

pub returns-then-length-offset-clause-turns : goal.returns-then-length-offset-clause-turns
returns-then-length-offset-clause-turns g c = λ told.
    let old = g.D.Tape.tape c.args.disk.now in
    let new = g.D.Tape.tape c.find_measured.new.disk in
    let s = c.args.session.now in
    let target = c.args.target.now in
    let at = c.args.offset in
    let bytes = c.args.bytes.now in
    let x = c.in_ok-found.found in
    refused_turns old new s c.find_measured.new.session (line.Patch target at bytes) (patch_writes target at bytes) told c.requires.obeys c.find_measured.ensures.looks (refusal.Beyond x.length) c.refused.result c.refused.ensures
    (λ sound. patch_beyond (pack old) (world_of (kept s)) target at bytes sound c.requires.obeys.taken_up x (c.in_ok-found.ensures.found told sound) c.if-length-offset.true)

-- ---- an open stream has the file
pub returns-in_err-refuse_streamed-clause-turns : goal.returns-in_err-refuse_streamed-clause-turns
returns-in_err-refuse_streamed-clause-turns g c = λ told.
    let old = g.D.Tape.tape c.args.disk.now in
    let s = c.args.session.now in
    let about = c.find_measured.ensures.looks in
    let x = c.in_ok-found.found in
    let t = one_has about.looked x.file.fid c.in_err-refuse_streamed.field-0.0 c.in_err-refuse_streamed.ensures in
    refused_turns old (g.D.Tape.tape c.find_measured.new.disk) s c.find_measured.new.session (line.Patch c.args.target.now c.args.offset c.args.bytes.now) (patch_writes c.args.target.now c.args.offset c.args.bytes.now) told c.requires.obeys about refusal.StreamsOpen c.from_residual-in_err-refuse_streamed.result
    (error_is c.from_residual-in_err-refuse_streamed.result c.from_residual-in_err-refuse_streamed.ensures.1 ∙ ap Err t.1)
    (λ sound. patch_streamed (pack old) (world_of (kept s)) c.args.target.now c.args.offset c.args.bytes.now sound c.requires.obeys.taken_up x (c.in_ok-found.ensures.found told sound) c.if-length-offset.false t.0)

pub returns-in_err-refuse_streamed-clause-unwritten : goal.returns-in_err-refuse_streamed-clause-unwritten
returns-in_err-refuse_streamed-clause-unwritten g c = λ told. if_refused (added (g.D.Tape.tape c.args.disk.now) (g.D.Tape.tape c.find_measured.new.disk) ≡ []) c.from_residual-in_err-refuse_streamed.result (c.find_measured.ensures.looks.looks.silent told)

pub returns-in_err-refuse_streamed-clause-stays : goal.returns-in_err-refuse_streamed-clause-stays
returns-in_err-refuse_streamed-clause-stays g c = let about = c.find_measured.ensures.looks in stays_worked (g.D.Tape.tape c.args.disk.now) (g.D.Tape.tape c.find_measured.new.disk) (works_looked about.looked) about.looks.alone.grown.form c.requires.obeys.formed

pub returns-in_err-refuse_streamed-clause-cause : goal.returns-in_err-refuse_streamed-clause-cause
returns-in_err-refuse_streamed-clause-cause g c =
    cause_refused (g.D.Tape.tape c.args.disk.now) (g.D.Tape.tape c.find_measured.new.disk) c.in_err-refuse_streamed.field-0.0 refusal.StreamsOpen c.from_residual-in_err-refuse_streamed.result c.from_residual-in_err-refuse_streamed.ensures.1
    (one_has c.find_measured.ensures.looks.looked c.in_ok-found.found.file.fid c.in_err-refuse_streamed.field-0.0 c.in_err-refuse_streamed.ensures).1 c.in_ok-found.ensures.cause

pub returns-in_err-refuse_streamed-clause-alone : goal.returns-in_err-refuse_streamed-clause-alone
returns-in_err-refuse_streamed-clause-alone g c = c.find_measured.ensures.looks.looks.alone

pub returns-in_err-done_text-clause-turns : goal.returns-in_err-done_text-clause-turns
returns-in_err-done_text-clause-turns g c = λ told.
    let old = g.D.Tape.tape c.args.disk.now in
    let new = g.D.Tape.tape c.find_measured.new.disk in
    let about = c.find_measured.ensures.looks in
    let silent = about.looks.silent told in
    unwritten_turns old new c.args.session.now c.find_measured.new.session (line.Patch c.args.target.now c.args.offset c.args.bytes.now) stop.Memory c.from_residual-in_err-done_text.result (error_is c.from_residual-in_err-done_text.result c.from_residual-in_err-done_text.ensures.1)
    (patch_writes c.args.target.now c.args.offset c.args.bytes.now) c.requires.obeys about.looks.alone silent (λ sound. same_but_looked old new about.looked (pack-silent about.looks.alone.grown silent)) (λ sound. tt) (λ sound. tt)

pub returns-then-is_empty-clause-turns : goal.returns-then-is_empty-clause-turns
returns-then-is_empty-clause-turns g c = λ told.
    let old = g.D.Tape.tape c.args.disk.now in
    let new = g.D.Tape.tape c.find_measured.new.disk in
    let s = c.args.session.now in
    let target = c.args.target.now in
    let at = c.args.offset in
    let bytes = c.args.bytes.now in
    let x = c.in_ok-found.found in
    let l = line.Patch target at bytes in
    let about = c.find_measured.ensures.looks in
    let silent = about.looks.silent told in
    let text = c.in_ok-done_text.ensures in
    nothing_turns old new s c.find_measured.new.session l c.in_ok-done_text.field-0 (patch_writes target at bytes) c.requires.obeys about.looks.alone silent (same_but_looked old new about.looked (pack-silent about.looks.alone.grown silent))
    (λ sound.
    let plan = patch_answers (pack old) (world_of (kept s)) target at bytes sound c.requires.obeys.taken_up x (c.in_ok-found.ensures.found told sound) c.if-length-offset.false
    (none_has about.looked x.file.fid c.in_ok-refuse_streamed.field-0 c.in_ok-refuse_streamed.ensures) in
    record { unrefused = plan.unrefused; ops_are = plan.ops_are ∙ when_none x.file.fid at bytes c.is_empty.result c.is_empty.ensures c.if-is_empty.true; text_is = plan.text_is ∙ sym text })
    (λ v keeping handy none. tt)

pub returns-in_err-write_patch-clause-turns : goal.returns-in_err-write_patch-clause-turns
returns-in_err-write_patch-clause-turns g c = λ told.
    let old = g.D.Tape.tape c.args.disk.now in
    let mid = g.D.Tape.tape c.find_measured.new.disk in
    let new = g.D.Tape.tape c.write_patch.new.disk in
    let s = c.args.session.now in
    let t = c.find_measured.new.session in
    let u = c.write_patch.new.session in
    let target = c.args.target.now in
    let at = c.args.offset in
    let bytes = c.args.bytes.now in
    let x = c.in_ok-found.found in
    let about = c.find_measured.ensures.looks in
    let e = c.in_err-write_patch.ensures in
    let some = when_some bytes c.is_empty.result c.is_empty.ensures c.if-is_empty.false in
    let none = none_has about.looked x.file.fid c.in_ok-refuse_streamed.field-0 c.in_ok-refuse_streamed.ensures in
    broke_turns old mid new s t u (line.Patch target at bytes) (patch_writes target at bytes) c.requires.obeys []
    (ready_looked old mid s t told about (g.met.D.Disk.counted c.args.disk.now told) (g.met.D.Disk.counted c.find_measured.new.disk told) (g.met.D.Disk.formed c.find_measured.new.disk told))
    e.alone (works_twice (works_looked about.looked) e.works) (puts x.file.fid at bytes) done_text (x.file.fid ∷ [])
    (λ sound. patch_plans (pack old) (world_of (kept s)) target at bytes sound c.requires.obeys.taken_up x (c.in_ok-found.ensures.found told sound) some c.if-length-offset.false none)
    c.in_err-write_patch.field-0.0 c.from_residual-in_err-write_patch.result c.from_residual-in_err-write_patch.ensures.1
    (λ sound. e.writes told (may_patch (pack old) (pack mid) target x at bytes (looks_pack about.looks told) sound (c.in_ok-found.ensures.found told sound) c.if-length-offset.false) some)
    e.unrefused

pub returns-in_err-done_text-2-clause-turns : goal.returns-in_err-done_text-2-clause-turns
returns-in_err-done_text-2-clause-turns g c = λ told.
    let old = g.D.Tape.tape c.args.disk.now in
    let mid = g.D.Tape.tape c.find_measured.new.disk in
    let new = g.D.Tape.tape c.write_patch.new.disk in
    let s = c.args.session.now in
    let t = c.find_measured.new.session in
    let u = c.write_patch.new.session in
    let target = c.args.target.now in
    let at = c.args.offset in
    let bytes = c.args.bytes.now in
    let x = c.in_ok-found.found in
    let about = c.find_measured.ensures.looks in
    let e = c.in_ok-write_patch.ensures in
    let some = when_some bytes c.is_empty.result c.is_empty.ensures c.if-is_empty.false in
    let none = none_has about.looked x.file.fid c.in_ok-refuse_streamed.field-0 c.in_ok-refuse_streamed.ensures in
    late_turns old mid new s t u (line.Patch target at bytes) (patch_writes target at bytes) c.requires.obeys []
    (ready_looked old mid s t told about (g.met.D.Disk.counted c.args.disk.now told) (g.met.D.Disk.counted c.find_measured.new.disk told) (g.met.D.Disk.formed c.find_measured.new.disk told))
    e.alone (works_twice (works_looked about.looked) e.works) (puts x.file.fid at bytes) done_text (x.file.fid ∷ [])
    (λ sound. patch_plans (pack old) (world_of (kept s)) target at bytes sound c.requires.obeys.taken_up x (c.in_ok-found.ensures.found told sound) some c.if-length-offset.false none)
    c.in_ok-write_patch.field-0 c.from_residual-in_err-done_text-2.result c.from_residual-in_err-done_text-2.ensures.1
    (λ sound. e.writes told (may_patch (pack old) (pack mid) target x at bytes (looks_pack about.looks told) sound (c.in_ok-found.ensures.found told sound) c.if-length-offset.false) some)

pub returns-clause-turns : goal.returns-clause-turns
returns-clause-turns g c = λ told.
    let old = g.D.Tape.tape c.args.disk.now in
    let mid = g.D.Tape.tape c.find_measured.new.disk in
    let new = g.D.Tape.tape c.write_patch.new.disk in
    let s = c.args.session.now in
    let t = c.find_measured.new.session in
    let u = c.write_patch.new.session in
    let target = c.args.target.now in
    let at = c.args.offset in
    let bytes = c.args.bytes.now in
    let x = c.in_ok-found.found in
    let about = c.find_measured.ensures.looks in
    let e = c.in_ok-write_patch.ensures in
    let some = when_some bytes c.is_empty.result c.is_empty.ensures c.if-is_empty.false in
    let none = none_has about.looked x.file.fid c.in_ok-refuse_streamed.field-0 c.in_ok-refuse_streamed.ensures in
    done_turns old mid new s t u (line.Patch target at bytes) (patch_writes target at bytes) c.requires.obeys []
    (ready_looked old mid s t told about (g.met.D.Disk.counted c.args.disk.now told) (g.met.D.Disk.counted c.find_measured.new.disk told) (g.met.D.Disk.formed c.find_measured.new.disk told))
    e.alone (works_twice (works_looked about.looked) e.works) (puts x.file.fid at bytes) done_text (x.file.fid ∷ [])
    (λ sound. patch_plans (pack old) (world_of (kept s)) target at bytes sound c.requires.obeys.taken_up x (c.in_ok-found.ensures.found told sound) some c.if-length-offset.false none)
    c.in_ok-write_patch.field-0 c.in_ok-done_text-2.field-0 c.in_ok-done_text-2.ensures
    (λ sound. e.writes told (may_patch (pack old) (pack mid) target x at bytes (looks_pack about.looks told) sound (c.in_ok-found.ensures.found told sound) c.if-length-offset.false) some)
    (λ v keeping handy none. tt)

pub returns-in_err-write_patch-clause-alone : goal.returns-in_err-write_patch-clause-alone
returns-in_err-write_patch-clause-alone g c = alone_twice c.find_measured.ensures.looks.looks.alone c.write_patch.ensures.alone

pub returns-in_err-write_patch-clause-frame : goal.returns-in_err-write_patch-clause-frame
returns-in_err-write_patch-clause-frame g c = usable_looked c.find_measured.ensures.looks.looks c.write_patch.ensures.alone c.write_patch.ensures.frame

pub returns-in_err-done_text-2-clause-alone : goal.returns-in_err-done_text-2-clause-alone
returns-in_err-done_text-2-clause-alone g c = alone_twice c.find_measured.ensures.looks.looks.alone c.write_patch.ensures.alone

pub returns-in_err-done_text-2-clause-frame : goal.returns-in_err-done_text-2-clause-frame
returns-in_err-done_text-2-clause-frame g c = usable_looked c.find_measured.ensures.looks.looks c.write_patch.ensures.alone c.write_patch.ensures.frame

pub returns-clause-alone : goal.returns-clause-alone
returns-clause-alone g c = alone_twice c.find_measured.ensures.looks.looks.alone c.write_patch.ensures.alone

pub returns-clause-frame : goal.returns-clause-frame
returns-clause-frame g c = usable_looked c.find_measured.ensures.looks.looks c.write_patch.ensures.alone c.write_patch.ensures.frame

pub returns-in_err-found-clause-unwritten : goal.returns-in_err-found-clause-unwritten
returns-in_err-found-clause-unwritten g c = λ told. if_refused (added (g.D.Tape.tape c.args.disk.now) (g.D.Tape.tape c.find_measured.new.disk) ≡ []) c.from_residual.result (c.in_err-found.ensures.looks.looks.silent told)

pub returns-in_err-found-clause-cause : goal.returns-in_err-found-clause-cause
returns-in_err-found-clause-cause g c = cause_passed (g.D.Tape.tape c.args.disk.now) (g.D.Tape.tape c.find_measured.new.disk) c.in_err-found.field-0.0 c.from_residual.result c.from_residual.ensures.1 c.in_err-found.ensures.cause

pub returns-in_err-found-clause-alone : goal.returns-in_err-found-clause-alone
returns-in_err-found-clause-alone g c = c.in_err-found.ensures.looks.looks.alone

pub returns-in_err-found-clause-frame : goal.returns-in_err-found-clause-frame
returns-in_err-found-clause-frame g c = usable_looks c.in_err-found.ensures.looks.looks

pub returns-in_err-done_text-clause-unwritten : goal.returns-in_err-done_text-clause-unwritten
returns-in_err-done_text-clause-unwritten g c =
    λ told. never_refused (Unit {0}) (λ x. added (g.D.Tape.tape c.args.disk.now) (g.D.Tape.tape c.find_measured.new.disk) ≡ []) stop.Memory c.from_residual-in_err-done_text.result c.from_residual-in_err-done_text.ensures.1 tt

pub returns-in_err-done_text-clause-cause : goal.returns-in_err-done_text-clause-cause
returns-in_err-done_text-clause-cause g c = cause_passed (g.D.Tape.tape c.args.disk.now) (g.D.Tape.tape c.find_measured.new.disk) stop.Memory c.from_residual-in_err-done_text.result c.from_residual-in_err-done_text.ensures.1 c.in_ok-found.ensures.cause

pub returns-in_err-done_text-clause-alone : goal.returns-in_err-done_text-clause-alone
returns-in_err-done_text-clause-alone g c = c.in_ok-found.ensures.looks.looks.alone

pub returns-in_err-done_text-clause-frame : goal.returns-in_err-done_text-clause-frame
returns-in_err-done_text-clause-frame g c = usable_looks c.in_ok-found.ensures.looks.looks

pub returns-in_err-write_patch-clause-unwritten : goal.returns-in_err-write_patch-clause-unwritten
returns-in_err-write_patch-clause-unwritten g c =
    λ told. never_refused (Unit {0}) (λ x. added (g.D.Tape.tape c.args.disk.now) (g.D.Tape.tape c.write_patch.new.disk) ≡ []) c.in_err-write_patch.field-0.0 c.from_residual-in_err-write_patch.result c.from_residual-in_err-write_patch.ensures.1 c.in_err-write_patch.ensures.unrefused

pub returns-in_err-write_patch-clause-cause : goal.returns-in_err-write_patch-clause-cause
returns-in_err-write_patch-clause-cause g c =
    cause_after (g.D.Tape.tape c.args.disk.now) (g.D.Tape.tape c.find_measured.new.disk) (g.D.Tape.tape c.write_patch.new.disk) c.in_err-write_patch.field-0.0 c.from_residual-in_err-write_patch.result c.from_residual-in_err-write_patch.ensures.1 c.in_ok-found.ensures.cause c.in_err-write_patch.ensures.cause

pub returns-in_err-done_text-2-clause-unwritten : goal.returns-in_err-done_text-2-clause-unwritten
returns-in_err-done_text-2-clause-unwritten g c =
    λ told. never_refused (Unit {0}) (λ x. added (g.D.Tape.tape c.args.disk.now) (g.D.Tape.tape c.write_patch.new.disk) ≡ []) stop.Memory c.from_residual-in_err-done_text-2.result c.from_residual-in_err-done_text-2.ensures.1 tt

pub returns-in_err-done_text-2-clause-cause : goal.returns-in_err-done_text-2-clause-cause
returns-in_err-done_text-2-clause-cause g c = cause_passed (g.D.Tape.tape c.args.disk.now) (g.D.Tape.tape c.write_patch.new.disk) stop.Memory c.from_residual-in_err-done_text-2.result c.from_residual-in_err-done_text-2.ensures.1 (c.in_ok-write_patch.ensures.cause ∙ c.in_ok-found.ensures.cause)

pub returns-clause-unwritten : goal.returns-clause-unwritten
returns-clause-unwritten g c = λ told. tt

pub returns-clause-cause : goal.returns-clause-cause
returns-clause-cause g c = c.in_ok-write_patch.ensures.cause ∙ c.in_ok-found.ensures.cause

pub returns-then-is_empty-clause-unwritten : goal.returns-then-is_empty-clause-unwritten
returns-then-is_empty-clause-unwritten g c = λ told. tt

pub returns-then-is_empty-clause-cause : goal.returns-then-is_empty-clause-cause
returns-then-is_empty-clause-cause g c = c.in_ok-found.ensures.cause

pub returns-then-is_empty-clause-alone : goal.returns-then-is_empty-clause-alone
returns-then-is_empty-clause-alone g c = c.in_ok-found.ensures.looks.looks.alone

pub returns-then-is_empty-clause-frame : goal.returns-then-is_empty-clause-frame
returns-then-is_empty-clause-frame g c = usable_looks c.in_ok-found.ensures.looks.looks

pub returns-in_err-found-clause-stays : goal.returns-in_err-found-clause-stays
returns-in_err-found-clause-stays g c = let about = c.find_measured.ensures.looks in stays_worked (g.D.Tape.tape c.args.disk.now) (g.D.Tape.tape c.find_measured.new.disk) (works_looked about.looked) about.looks.alone.grown.form c.requires.obeys.formed

pub returns-then-length-offset-clause-stays : goal.returns-then-length-offset-clause-stays
returns-then-length-offset-clause-stays g c = let about = c.find_measured.ensures.looks in stays_worked (g.D.Tape.tape c.args.disk.now) (g.D.Tape.tape c.find_measured.new.disk) (works_looked about.looked) about.looks.alone.grown.form c.requires.obeys.formed

pub returns-in_err-done_text-clause-stays : goal.returns-in_err-done_text-clause-stays
returns-in_err-done_text-clause-stays g c = let about = c.find_measured.ensures.looks in stays_worked (g.D.Tape.tape c.args.disk.now) (g.D.Tape.tape c.find_measured.new.disk) (works_looked about.looked) about.looks.alone.grown.form c.requires.obeys.formed

pub returns-then-is_empty-clause-stays : goal.returns-then-is_empty-clause-stays
returns-then-is_empty-clause-stays g c = let about = c.find_measured.ensures.looks in stays_worked (g.D.Tape.tape c.args.disk.now) (g.D.Tape.tape c.find_measured.new.disk) (works_looked about.looked) about.looks.alone.grown.form c.requires.obeys.formed

pub returns-in_err-write_patch-clause-stays : goal.returns-in_err-write_patch-clause-stays
returns-in_err-write_patch-clause-stays g c =
    let about = c.find_measured.ensures.looks in
    stays_worked (g.D.Tape.tape c.args.disk.now) (g.D.Tape.tape c.write_patch.new.disk) (works_twice (works_looked about.looked) c.write_patch.ensures.works) (c.write_patch.ensures.alone.grown.form ∙ about.looks.alone.grown.form) c.requires.obeys.formed

pub returns-in_err-done_text-2-clause-stays : goal.returns-in_err-done_text-2-clause-stays
returns-in_err-done_text-2-clause-stays g c =
    let about = c.find_measured.ensures.looks in
    stays_worked (g.D.Tape.tape c.args.disk.now) (g.D.Tape.tape c.write_patch.new.disk) (works_twice (works_looked about.looked) c.write_patch.ensures.works) (c.write_patch.ensures.alone.grown.form ∙ about.looks.alone.grown.form) c.requires.obeys.formed

pub returns-clause-stays : goal.returns-clause-stays
returns-clause-stays g c =
    let about = c.find_measured.ensures.looks in
    stays_worked (g.D.Tape.tape c.args.disk.now) (g.D.Tape.tape c.write_patch.new.disk) (works_twice (works_looked about.looked) c.write_patch.ensures.works) (c.write_patch.ensures.alone.grown.form ∙ about.looks.alone.grown.form) c.requires.obeys.formed

pub returns-then-length-offset-clause-unwritten : goal.returns-then-length-offset-clause-unwritten
returns-then-length-offset-clause-unwritten g c = λ told. if_refused (added (g.D.Tape.tape c.args.disk.now) (g.D.Tape.tape c.find_measured.new.disk) ≡ []) c.refused.result (c.find_measured.ensures.looks.looks.silent told)

pub returns-then-length-offset-clause-cause : goal.returns-then-length-offset-clause-cause
returns-then-length-offset-clause-cause g c = subst (HasCause cause_of_stop (g.D.Tape.tape c.args.disk.now) (g.D.Tape.tape c.find_measured.new.disk)) (sym c.refused.ensures) c.in_ok-found.ensures.cause

pub returns-then-length-offset-clause-alone : goal.returns-then-length-offset-clause-alone
returns-then-length-offset-clause-alone g c = c.find_measured.ensures.looks.looks.alone

pub returns-then-length-offset-clause-frame : goal.returns-then-length-offset-clause-frame
returns-then-length-offset-clause-frame g c = usable_looks c.find_measured.ensures.looks.looks

pub write_patch-requires-clause-shape : goal.write_patch-requires-clause-shape
write_patch-requires-clause-shape g c =
    let about = c.find_measured.ensures.looks in
    sym (stays_worked (g.D.Tape.tape c.args.disk.now) (g.D.Tape.tape c.find_measured.new.disk) (works_looked about.looked) about.looks.alone.grown.form c.requires.obeys.formed).formed.shape
