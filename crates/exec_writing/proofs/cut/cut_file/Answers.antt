use Rattle.std.proofs.Common.{◌∙◌, Ok, Err, [], ◌∷◌, ap, refl, subst, ◌≡◌, sym}
use Rattle.disk_records.proofs.Framing.{usable_looks}
use Rattle.disk_records.proofs.Looking.{looks_pack}
use Rattle.disk_records.proofs.Growing.{alone_twice}
use Rattle.disk_records.specs.Tapes.{pack, added}
use Rattle.exec_words.specs.Texts.{length_text}
use Rattle.exec_words.specs.declared.line.Line.TheVariants as line
use Rattle.exec_words.specs.declared.reply.Refusal.TheVariants as refusal
use Rattle.session_model.specs.Keeping.{world_of}
use Rattle.exec_session.specs.Meant.{kept}
use Rattle.exec_writing.specs.Cutting.{cuts_and_stamps}
use Rattle.exec_writing.specs.Writing.{WritesAll}
use Rattle.exec_writing.specs.declared.measuring.Measured.{Measured}
use Rattle.exec_writing.proofs.Cutting.{cut_beyond, cut_plans, cut_streamed, cut_unfound, cut_writes, may_cut}
use Rattle.exec_session.proofs.Causing.{cause_refused}
use Rattle.exec_session.proofs.Stopping.{error_is}
use Rattle.exec_steps.proofs.Frames.{stays_worked, works_looked, works_twice, cause_after, cause_passed, if_refused, never_refused}
use Rattle.exec_writing.proofs.Looked.{ready_looked, refused_turns, unfound_turns}
use Rattle.exec_writing.proofs.Streamed.{none_has, one_has}
use Rattle.exec_writing.proofs.Turns.{broke_turns, done_turns, late_turns}
use Rattle.exec_session.specs.declared.stop.Stop.TheVariants as stop
use Rattle.disk_records.specs.Causes.{HasCause}
use Rattle.exec_session.specs.Stops.{cause_of_stop}
use Rattle.exec_session.proofs.Framing.{usable_looked}
use Rattle.exec_writing.proofs.cut.cut_file.Goals as goal

pub returns-in_err-found-clause-turns : goal.returns-in_err-found-clause-turns
returns-in_err-found-clause-turns g c = λ told.
    let old = g.D.Tape.tape c.args.disk.now in
    let new = g.D.Tape.tape c.find_measured.new.disk in
    let s = c.args.session.now in
    let target = c.args.target.now in
    let n = c.args.length in
    unfound_turns old new s c.find_measured.new.session (line.Cut target n) (cut_writes target n) told c.requires.obeys c.find_measured.ensures.looks Measured target c.in_err-found.field-0.0 c.from_residual.result c.from_residual.ensures.1 refl
    (λ sound x is. cut_unfound (pack old) (world_of (kept s)) target n sound c.requires.obeys.taken_up x is)
    (c.in_err-found.ensures.refused told) (c.in_err-found.ensures.misled told)

pub returns-then-found-length-clause-turns : goal.returns-then-found-length-clause-turns
returns-then-found-length-clause-turns g c = λ told.
    let old = g.D.Tape.tape c.args.disk.now in
    let new = g.D.Tape.tape c.find_measured.new.disk in
    let s = c.args.session.now in
    let target = c.args.target.now in
    let n = c.args.length in
    let x = c.in_ok-found.found in
    refused_turns old new s c.find_measured.new.session (line.Cut target n) (cut_writes target n) told c.requires.obeys c.find_measured.ensures.looks (refusal.Beyond x.length) c.refused.result c.refused.ensures
    (λ sound. cut_beyond (pack old) (world_of (kept s)) target n sound c.requires.obeys.taken_up x (c.in_ok-found.ensures.found told sound) c.if-found-length.true)

-- ---- an open stream has the file
pub returns-in_err-refuse_streamed-clause-turns : goal.returns-in_err-refuse_streamed-clause-turns
returns-in_err-refuse_streamed-clause-turns g c = λ told.
    let old = g.D.Tape.tape c.args.disk.now in
    let s = c.args.session.now in
    let about = c.find_measured.ensures.looks in
    let x = c.in_ok-found.found in
    let t = one_has about.looked x.file.fid c.in_err-refuse_streamed.field-0.0 c.in_err-refuse_streamed.ensures in
    refused_turns old (g.D.Tape.tape c.find_measured.new.disk) s c.find_measured.new.session (line.Cut c.args.target.now c.args.length) (cut_writes c.args.target.now c.args.length) told c.requires.obeys about refusal.StreamsOpen c.from_residual-in_err-refuse_streamed.result
    (error_is c.from_residual-in_err-refuse_streamed.result c.from_residual-in_err-refuse_streamed.ensures.1 ∙ ap Err t.1)
    (λ sound. cut_streamed (pack old) (world_of (kept s)) c.args.target.now c.args.length sound c.requires.obeys.taken_up x (c.in_ok-found.ensures.found told sound) c.if-found-length.false t.0)

pub returns-in_err-refuse_streamed-clause-unwritten : goal.returns-in_err-refuse_streamed-clause-unwritten
returns-in_err-refuse_streamed-clause-unwritten g c = λ told. if_refused (added (g.D.Tape.tape c.args.disk.now) (g.D.Tape.tape c.find_measured.new.disk) ≡ []) c.from_residual-in_err-refuse_streamed.result (c.find_measured.ensures.looks.looks.silent told)

pub returns-in_err-refuse_streamed-clause-stays : goal.returns-in_err-refuse_streamed-clause-stays
returns-in_err-refuse_streamed-clause-stays g c = let about = c.find_measured.ensures.looks in stays_worked (g.D.Tape.tape c.args.disk.now) (g.D.Tape.tape c.find_measured.new.disk) (works_looked about.looked) about.looks.alone.grown.form c.requires.obeys.formed

pub returns-in_err-refuse_streamed-clause-cause : goal.returns-in_err-refuse_streamed-clause-cause
returns-in_err-refuse_streamed-clause-cause g c =
    cause_refused (g.D.Tape.tape c.args.disk.now) (g.D.Tape.tape c.find_measured.new.disk) c.in_err-refuse_streamed.field-0.0 refusal.StreamsOpen c.from_residual-in_err-refuse_streamed.result c.from_residual-in_err-refuse_streamed.ensures.1
    (one_has c.find_measured.ensures.looks.looked c.in_ok-found.found.file.fid c.in_err-refuse_streamed.field-0.0 c.in_err-refuse_streamed.ensures).1 c.in_ok-found.ensures.cause

pub returns-in_err-refuse_streamed-clause-alone : goal.returns-in_err-refuse_streamed-clause-alone
returns-in_err-refuse_streamed-clause-alone g c = c.find_measured.ensures.looks.looks.alone

pub returns-in_err-write_cut-clause-turns : goal.returns-in_err-write_cut-clause-turns
returns-in_err-write_cut-clause-turns g c = λ told.
    let old = g.D.Tape.tape c.args.disk.now in
    let mid = g.D.Tape.tape c.find_measured.new.disk in
    let new = g.D.Tape.tape c.write_cut.new.disk in
    let s = c.args.session.now in
    let t = c.find_measured.new.session in
    let u = c.write_cut.new.session in
    let target = c.args.target.now in
    let n = c.args.length in
    let x = c.in_ok-found.found in
    let about = c.find_measured.ensures.looks in
    let works = works_looked about.looked in
    let none = none_has about.looked x.file.fid c.in_ok-refuse_streamed.field-0 c.in_ok-refuse_streamed.ensures in
    let e = c.in_err-write_cut.ensures in
    broke_turns old mid new s t u (line.Cut target n) (cut_writes target n) c.requires.obeys []
    (ready_looked old mid s t told about (g.met.D.Disk.counted c.args.disk.now told) (g.met.D.Disk.counted c.find_measured.new.disk told) (g.met.D.Disk.formed c.find_measured.new.disk told))
    e.alone (works_twice works e.works) (cuts_and_stamps x.file.fid x.length n s.moment) (length_text n) (x.file.fid ∷ [])
    (λ sound. cut_plans (pack old) (world_of (kept s)) target n sound c.requires.obeys.taken_up x (c.in_ok-found.ensures.found told sound) c.if-found-length.false none)
    c.in_err-write_cut.field-0.0 c.from_residual-in_err-write_cut.result c.from_residual-in_err-write_cut.ensures.1
    (λ sound. subst (λ k. WritesAll {T = Unit {0}} mid new (kept t) (kept u) (cuts_and_stamps x.file.fid x.length n k) [] (x.file.fid ∷ []) (Err c.in_err-write_cut.field-0.0)) works.moment
    (e.writes told (may_cut (pack old) (pack mid) target x n (looks_pack about.looks told) sound (c.in_ok-found.ensures.found told sound) c.if-found-length.false)))
    e.unrefused

pub returns-in_err-length_text-clause-turns : goal.returns-in_err-length_text-clause-turns
returns-in_err-length_text-clause-turns g c = λ told.
    let old = g.D.Tape.tape c.args.disk.now in
    let mid = g.D.Tape.tape c.find_measured.new.disk in
    let new = g.D.Tape.tape c.write_cut.new.disk in
    let s = c.args.session.now in
    let t = c.find_measured.new.session in
    let u = c.write_cut.new.session in
    let target = c.args.target.now in
    let n = c.args.length in
    let x = c.in_ok-found.found in
    let about = c.find_measured.ensures.looks in
    let works = works_looked about.looked in
    let none = none_has about.looked x.file.fid c.in_ok-refuse_streamed.field-0 c.in_ok-refuse_streamed.ensures in
    let e = c.in_ok-write_cut.ensures in
    late_turns old mid new s t u (line.Cut target n) (cut_writes target n) c.requires.obeys []
    (ready_looked old mid s t told about (g.met.D.Disk.counted c.args.disk.now told) (g.met.D.Disk.counted c.find_measured.new.disk told) (g.met.D.Disk.formed c.find_measured.new.disk told))
    e.alone (works_twice works e.works) (cuts_and_stamps x.file.fid x.length n s.moment) (length_text n) (x.file.fid ∷ [])
    (λ sound. cut_plans (pack old) (world_of (kept s)) target n sound c.requires.obeys.taken_up x (c.in_ok-found.ensures.found told sound) c.if-found-length.false none)
    c.in_ok-write_cut.field-0 c.from_residual-in_err-length_text.result c.from_residual-in_err-length_text.ensures.1
    (λ sound. subst (λ k. WritesAll mid new (kept t) (kept u) (cuts_and_stamps x.file.fid x.length n k) [] (x.file.fid ∷ []) (Ok c.in_ok-write_cut.field-0)) works.moment
    (e.writes told (may_cut (pack old) (pack mid) target x n (looks_pack about.looks told) sound (c.in_ok-found.ensures.found told sound) c.if-found-length.false)))

pub returns-clause-turns : goal.returns-clause-turns
returns-clause-turns g c = λ told.
    let old = g.D.Tape.tape c.args.disk.now in
    let mid = g.D.Tape.tape c.find_measured.new.disk in
    let new = g.D.Tape.tape c.write_cut.new.disk in
    let s = c.args.session.now in
    let t = c.find_measured.new.session in
    let u = c.write_cut.new.session in
    let target = c.args.target.now in
    let n = c.args.length in
    let x = c.in_ok-found.found in
    let about = c.find_measured.ensures.looks in
    let works = works_looked about.looked in
    let none = none_has about.looked x.file.fid c.in_ok-refuse_streamed.field-0 c.in_ok-refuse_streamed.ensures in
    let e = c.in_ok-write_cut.ensures in
    done_turns old mid new s t u (line.Cut target n) (cut_writes target n) c.requires.obeys []
    (ready_looked old mid s t told about (g.met.D.Disk.counted c.args.disk.now told) (g.met.D.Disk.counted c.find_measured.new.disk told) (g.met.D.Disk.formed c.find_measured.new.disk told))
    e.alone (works_twice works e.works) (cuts_and_stamps x.file.fid x.length n s.moment) (length_text n) (x.file.fid ∷ [])
    (λ sound. cut_plans (pack old) (world_of (kept s)) target n sound c.requires.obeys.taken_up x (c.in_ok-found.ensures.found told sound) c.if-found-length.false none)
    c.in_ok-write_cut.field-0 c.in_ok-length_text.field-0 c.in_ok-length_text.ensures
    (λ sound. subst (λ k. WritesAll mid new (kept t) (kept u) (cuts_and_stamps x.file.fid x.length n k) [] (x.file.fid ∷ []) (Ok c.in_ok-write_cut.field-0)) works.moment
    (e.writes told (may_cut (pack old) (pack mid) target x n (looks_pack about.looks told) sound (c.in_ok-found.ensures.found told sound) c.if-found-length.false)))
    (λ v keeping handy none. tt)

pub returns-in_err-found-clause-stays : goal.returns-in_err-found-clause-stays
returns-in_err-found-clause-stays g c = let about = c.find_measured.ensures.looks in stays_worked (g.D.Tape.tape c.args.disk.now) (g.D.Tape.tape c.find_measured.new.disk) (works_looked about.looked) about.looks.alone.grown.form c.requires.obeys.formed

pub returns-then-found-length-clause-stays : goal.returns-then-found-length-clause-stays
returns-then-found-length-clause-stays g c = let about = c.find_measured.ensures.looks in stays_worked (g.D.Tape.tape c.args.disk.now) (g.D.Tape.tape c.find_measured.new.disk) (works_looked about.looked) about.looks.alone.grown.form c.requires.obeys.formed

pub returns-in_err-write_cut-clause-stays : goal.returns-in_err-write_cut-clause-stays
returns-in_err-write_cut-clause-stays g c =
    let about = c.find_measured.ensures.looks in
    stays_worked (g.D.Tape.tape c.args.disk.now) (g.D.Tape.tape c.write_cut.new.disk) (works_twice (works_looked about.looked) c.write_cut.ensures.works) (c.write_cut.ensures.alone.grown.form ∙ about.looks.alone.grown.form) c.requires.obeys.formed

pub returns-in_err-length_text-clause-stays : goal.returns-in_err-length_text-clause-stays
returns-in_err-length_text-clause-stays g c =
    let about = c.find_measured.ensures.looks in
    stays_worked (g.D.Tape.tape c.args.disk.now) (g.D.Tape.tape c.write_cut.new.disk) (works_twice (works_looked about.looked) c.write_cut.ensures.works) (c.write_cut.ensures.alone.grown.form ∙ about.looks.alone.grown.form) c.requires.obeys.formed

pub returns-clause-stays : goal.returns-clause-stays
returns-clause-stays g c =
    let about = c.find_measured.ensures.looks in
    stays_worked (g.D.Tape.tape c.args.disk.now) (g.D.Tape.tape c.write_cut.new.disk) (works_twice (works_looked about.looked) c.write_cut.ensures.works) (c.write_cut.ensures.alone.grown.form ∙ about.looks.alone.grown.form) c.requires.obeys.formed

pub returns-in_err-write_cut-clause-alone : goal.returns-in_err-write_cut-clause-alone
returns-in_err-write_cut-clause-alone g c = alone_twice c.find_measured.ensures.looks.looks.alone c.write_cut.ensures.alone

pub returns-in_err-write_cut-clause-frame : goal.returns-in_err-write_cut-clause-frame
returns-in_err-write_cut-clause-frame g c = usable_looked c.find_measured.ensures.looks.looks c.write_cut.ensures.alone c.write_cut.ensures.frame

pub returns-in_err-length_text-clause-alone : goal.returns-in_err-length_text-clause-alone
returns-in_err-length_text-clause-alone g c = alone_twice c.find_measured.ensures.looks.looks.alone c.write_cut.ensures.alone

pub returns-in_err-length_text-clause-frame : goal.returns-in_err-length_text-clause-frame
returns-in_err-length_text-clause-frame g c = usable_looked c.find_measured.ensures.looks.looks c.write_cut.ensures.alone c.write_cut.ensures.frame

pub returns-clause-alone : goal.returns-clause-alone
returns-clause-alone g c = alone_twice c.find_measured.ensures.looks.looks.alone c.write_cut.ensures.alone

pub returns-clause-frame : goal.returns-clause-frame
returns-clause-frame g c = usable_looked c.find_measured.ensures.looks.looks c.write_cut.ensures.alone c.write_cut.ensures.frame

-- no fault is told here
pub returns-clause-cause : goal.returns-clause-cause
returns-clause-cause g c = c.in_ok-write_cut.ensures.cause ∙ c.in_ok-found.ensures.cause

pub returns-in_err-found-clause-unwritten : goal.returns-in_err-found-clause-unwritten
returns-in_err-found-clause-unwritten g c = λ told. if_refused (added (g.D.Tape.tape c.args.disk.now) (g.D.Tape.tape c.find_measured.new.disk) ≡ []) c.from_residual.result (c.in_err-found.ensures.looks.looks.silent told)

pub returns-in_err-found-clause-cause : goal.returns-in_err-found-clause-cause
returns-in_err-found-clause-cause g c = cause_passed (g.D.Tape.tape c.args.disk.now) (g.D.Tape.tape c.find_measured.new.disk) c.in_err-found.field-0.0 c.from_residual.result c.from_residual.ensures.1 c.in_err-found.ensures.cause

pub returns-in_err-found-clause-alone : goal.returns-in_err-found-clause-alone
returns-in_err-found-clause-alone g c = c.in_err-found.ensures.looks.looks.alone

pub returns-in_err-found-clause-frame : goal.returns-in_err-found-clause-frame
returns-in_err-found-clause-frame g c = usable_looks c.in_err-found.ensures.looks.looks

pub returns-in_err-write_cut-clause-unwritten : goal.returns-in_err-write_cut-clause-unwritten
returns-in_err-write_cut-clause-unwritten g c =
    λ told. never_refused (Unit {0}) (λ x. added (g.D.Tape.tape c.args.disk.now) (g.D.Tape.tape c.write_cut.new.disk) ≡ []) c.in_err-write_cut.field-0.0 c.from_residual-in_err-write_cut.result c.from_residual-in_err-write_cut.ensures.1 c.in_err-write_cut.ensures.unrefused

pub returns-in_err-write_cut-clause-cause : goal.returns-in_err-write_cut-clause-cause
returns-in_err-write_cut-clause-cause g c =
    cause_after (g.D.Tape.tape c.args.disk.now) (g.D.Tape.tape c.find_measured.new.disk) (g.D.Tape.tape c.write_cut.new.disk) c.in_err-write_cut.field-0.0 c.from_residual-in_err-write_cut.result c.from_residual-in_err-write_cut.ensures.1 c.in_ok-found.ensures.cause c.in_err-write_cut.ensures.cause

pub returns-in_err-length_text-clause-unwritten : goal.returns-in_err-length_text-clause-unwritten
returns-in_err-length_text-clause-unwritten g c =
    λ told. never_refused (Unit {0}) (λ x. added (g.D.Tape.tape c.args.disk.now) (g.D.Tape.tape c.write_cut.new.disk) ≡ []) stop.Memory c.from_residual-in_err-length_text.result c.from_residual-in_err-length_text.ensures.1 tt

pub returns-in_err-length_text-clause-cause : goal.returns-in_err-length_text-clause-cause
returns-in_err-length_text-clause-cause g c = cause_passed (g.D.Tape.tape c.args.disk.now) (g.D.Tape.tape c.write_cut.new.disk) stop.Memory c.from_residual-in_err-length_text.result c.from_residual-in_err-length_text.ensures.1 (c.in_ok-write_cut.ensures.cause ∙ c.in_ok-found.ensures.cause)

pub returns-clause-unwritten : goal.returns-clause-unwritten
returns-clause-unwritten g c = λ told. tt

pub returns-then-found-length-clause-alone : goal.returns-then-found-length-clause-alone
returns-then-found-length-clause-alone g c = c.in_ok-found.ensures.looks.looks.alone

pub returns-then-found-length-clause-frame : goal.returns-then-found-length-clause-frame
returns-then-found-length-clause-frame g c = usable_looks c.in_ok-found.ensures.looks.looks

pub returns-then-found-length-clause-unwritten : goal.returns-then-found-length-clause-unwritten
returns-then-found-length-clause-unwritten g c = λ told. if_refused (added (g.D.Tape.tape c.args.disk.now) (g.D.Tape.tape c.find_measured.new.disk) ≡ []) c.refused.result (c.find_measured.ensures.looks.looks.silent told)

pub returns-then-found-length-clause-cause : goal.returns-then-found-length-clause-cause
returns-then-found-length-clause-cause g c = subst (HasCause cause_of_stop (g.D.Tape.tape c.args.disk.now) (g.D.Tape.tape c.find_measured.new.disk)) (sym c.refused.ensures) c.in_ok-found.ensures.cause

pub write_cut-requires-clause-shape : goal.write_cut-requires-clause-shape
write_cut-requires-clause-shape g c =
    let about = c.find_measured.ensures.looks in
    sym (stays_worked (g.D.Tape.tape c.args.disk.now) (g.D.Tape.tape c.find_measured.new.disk) (works_looked about.looked) about.looks.alone.grown.form c.requires.obeys.formed).formed.shape

pub write_cut-requires-clause-sized : goal.write_cut-requires-clause-sized
write_cut-requires-clause-sized g c =
    let about = c.find_measured.ensures.looks in
    (stays_worked (g.D.Tape.tape c.args.disk.now) (g.D.Tape.tape c.find_measured.new.disk) (works_looked about.looked) about.looks.alone.grown.form c.requires.obeys.formed).formed.bits
