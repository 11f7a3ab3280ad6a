use Rattle.std.proofs.Common.{◌≡◌, ◌∙◌, ◌+◌, ◌∷◌, [], length, Ok, Err, ap, arith, refl, subst, sym}
use Rattle.disk_records.proofs.Framing.{usable_looks}
use Rattle.disk_records.proofs.Growing.{alone_twice, silent_twice}
use Rattle.disk_records.specs.Tapes.{added, pack}
use Rattle.exec_words.specs.Texts.{length_text}
use Rattle.exec_words.specs.declared.line.Line.TheVariants as line
use Rattle.exec_words.specs.declared.reply.Refusal.TheVariants as refusal
use Rattle.session_model.specs.Effects.{appended_ops}
use Rattle.session_model.specs.Keeping.{world_of}
use Rattle.exec_session.specs.Meant.{kept}
use Rattle.exec_session.specs.declared.stop.Stop.TheVariants as stop
use Rattle.exec_writing.specs.Writing.{WritesAll}
use Rattle.exec_writing.specs.declared.measuring.Measured.{Measured}
use Rattle.exec_writing.proofs.Appended.{append_few, append_may, append_planned, append_ready, unreserved_turns}
use Rattle.exec_writing.proofs.Appending.{append_streamed, append_unfound, append_writes, few_bytes}
use Rattle.exec_session.proofs.Causing.{cause_refused}
use Rattle.exec_steps.proofs.Frames.{cause_after, cause_passed, if_refused, never_refused, stays_worked, works_looked, works_reserved, works_twice}
use Rattle.exec_session.proofs.Stopping.{error_is}
use Rattle.exec_writing.proofs.Looked.{refused_turns, unfound_turns}
use Rattle.exec_writing.proofs.Streamed.{none_has, one_has}
use Rattle.exec_writing.proofs.Turns.{broke_turns, done_turns, late_turns}
use Rattle.exec_session.proofs.Framing.{usable_looked}
use Rattle.exec_writing.proofs.append.append_bytes.Goals as goal

pub overflow_cast-more : goal.overflow_cast-more
overflow_cast-more g c = let few = few_bytes (world_of (kept c.args.session.now)) c.args.target.now c.args.bytes.now c.requires.obeys.taken_up in omega (arith, few)

pub pages_added-pages-requires : goal.pages_added-pages-requires
pages_added-pages-requires g c =
    let few = few_bytes (world_of (kept c.args.session.now)) c.args.target.now c.args.bytes.now c.requires.obeys.taken_up in
    let most = c.in_ok-found.ensures.most in
    omega (arith, few, most)

pub overflow_add-found : goal.overflow_add-found
overflow_add-found g c =
    let few = few_bytes (world_of (kept c.args.session.now)) c.args.target.now c.args.bytes.now c.requires.obeys.taken_up in
    let most = c.in_ok-found.ensures.most in
    omega (arith, few, most)

pub returns-in_err-found-clause-turns : goal.returns-in_err-found-clause-turns
returns-in_err-found-clause-turns g c = λ told.
    let old = g.D.Tape.tape c.args.disk.now in
    let new = g.D.Tape.tape c.find_measured.new.disk in
    let s = c.args.session.now in
    let target = c.args.target.now in
    let bytes = c.args.bytes.now in
    unfound_turns old new s c.find_measured.new.session (line.Append target bytes) (append_writes target bytes) told c.requires.obeys c.find_measured.ensures.looks Measured target c.in_err-found.field-0.0 c.from_residual.result c.from_residual.ensures.1 refl
    (λ sound x is. append_unfound (pack old) (world_of (kept s)) target bytes sound c.requires.obeys.taken_up x is)
    (c.in_err-found.ensures.refused told) (c.in_err-found.ensures.misled told)

-- ---- an open stream has the file
pub returns-in_err-refuse_streamed-clause-turns : goal.returns-in_err-refuse_streamed-clause-turns
returns-in_err-refuse_streamed-clause-turns g c = λ told.
    let old = g.D.Tape.tape c.args.disk.now in
    let s = c.args.session.now in
    let about = c.find_measured.ensures.looks in
    let x = c.in_ok-found.found in
    let t = one_has about.looked x.file.fid c.in_err-refuse_streamed.field-0.0 c.in_err-refuse_streamed.ensures in
    refused_turns old (g.D.Tape.tape c.find_measured.new.disk) s c.find_measured.new.session (line.Append c.args.target.now c.args.bytes.now) (append_writes c.args.target.now c.args.bytes.now) told c.requires.obeys about refusal.StreamsOpen c.from_residual-in_err-refuse_streamed.result
    (error_is c.from_residual-in_err-refuse_streamed.result c.from_residual-in_err-refuse_streamed.ensures.1 ∙ ap Err t.1)
    (λ sound. append_streamed (pack old) (world_of (kept s)) c.args.target.now c.args.bytes.now sound c.requires.obeys.taken_up x (c.in_ok-found.ensures.found told sound) t.0)

pub returns-in_err-refuse_streamed-clause-unwritten : goal.returns-in_err-refuse_streamed-clause-unwritten
returns-in_err-refuse_streamed-clause-unwritten g c = λ told. if_refused (added (g.D.Tape.tape c.args.disk.now) (g.D.Tape.tape c.find_measured.new.disk) ≡ []) c.from_residual-in_err-refuse_streamed.result (c.find_measured.ensures.looks.looks.silent told)

pub returns-in_err-refuse_streamed-clause-stays : goal.returns-in_err-refuse_streamed-clause-stays
returns-in_err-refuse_streamed-clause-stays g c = let about = c.find_measured.ensures.looks in stays_worked (g.D.Tape.tape c.args.disk.now) (g.D.Tape.tape c.find_measured.new.disk) (works_looked about.looked) about.looks.alone.grown.form c.requires.obeys.formed

pub returns-in_err-refuse_streamed-clause-cause : goal.returns-in_err-refuse_streamed-clause-cause
returns-in_err-refuse_streamed-clause-cause g c =
    cause_refused (g.D.Tape.tape c.args.disk.now) (g.D.Tape.tape c.find_measured.new.disk) c.in_err-refuse_streamed.field-0.0 refusal.StreamsOpen c.from_residual-in_err-refuse_streamed.result c.from_residual-in_err-refuse_streamed.ensures.1
    (one_has c.find_measured.ensures.looks.looked c.in_ok-found.found.file.fid c.in_err-refuse_streamed.field-0.0 c.in_err-refuse_streamed.ensures).1 c.in_ok-found.ensures.cause

pub returns-in_err-refuse_streamed-clause-alone : goal.returns-in_err-refuse_streamed-clause-alone
returns-in_err-refuse_streamed-clause-alone g c = c.find_measured.ensures.looks.looks.alone

pub returns-in_err-fresh-clause-turns : goal.returns-in_err-fresh-clause-turns
returns-in_err-fresh-clause-turns g c = λ told.
    let e = c.reserve_pages.ensures in
    unreserved_turns (g.D.Tape.tape c.args.disk.now) (g.D.Tape.tape c.find_measured.new.disk) (g.D.Tape.tape c.reserve_pages.new.disk) c.args.session.now c.find_measured.new.session c.reserve_pages.new.session c.args.target.now c.args.bytes.now c.in_ok-found.found c.pages_added-pages.result
    told c.requires.obeys c.find_measured.ensures.looks e.looks e.same c.pages_added-pages.ensures (c.in_ok-found.ensures.found told)
    (none_has c.find_measured.ensures.looks.looked c.in_ok-found.found.file.fid c.in_ok-refuse_streamed.field-0 c.in_ok-refuse_streamed.ensures) c.reserve_pages.result c.in_err-fresh.field-0.0 c.from_residual-in_err-fresh.result c.in_err-fresh.was c.from_residual-in_err-fresh.ensures.1
    (e.full told) e.never_misled (e.stays_true told)

pub returns-in_err-write_append-clause-turns : goal.returns-in_err-write_append-clause-turns
returns-in_err-write_append-clause-turns g c = λ told.
    let old = g.D.Tape.tape c.args.disk.now in
    let mid = g.D.Tape.tape c.find_measured.new.disk in
    let at = g.D.Tape.tape c.reserve_pages.new.disk in
    let new = g.D.Tape.tape c.write_append.new.disk in
    let s = c.args.session.now in
    let t = c.find_measured.new.session in
    let u = c.reserve_pages.new.session in
    let v = c.write_append.new.session in
    let target = c.args.target.now in
    let bytes = c.args.bytes.now in
    let x = c.in_ok-found.found in
    let about = c.find_measured.ensures.looks in
    let r = c.in_ok-fresh.ensures in
    let e = c.in_err-write_append.ensures in
    let works = works_twice (works_looked about.looked) (works_reserved r.same r.sized) in
    let found = c.in_ok-found.ensures.found told in
    let none = none_has about.looked x.file.fid c.in_ok-refuse_streamed.field-0 c.in_ok-refuse_streamed.ensures in
    let first = g.met.D.Disk.counted c.args.disk.now told in
    let next = g.met.D.Disk.counted c.reserve_pages.new.disk told in
    let formed = g.met.D.Disk.formed c.reserve_pages.new.disk told in
    broke_turns old at new s u v (line.Append target bytes) (append_writes target bytes) c.requires.obeys c.deref.result.now
    (append_ready old mid at s t u target bytes c.in_ok-fresh.fresh.items c.deref.result.now x c.pages_added-pages.result told c.requires.obeys about r.looks r.same c.deref.ensures.value c.pages_added-pages.ensures found none r.reserved (r.free told) (r.enough told) (r.table told) first next formed)
    e.alone (works_twice works e.works) (appended_ops x.file.fid bytes s.moment) (length_text (x.length + length bytes)) (x.file.fid ∷ [])
    (append_planned old mid at s t u target bytes c.in_ok-fresh.fresh.items c.deref.result.now x c.pages_added-pages.result told c.requires.obeys about r.looks r.same c.deref.ensures.value c.pages_added-pages.ensures found none r.reserved (r.free told) (r.enough told) (r.table told) first next formed)
    c.in_err-write_append.field-0.0 c.from_residual-in_err-write_append.result c.from_residual-in_err-write_append.ensures.1
    (λ sound. subst (λ k. WritesAll {T = Unit {0}} at new (kept u) (kept v) (appended_ops x.file.fid bytes k) c.deref.result.now (x.file.fid ∷ []) (Err c.in_err-write_append.field-0.0)) works.moment
    (e.writes told (append_may old mid at s t u target bytes c.in_ok-fresh.fresh.items c.deref.result.now x c.pages_added-pages.result told c.requires.obeys about r.looks r.same c.deref.ensures.value c.pages_added-pages.ensures found none r.reserved (r.free told) (r.enough told) (r.table told) first next formed sound)))
    e.unrefused

pub returns-in_err-length_text-clause-turns : goal.returns-in_err-length_text-clause-turns
returns-in_err-length_text-clause-turns g c = λ told.
    let old = g.D.Tape.tape c.args.disk.now in
    let mid = g.D.Tape.tape c.find_measured.new.disk in
    let at = g.D.Tape.tape c.reserve_pages.new.disk in
    let new = g.D.Tape.tape c.write_append.new.disk in
    let s = c.args.session.now in
    let t = c.find_measured.new.session in
    let u = c.reserve_pages.new.session in
    let v = c.write_append.new.session in
    let target = c.args.target.now in
    let bytes = c.args.bytes.now in
    let x = c.in_ok-found.found in
    let about = c.find_measured.ensures.looks in
    let r = c.in_ok-fresh.ensures in
    let e = c.in_ok-write_append.ensures in
    let works = works_twice (works_looked about.looked) (works_reserved r.same r.sized) in
    let found = c.in_ok-found.ensures.found told in
    let none = none_has about.looked x.file.fid c.in_ok-refuse_streamed.field-0 c.in_ok-refuse_streamed.ensures in
    let first = g.met.D.Disk.counted c.args.disk.now told in
    let next = g.met.D.Disk.counted c.reserve_pages.new.disk told in
    let formed = g.met.D.Disk.formed c.reserve_pages.new.disk told in
    late_turns old at new s u v (line.Append target bytes) (append_writes target bytes) c.requires.obeys c.deref.result.now
    (append_ready old mid at s t u target bytes c.in_ok-fresh.fresh.items c.deref.result.now x c.pages_added-pages.result told c.requires.obeys about r.looks r.same c.deref.ensures.value c.pages_added-pages.ensures found none r.reserved (r.free told) (r.enough told) (r.table told) first next formed)
    e.alone (works_twice works e.works) (appended_ops x.file.fid bytes s.moment) (length_text (x.length + length bytes)) (x.file.fid ∷ [])
    (append_planned old mid at s t u target bytes c.in_ok-fresh.fresh.items c.deref.result.now x c.pages_added-pages.result told c.requires.obeys about r.looks r.same c.deref.ensures.value c.pages_added-pages.ensures found none r.reserved (r.free told) (r.enough told) (r.table told) first next formed)
    c.in_ok-write_append.field-0 c.from_residual-in_err-length_text.result c.from_residual-in_err-length_text.ensures.1
    (λ sound. subst (λ k. WritesAll at new (kept u) (kept v) (appended_ops x.file.fid bytes k) c.deref.result.now (x.file.fid ∷ []) (Ok c.in_ok-write_append.field-0)) works.moment
    (e.writes told (append_may old mid at s t u target bytes c.in_ok-fresh.fresh.items c.deref.result.now x c.pages_added-pages.result told c.requires.obeys about r.looks r.same c.deref.ensures.value c.pages_added-pages.ensures found none r.reserved (r.free told) (r.enough told) (r.table told) first next formed sound)))

pub returns-clause-turns : goal.returns-clause-turns
returns-clause-turns g c = λ told.
    let old = g.D.Tape.tape c.args.disk.now in
    let mid = g.D.Tape.tape c.find_measured.new.disk in
    let at = g.D.Tape.tape c.reserve_pages.new.disk in
    let new = g.D.Tape.tape c.write_append.new.disk in
    let s = c.args.session.now in
    let t = c.find_measured.new.session in
    let u = c.reserve_pages.new.session in
    let v = c.write_append.new.session in
    let target = c.args.target.now in
    let bytes = c.args.bytes.now in
    let x = c.in_ok-found.found in
    let about = c.find_measured.ensures.looks in
    let r = c.in_ok-fresh.ensures in
    let e = c.in_ok-write_append.ensures in
    let works = works_twice (works_looked about.looked) (works_reserved r.same r.sized) in
    let found = c.in_ok-found.ensures.found told in
    let none = none_has about.looked x.file.fid c.in_ok-refuse_streamed.field-0 c.in_ok-refuse_streamed.ensures in
    let first = g.met.D.Disk.counted c.args.disk.now told in
    let next = g.met.D.Disk.counted c.reserve_pages.new.disk told in
    let formed = g.met.D.Disk.formed c.reserve_pages.new.disk told in
    done_turns old at new s u v (line.Append target bytes) (append_writes target bytes) c.requires.obeys c.deref.result.now
    (append_ready old mid at s t u target bytes c.in_ok-fresh.fresh.items c.deref.result.now x c.pages_added-pages.result told c.requires.obeys about r.looks r.same c.deref.ensures.value c.pages_added-pages.ensures found none r.reserved (r.free told) (r.enough told) (r.table told) first next formed)
    e.alone (works_twice works e.works) (appended_ops x.file.fid bytes s.moment) (length_text (x.length + length bytes)) (x.file.fid ∷ [])
    (append_planned old mid at s t u target bytes c.in_ok-fresh.fresh.items c.deref.result.now x c.pages_added-pages.result told c.requires.obeys about r.looks r.same c.deref.ensures.value c.pages_added-pages.ensures found none r.reserved (r.free told) (r.enough told) (r.table told) first next formed)
    c.in_ok-write_append.field-0 c.in_ok-length_text.field-0 c.in_ok-length_text.ensures
    (λ sound. subst (λ k. WritesAll at new (kept u) (kept v) (appended_ops x.file.fid bytes k) c.deref.result.now (x.file.fid ∷ []) (Ok c.in_ok-write_append.field-0)) works.moment
    (e.writes told (append_may old mid at s t u target bytes c.in_ok-fresh.fresh.items c.deref.result.now x c.pages_added-pages.result told c.requires.obeys about r.looks r.same c.deref.ensures.value c.pages_added-pages.ensures found none r.reserved (r.free told) (r.enough told) (r.table told) first next formed sound)))
    (λ st keeping. append_few old mid at s t u target bytes c.in_ok-fresh.fresh.items c.deref.result.now x c.pages_added-pages.result told c.requires.obeys about r.looks r.same c.deref.ensures.value c.pages_added-pages.ensures found none r.reserved (r.free told) (r.enough told) (r.table told) first next formed r.sized new v e.works e.alone st keeping
    (λ path is handy. c.in_ok-found.ensures.quick path told is handy) (r.soon told) (λ one place grows start quick ends. e.quick one place told grows start quick ends))

pub returns-in_err-found-clause-stays : goal.returns-in_err-found-clause-stays
returns-in_err-found-clause-stays g c = let about = c.find_measured.ensures.looks in stays_worked (g.D.Tape.tape c.args.disk.now) (g.D.Tape.tape c.find_measured.new.disk) (works_looked about.looked) about.looks.alone.grown.form c.requires.obeys.formed

pub returns-in_err-fresh-clause-stays : goal.returns-in_err-fresh-clause-stays
returns-in_err-fresh-clause-stays g c =
    let about = c.find_measured.ensures.looks in
    let r = c.reserve_pages.ensures in
    stays_worked (g.D.Tape.tape c.args.disk.now) (g.D.Tape.tape c.reserve_pages.new.disk) (works_twice (works_looked about.looked) (works_reserved r.same r.sized)) (r.looks.alone.grown.form ∙ about.looks.alone.grown.form) c.requires.obeys.formed

pub returns-in_err-write_append-clause-stays : goal.returns-in_err-write_append-clause-stays
returns-in_err-write_append-clause-stays g c =
    let about = c.find_measured.ensures.looks in
    let r = c.reserve_pages.ensures in
    let e = c.write_append.ensures in
    stays_worked (g.D.Tape.tape c.args.disk.now) (g.D.Tape.tape c.write_append.new.disk) (works_twice (works_twice (works_looked about.looked) (works_reserved r.same r.sized)) e.works) (e.alone.grown.form ∙ r.looks.alone.grown.form ∙ about.looks.alone.grown.form) c.requires.obeys.formed

pub returns-in_err-length_text-clause-stays : goal.returns-in_err-length_text-clause-stays
returns-in_err-length_text-clause-stays g c =
    let about = c.find_measured.ensures.looks in
    let r = c.reserve_pages.ensures in
    let e = c.write_append.ensures in
    stays_worked (g.D.Tape.tape c.args.disk.now) (g.D.Tape.tape c.write_append.new.disk) (works_twice (works_twice (works_looked about.looked) (works_reserved r.same r.sized)) e.works) (e.alone.grown.form ∙ r.looks.alone.grown.form ∙ about.looks.alone.grown.form) c.requires.obeys.formed

pub returns-clause-stays : goal.returns-clause-stays
returns-clause-stays g c =
    let about = c.find_measured.ensures.looks in
    let r = c.reserve_pages.ensures in
    let e = c.write_append.ensures in
    stays_worked (g.D.Tape.tape c.args.disk.now) (g.D.Tape.tape c.write_append.new.disk) (works_twice (works_twice (works_looked about.looked) (works_reserved r.same r.sized)) e.works) (e.alone.grown.form ∙ r.looks.alone.grown.form ∙ about.looks.alone.grown.form) c.requires.obeys.formed

pub returns-in_err-fresh-clause-alone : goal.returns-in_err-fresh-clause-alone
returns-in_err-fresh-clause-alone g c = alone_twice c.find_measured.ensures.looks.looks.alone c.reserve_pages.ensures.looks.alone

pub returns-in_err-fresh-clause-frame : goal.returns-in_err-fresh-clause-frame
returns-in_err-fresh-clause-frame g c = usable_looked c.find_measured.ensures.looks.looks c.reserve_pages.ensures.looks.alone (usable_looks c.reserve_pages.ensures.looks)

pub returns-in_err-write_append-clause-alone : goal.returns-in_err-write_append-clause-alone
returns-in_err-write_append-clause-alone g c = alone_twice (alone_twice c.find_measured.ensures.looks.looks.alone c.reserve_pages.ensures.looks.alone) c.write_append.ensures.alone

pub returns-in_err-write_append-clause-frame : goal.returns-in_err-write_append-clause-frame
returns-in_err-write_append-clause-frame g c = usable_looked c.find_measured.ensures.looks.looks (alone_twice c.reserve_pages.ensures.looks.alone c.write_append.ensures.alone) (usable_looked c.reserve_pages.ensures.looks c.write_append.ensures.alone c.write_append.ensures.frame)

pub returns-in_err-length_text-clause-alone : goal.returns-in_err-length_text-clause-alone
returns-in_err-length_text-clause-alone g c = alone_twice (alone_twice c.find_measured.ensures.looks.looks.alone c.reserve_pages.ensures.looks.alone) c.write_append.ensures.alone

pub returns-in_err-length_text-clause-frame : goal.returns-in_err-length_text-clause-frame
returns-in_err-length_text-clause-frame g c = usable_looked c.find_measured.ensures.looks.looks (alone_twice c.reserve_pages.ensures.looks.alone c.write_append.ensures.alone) (usable_looked c.reserve_pages.ensures.looks c.write_append.ensures.alone c.write_append.ensures.frame)

pub returns-clause-alone : goal.returns-clause-alone
returns-clause-alone g c = alone_twice (alone_twice c.find_measured.ensures.looks.looks.alone c.reserve_pages.ensures.looks.alone) c.write_append.ensures.alone

pub returns-clause-frame : goal.returns-clause-frame
returns-clause-frame g c = usable_looked c.find_measured.ensures.looks.looks (alone_twice c.reserve_pages.ensures.looks.alone c.write_append.ensures.alone) (usable_looked c.reserve_pages.ensures.looks c.write_append.ensures.alone c.write_append.ensures.frame)

-- ---- a refusal comes before the first record write
pub returns-in_err-found-clause-unwritten : goal.returns-in_err-found-clause-unwritten
returns-in_err-found-clause-unwritten g c = λ told. if_refused (added (g.D.Tape.tape c.args.disk.now) (g.D.Tape.tape c.find_measured.new.disk) ≡ []) c.from_residual.result (c.find_measured.ensures.looks.looks.silent told)

pub returns-in_err-fresh-clause-unwritten : goal.returns-in_err-fresh-clause-unwritten
returns-in_err-fresh-clause-unwritten g c = λ told.
    let h = c.find_measured.ensures.looks.looks in
    let r = c.reserve_pages.ensures.looks in
    if_refused (added (g.D.Tape.tape c.args.disk.now) (g.D.Tape.tape c.reserve_pages.new.disk) ≡ []) c.from_residual-in_err-fresh.result (silent_twice h.alone.grown r.alone.grown (h.silent told) (r.silent told))

pub returns-in_err-write_append-clause-unwritten : goal.returns-in_err-write_append-clause-unwritten
returns-in_err-write_append-clause-unwritten g c = λ told.
    never_refused (Unit {0}) (λ x. added (g.D.Tape.tape c.args.disk.now) (g.D.Tape.tape c.write_append.new.disk) ≡ []) c.in_err-write_append.field-0.0 c.from_residual-in_err-write_append.result c.from_residual-in_err-write_append.ensures.1 c.in_err-write_append.ensures.unrefused

pub returns-in_err-length_text-clause-unwritten : goal.returns-in_err-length_text-clause-unwritten
returns-in_err-length_text-clause-unwritten g c = λ told.
    never_refused (Unit {0}) (λ x. added (g.D.Tape.tape c.args.disk.now) (g.D.Tape.tape c.write_append.new.disk) ≡ []) stop.Memory c.from_residual-in_err-length_text.result c.from_residual-in_err-length_text.ensures.1 tt

-- ---- the cause of a fault
pub returns-in_err-found-clause-cause : goal.returns-in_err-found-clause-cause
returns-in_err-found-clause-cause g c = cause_passed (g.D.Tape.tape c.args.disk.now) (g.D.Tape.tape c.find_measured.new.disk) c.in_err-found.field-0.0 c.from_residual.result c.from_residual.ensures.1 c.in_err-found.ensures.cause

pub returns-in_err-fresh-clause-cause : goal.returns-in_err-fresh-clause-cause
returns-in_err-fresh-clause-cause g c =
    cause_after (g.D.Tape.tape c.args.disk.now) (g.D.Tape.tape c.find_measured.new.disk) (g.D.Tape.tape c.reserve_pages.new.disk) c.in_err-fresh.field-0.0 c.from_residual-in_err-fresh.result c.from_residual-in_err-fresh.ensures.1 c.in_ok-found.ensures.cause c.in_err-fresh.ensures.cause

pub returns-in_err-write_append-clause-cause : goal.returns-in_err-write_append-clause-cause
returns-in_err-write_append-clause-cause g c =
    cause_after (g.D.Tape.tape c.args.disk.now) (g.D.Tape.tape c.reserve_pages.new.disk) (g.D.Tape.tape c.write_append.new.disk) c.in_err-write_append.field-0.0 c.from_residual-in_err-write_append.result c.from_residual-in_err-write_append.ensures.1
    (c.in_ok-fresh.ensures.cause ∙ c.in_ok-found.ensures.cause) c.in_err-write_append.ensures.cause

pub returns-in_err-length_text-clause-cause : goal.returns-in_err-length_text-clause-cause
returns-in_err-length_text-clause-cause g c = cause_passed (g.D.Tape.tape c.args.disk.now) (g.D.Tape.tape c.write_append.new.disk) stop.Memory c.from_residual-in_err-length_text.result c.from_residual-in_err-length_text.ensures.1 (c.in_ok-write_append.ensures.cause ∙ c.in_ok-fresh.ensures.cause ∙ c.in_ok-found.ensures.cause)

pub returns-in_err-found-clause-alone : goal.returns-in_err-found-clause-alone
returns-in_err-found-clause-alone g c = c.in_err-found.ensures.looks.looks.alone

pub returns-in_err-found-clause-frame : goal.returns-in_err-found-clause-frame
returns-in_err-found-clause-frame g c = usable_looks c.in_err-found.ensures.looks.looks

pub returns-clause-unwritten : goal.returns-clause-unwritten
returns-clause-unwritten g c = λ told. tt

pub returns-clause-cause : goal.returns-clause-cause
returns-clause-cause g c = c.in_ok-write_append.ensures.cause ∙ c.in_ok-fresh.ensures.cause ∙ c.in_ok-found.ensures.cause

pub reserve_pages-requires-clause-shape : goal.reserve_pages-requires-clause-shape
reserve_pages-requires-clause-shape g c =
    let about = c.find_measured.ensures.looks in
    sym (stays_worked (g.D.Tape.tape c.args.disk.now) (g.D.Tape.tape c.find_measured.new.disk) (works_looked about.looked) about.looks.alone.grown.form c.requires.obeys.formed).formed.shape

pub reserve_pages-requires-clause-sized : goal.reserve_pages-requires-clause-sized
reserve_pages-requires-clause-sized g c =
    let about = c.find_measured.ensures.looks in
    (stays_worked (g.D.Tape.tape c.args.disk.now) (g.D.Tape.tape c.find_measured.new.disk) (works_looked about.looked) about.looks.alone.grown.form c.requires.obeys.formed).formed.bits

pub write_append-requires-clause-shape : goal.write_append-requires-clause-shape
write_append-requires-clause-shape g c =
    let about = c.find_measured.ensures.looks in
    let r = c.reserve_pages.ensures in
    sym (stays_worked (g.D.Tape.tape c.args.disk.now) (g.D.Tape.tape c.reserve_pages.new.disk) (works_twice (works_looked about.looked) (works_reserved r.same r.sized)) (r.looks.alone.grown.form ∙ about.looks.alone.grown.form) c.requires.obeys.formed).formed.shape

pub write_append-requires-clause-sized : goal.write_append-requires-clause-sized
write_append-requires-clause-sized g c =
    let about = c.find_measured.ensures.looks in
    let r = c.reserve_pages.ensures in
    (stays_worked (g.D.Tape.tape c.args.disk.now) (g.D.Tape.tape c.reserve_pages.new.disk) (works_twice (works_looked about.looked) (works_reserved r.same r.sized)) (r.looks.alone.grown.form ∙ about.looks.alone.grown.form) c.requires.obeys.formed).formed.bits
