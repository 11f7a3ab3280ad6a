use Rattle.std.proofs.Common.{◌+◌, false, sym, ap, ◌∙◌, [], ◌≡◌}
use Rattle.disk_records.proofs.Framing.{usable_looks}
use Rattle.disk_records.proofs.Growing.{alone_twice, silent_twice}
use Rattle.disk_records.proofs.Looking.{looks_pack}
use Rattle.disk_records.specs.Tapes.{pack, added}
use Rattle.exec_words.specs.Texts.{made_text}
use Rattle.exec_words.specs.declared.line.Line.TheVariants as line
use Rattle.session_model.specs.Keeping.{world_of}
use Rattle.exec_session.specs.Meant.{kept}
use Rattle.exec_steps.specs.declared.rooms.NewEntry.{NewEntry}
use Rattle.exec_steps.specs.Asked.{made_fid}
use Rattle.exec_writing.proofs.Ends.{begins_last, planning_stops, text_missing, writing_done, writing_stops}
use Rattle.exec_steps.proofs.Frames.{stays_worked, works_looked, works_twice, cause_after, cause_passed, if_refused, never_refused}
use Rattle.exec_writing.proofs.NamedEntries.{make_adds_there, make_on}
use Rattle.exec_session.proofs.TakingUp.{typed_line}
use Rattle.exec_session.proofs.LookedBefore.{same_count}
use Rattle.alto_words.specs.declared.fid.Fid.{Fid}
use Rattle.exec_session.proofs.Stopping.{refused_of_stop}
use Rattle.exec_session.specs.declared.stop.Stop.TheVariants as stop
use Rattle.exec_session.proofs.Framing.{usable_looked}
use Rattle.exec_writing.proofs.make.make_file.Goals as goal

pub plan_make-requires : goal.plan_make-requires
plan_make-requires g c = record { typed = typed_line (line.Make c.args.path.now) (world_of (kept c.args.session.now)) c.requires.obeys.taken_up }

-- ---- the plan
pub returns-in_err-entry-clause-turns : goal.returns-in_err-entry-clause-turns
returns-in_err-entry-clause-turns g c = λ told.
    planning_stops NewEntry (g.D.Tape.tape c.args.disk.now) (g.D.Tape.tape c.plan_make.new.disk) c.args.session.now c.plan_make.new.session (line.Make c.args.path.now) c.in_err-entry.field-0.0 c.from_residual.result
    (make_on c.args.path.now) told c.requires.obeys c.in_err-entry.ensures.looks c.from_residual.ensures.1 (c.in_err-entry.ensures.refused told) (c.in_err-entry.ensures.misled told)

pub returns-in_err-entry-clause-stays : goal.returns-in_err-entry-clause-stays
returns-in_err-entry-clause-stays g c = stays_worked (g.D.Tape.tape c.args.disk.now) (g.D.Tape.tape c.plan_make.new.disk) (works_looked c.in_err-entry.ensures.looks.looked) c.in_err-entry.ensures.looks.looks.alone.grown.form c.requires.obeys.formed

-- ---- the file
pub add_file-requires-clause-shape : goal.add_file-requires-clause-shape
add_file-requires-clause-shape g c = sym (stays_worked (g.D.Tape.tape c.args.disk.now) (g.D.Tape.tape c.plan_make.new.disk) (works_looked c.in_ok-entry.ensures.looks.looked) c.in_ok-entry.ensures.looks.looks.alone.grown.form c.requires.obeys.formed).formed.shape

pub add_file-requires-clause-sized : goal.add_file-requires-clause-sized
add_file-requires-clause-sized g c = (stays_worked (g.D.Tape.tape c.args.disk.now) (g.D.Tape.tape c.plan_make.new.disk) (works_looked c.in_ok-entry.ensures.looks.looked) c.in_ok-entry.ensures.looks.looks.alone.grown.form c.requires.obeys.formed).formed.bits

pub returns-in_err-fid-clause-turns : goal.returns-in_err-fid-clause-turns
returns-in_err-fid-clause-turns g c = λ told.
    let old = g.D.Tape.tape c.args.disk.now in
    let mid = g.D.Tape.tape c.plan_make.new.disk in
    let new = g.D.Tape.tape c.add_file.new.disk in
    let one = c.plan_make.new.session in
    let own = c.args.path.now in
    let looks = c.in_ok-entry.ensures.looks in
    writing_stops old mid new c.args.session.now one c.add_file.new.session (line.Make own) (make_on own) told c.requires.obeys looks c.in_err-fid.ensures.alone (same_count old mid looks.looks.alone (looks.looks.silent told) (g.met.D.Disk.counted c.args.disk.now told) (g.met.D.Disk.counted c.plan_make.new.disk told)) (g.met.D.Disk.formed c.plan_make.new.disk told) c.in_err-fid.field-0.0 c.from_residual-in_err-fid.result c.from_residual-in_err-fid.ensures.1
    (λ s begins. c.in_err-fid.ensures.writes s (line.Make own) told begins (make_adds_there (pack old) mid (kept one) s own c.in_ok-entry.entry (looks_pack looks.looks told) begins (c.in_ok-entry.ensures.planned told)))

pub returns-in_err-made_text-clause-turns : goal.returns-in_err-made_text-clause-turns
returns-in_err-made_text-clause-turns g c = λ told.
    let old = g.D.Tape.tape c.args.disk.now in
    let mid = g.D.Tape.tape c.plan_make.new.disk in
    let new = g.D.Tape.tape c.add_file.new.disk in
    let one = c.plan_make.new.session in
    let own = c.args.path.now in
    let looks = c.in_ok-entry.ensures.looks in
    text_missing old mid new c.args.session.now one c.add_file.new.session (line.Make own) (make_on own) told c.requires.obeys looks c.in_ok-fid.ensures.alone (same_count old mid looks.looks.alone (looks.looks.silent told) (g.met.D.Disk.counted c.args.disk.now told) (g.met.D.Disk.counted c.plan_make.new.disk told)) (g.met.D.Disk.formed c.plan_make.new.disk told) c.from_residual-in_err-made_text.result c.from_residual-in_err-made_text.ensures.1
    (λ s begins. c.in_ok-fid.ensures.writes s (line.Make own) told begins (make_adds_there (pack old) mid (kept one) s own c.in_ok-entry.entry (looks_pack looks.looks told) begins (c.in_ok-entry.ensures.planned told)))

pub returns-clause-turns : goal.returns-clause-turns
returns-clause-turns g c = λ told.
    let old = g.D.Tape.tape c.args.disk.now in
    let mid = g.D.Tape.tape c.plan_make.new.disk in
    let new = g.D.Tape.tape c.add_file.new.disk in
    let one = c.plan_make.new.session in
    let own = c.args.path.now in
    let looks = c.in_ok-entry.ensures.looks in
    writing_done old mid new c.args.session.now one c.add_file.new.session (line.Make own) (make_on own) told c.requires.obeys looks c.in_ok-fid.ensures.alone (same_count old mid looks.looks.alone (looks.looks.silent told) (g.met.D.Disk.counted c.args.disk.now told) (g.met.D.Disk.counted c.plan_make.new.disk told)) (g.met.D.Disk.formed c.plan_make.new.disk told) c.in_ok-made_text.field-0
    (λ s begins. c.in_ok-fid.ensures.writes s (line.Make own) told begins (make_adds_there (pack old) mid (kept one) s own c.in_ok-entry.entry (looks_pack looks.looks told) begins (c.in_ok-entry.ensures.planned told)))
    (λ s begins. c.in_ok-made_text.ensures ∙ ap made_text (c.in_ok-fid.ensures.made ∙ ap (λ n. made_fid false (n + 1)) (begins_last begins)))

pub returns-in_err-fid-clause-stays : goal.returns-in_err-fid-clause-stays
returns-in_err-fid-clause-stays g c = stays_worked (g.D.Tape.tape c.args.disk.now) (g.D.Tape.tape c.add_file.new.disk) (works_twice (works_looked c.in_ok-entry.ensures.looks.looked) c.in_err-fid.ensures.works) (alone_twice c.in_ok-entry.ensures.looks.looks.alone c.in_err-fid.ensures.alone).grown.form c.requires.obeys.formed

pub returns-in_err-made_text-clause-stays : goal.returns-in_err-made_text-clause-stays
returns-in_err-made_text-clause-stays g c = stays_worked (g.D.Tape.tape c.args.disk.now) (g.D.Tape.tape c.add_file.new.disk) (works_twice (works_looked c.in_ok-entry.ensures.looks.looked) c.in_ok-fid.ensures.works) (alone_twice c.in_ok-entry.ensures.looks.looks.alone c.in_ok-fid.ensures.alone).grown.form c.requires.obeys.formed

pub returns-clause-stays : goal.returns-clause-stays
returns-clause-stays g c = stays_worked (g.D.Tape.tape c.args.disk.now) (g.D.Tape.tape c.add_file.new.disk) (works_twice (works_looked c.in_ok-entry.ensures.looks.looked) c.in_ok-fid.ensures.works) (alone_twice c.in_ok-entry.ensures.looks.looks.alone c.in_ok-fid.ensures.alone).grown.form c.requires.obeys.formed

-- ---- the frame
pub returns-in_err-fid-clause-alone : goal.returns-in_err-fid-clause-alone
returns-in_err-fid-clause-alone g c = alone_twice c.in_ok-entry.ensures.looks.looks.alone c.in_err-fid.ensures.alone

pub returns-in_err-fid-clause-frame : goal.returns-in_err-fid-clause-frame
returns-in_err-fid-clause-frame g c = usable_looked c.in_ok-entry.ensures.looks.looks c.in_err-fid.ensures.alone c.in_err-fid.ensures.frame

pub returns-in_err-made_text-clause-alone : goal.returns-in_err-made_text-clause-alone
returns-in_err-made_text-clause-alone g c = alone_twice c.in_ok-entry.ensures.looks.looks.alone c.in_ok-fid.ensures.alone

pub returns-in_err-made_text-clause-frame : goal.returns-in_err-made_text-clause-frame
returns-in_err-made_text-clause-frame g c = usable_looked c.in_ok-entry.ensures.looks.looks c.in_ok-fid.ensures.alone c.in_ok-fid.ensures.frame

pub returns-clause-alone : goal.returns-clause-alone
returns-clause-alone g c = alone_twice c.in_ok-entry.ensures.looks.looks.alone c.in_ok-fid.ensures.alone

pub returns-clause-frame : goal.returns-clause-frame
returns-clause-frame g c = usable_looked c.in_ok-entry.ensures.looks.looks c.in_ok-fid.ensures.alone c.in_ok-fid.ensures.frame

pub returns-in_err-entry-clause-unwritten : goal.returns-in_err-entry-clause-unwritten
returns-in_err-entry-clause-unwritten g c = λ told. if_refused (added (g.D.Tape.tape c.args.disk.now) (g.D.Tape.tape c.plan_make.new.disk) ≡ []) c.from_residual.result (c.in_err-entry.ensures.looks.looks.silent told)

pub returns-in_err-entry-clause-cause : goal.returns-in_err-entry-clause-cause
returns-in_err-entry-clause-cause g c = cause_passed (g.D.Tape.tape c.args.disk.now) (g.D.Tape.tape c.plan_make.new.disk) c.in_err-entry.field-0.0 c.from_residual.result c.from_residual.ensures.1 c.in_err-entry.ensures.cause

pub returns-in_err-entry-clause-alone : goal.returns-in_err-entry-clause-alone
returns-in_err-entry-clause-alone g c = c.in_err-entry.ensures.looks.looks.alone

pub returns-in_err-entry-clause-frame : goal.returns-in_err-entry-clause-frame
returns-in_err-entry-clause-frame g c = usable_looks c.in_err-entry.ensures.looks.looks

pub returns-in_err-fid-clause-unwritten : goal.returns-in_err-fid-clause-unwritten
returns-in_err-fid-clause-unwritten g c = λ told. refused_of_stop Fid (λ r. added (g.D.Tape.tape c.plan_make.new.disk) (g.D.Tape.tape c.add_file.new.disk) ≡ []) (λ r. added (g.D.Tape.tape c.args.disk.now) (g.D.Tape.tape c.add_file.new.disk) ≡ []) c.in_err-fid.field-0.0 c.from_residual-in_err-fid.result c.from_residual-in_err-fid.ensures.1
    (λ r none. silent_twice c.in_ok-entry.ensures.looks.looks.alone.grown c.in_err-fid.ensures.alone.grown (c.in_ok-entry.ensures.looks.looks.silent told) none) (c.in_err-fid.ensures.unwritten told)

pub returns-in_err-fid-clause-cause : goal.returns-in_err-fid-clause-cause
returns-in_err-fid-clause-cause g c =
    cause_after (g.D.Tape.tape c.args.disk.now) (g.D.Tape.tape c.plan_make.new.disk) (g.D.Tape.tape c.add_file.new.disk) c.in_err-fid.field-0.0 c.from_residual-in_err-fid.result c.from_residual-in_err-fid.ensures.1 c.in_ok-entry.ensures.cause c.in_err-fid.ensures.cause

pub returns-in_err-made_text-clause-unwritten : goal.returns-in_err-made_text-clause-unwritten
returns-in_err-made_text-clause-unwritten g c =
    λ told. never_refused (Unit {0}) (λ x. added (g.D.Tape.tape c.args.disk.now) (g.D.Tape.tape c.add_file.new.disk) ≡ []) stop.Memory c.from_residual-in_err-made_text.result c.from_residual-in_err-made_text.ensures.1 tt

pub returns-in_err-made_text-clause-cause : goal.returns-in_err-made_text-clause-cause
returns-in_err-made_text-clause-cause g c = cause_passed (g.D.Tape.tape c.args.disk.now) (g.D.Tape.tape c.add_file.new.disk) stop.Memory c.from_residual-in_err-made_text.result c.from_residual-in_err-made_text.ensures.1 (c.in_ok-fid.ensures.cause ∙ c.in_ok-entry.ensures.cause)

pub returns-clause-unwritten : goal.returns-clause-unwritten
returns-clause-unwritten g c = λ told. tt

pub returns-clause-cause : goal.returns-clause-cause
returns-clause-cause g c = c.in_ok-fid.ensures.cause ∙ c.in_ok-entry.ensures.cause
