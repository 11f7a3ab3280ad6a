use Rattle.std.proofs.Common.{◌≡◌, ◌+◌, false, ap, subst, sym, ◌∙◌, []}
use Rattle.disk_records.proofs.Framing.{usable_looks}
use Rattle.disk_records.proofs.Growing.{alone_twice, silent_twice}
use Rattle.disk_records.proofs.Looking.{looks_pack}
use Rattle.disk_records.specs.Tapes.{Taped, pack, added}
use Rattle.exec_words.specs.Typed.{is_typed_file, is_typed_path}
use Rattle.exec_words.specs.declared.line.Line.TheVariants as line
use Rattle.exec_words.specs.Texts.{made_text}
use Rattle.exec_words.specs.declared.line.Path.{Path}
use Rattle.exec_words.specs.declared.line.Target.{Target}
use Rattle.pack_model.specs.states.Sound.{Sound}
use Rattle.session_model.specs.Keeping.{Kept, world_of}
use Rattle.session_model.specs.Turning.{State}
use Rattle.exec_session.specs.Meant.{kept}
use Rattle.exec_session.specs.Turned.{Begins}
use Rattle.exec_steps.specs.Asked.{made_fid}
use Rattle.exec_writing.specs.Plans.{IsCopying}
use Rattle.exec_writing.specs.declared.copy.Copying.{Copying}
use Rattle.exec_writing.proofs.Ends.{begins_last, begins_sound, planning_stops, text_missing, writing_done, writing_stops}
use Rattle.exec_steps.proofs.Frames.{stays_worked, works_looked, works_twice, cause_after, cause_passed, if_refused, never_refused}
use Rattle.exec_session.proofs.TakingUp.{typed_line}
use Rattle.exec_writing.proofs.Refusing.{both}
use Rattle.exec_writing.proofs.Sorts.{copy_on}
use Rattle.exec_session.proofs.LookedBefore.{same_count}
use Rattle.alto_words.specs.declared.fid.Fid.{Fid}
use Rattle.exec_session.proofs.Stopping.{refused_of_stop}
use Rattle.exec_session.specs.declared.stop.Stop.TheVariants as stop
use Rattle.exec_session.proofs.Framing.{usable_looked}
use Rattle.exec_writing.proofs.copy.copy_file.Goals as goal

-- what is planned, on the pack that is as it was
planned_there : (a b : Taped) {k : Kept} {s : State} {target : Target} {path : Path} {plan : Copying} → pack b ≡ pack a → Begins b k s (line.Copy target path) → (Sound (pack a) → IsCopying (pack a) target path plan) → IsCopying (pack b) target path plan
planned_there a b {k} {s} {target} {path} {plan} same begins planned = subst (λ p. IsCopying p target path plan) (sym same) (planned (subst Sound same (begins_sound begins)))

-- ---- the plan
pub plan_copy-requires : goal.plan_copy-requires
plan_copy-requires g c = record { typed = both (is_typed_file c.args.target.now) (is_typed_path c.args.path.now) (typed_line (line.Copy c.args.target.now c.args.path.now) (world_of (kept c.args.session.now)) c.requires.obeys.taken_up) }

pub returns-in_err-plan-clause-turns : goal.returns-in_err-plan-clause-turns
returns-in_err-plan-clause-turns g c = λ told.
    let target = c.args.target.now in
    let path = c.args.path.now in
    let h = c.in_err-plan.ensures in
    planning_stops Copying (g.D.Tape.tape c.args.disk.now) (g.D.Tape.tape c.plan_copy.new.disk) c.args.session.now c.plan_copy.new.session (line.Copy target path) c.in_err-plan.field-0.0 c.from_residual.result
    (copy_on target path) told c.requires.obeys h.looks c.from_residual.ensures.1 (h.refused told) (h.misled told)

pub returns-in_err-plan-clause-stays : goal.returns-in_err-plan-clause-stays
returns-in_err-plan-clause-stays g c = stays_worked (g.D.Tape.tape c.args.disk.now) (g.D.Tape.tape c.plan_copy.new.disk) (works_looked c.in_err-plan.ensures.looks.looked) c.in_err-plan.ensures.looks.looks.alone.grown.form c.requires.obeys.formed

-- ---- what is required
pub apply_copy-requires-clause-shape : goal.apply_copy-requires-clause-shape
apply_copy-requires-clause-shape g c = sym (stays_worked (g.D.Tape.tape c.args.disk.now) (g.D.Tape.tape c.plan_copy.new.disk) (works_looked c.in_ok-plan.ensures.looks.looked) c.in_ok-plan.ensures.looks.looks.alone.grown.form c.requires.obeys.formed).formed.shape

pub apply_copy-requires-clause-sized : goal.apply_copy-requires-clause-sized
apply_copy-requires-clause-sized g c = (stays_worked (g.D.Tape.tape c.args.disk.now) (g.D.Tape.tape c.plan_copy.new.disk) (works_looked c.in_ok-plan.ensures.looks.looked) c.in_ok-plan.ensures.looks.looks.alone.grown.form c.requires.obeys.formed).formed.bits

-- ---- the disk alone
pub returns-in_err-fid-clause-alone : goal.returns-in_err-fid-clause-alone
returns-in_err-fid-clause-alone g c = alone_twice c.in_ok-plan.ensures.looks.looks.alone c.in_err-fid.ensures.alone

pub returns-in_err-fid-clause-frame : goal.returns-in_err-fid-clause-frame
returns-in_err-fid-clause-frame g c = usable_looked c.in_ok-plan.ensures.looks.looks c.in_err-fid.ensures.alone c.in_err-fid.ensures.frame

pub returns-in_err-made_text-clause-alone : goal.returns-in_err-made_text-clause-alone
returns-in_err-made_text-clause-alone g c = alone_twice c.in_ok-plan.ensures.looks.looks.alone c.in_ok-fid.ensures.alone

pub returns-in_err-made_text-clause-frame : goal.returns-in_err-made_text-clause-frame
returns-in_err-made_text-clause-frame g c = usable_looked c.in_ok-plan.ensures.looks.looks c.in_ok-fid.ensures.alone c.in_ok-fid.ensures.frame

pub returns-clause-alone : goal.returns-clause-alone
returns-clause-alone g c = alone_twice c.in_ok-plan.ensures.looks.looks.alone c.in_ok-fid.ensures.alone

pub returns-clause-frame : goal.returns-clause-frame
returns-clause-frame g c = usable_looked c.in_ok-plan.ensures.looks.looks c.in_ok-fid.ensures.alone c.in_ok-fid.ensures.frame

-- ---- the steps
pub returns-in_err-fid-clause-turns : goal.returns-in_err-fid-clause-turns
returns-in_err-fid-clause-turns g c = λ told.
    let a = g.D.Tape.tape c.args.disk.now in
    let b = g.D.Tape.tape c.plan_copy.new.disk in
    let d = g.D.Tape.tape c.apply_copy.new.disk in
    let s1 = c.plan_copy.new.session in
    let target = c.args.target.now in
    let path = c.args.path.now in
    let h = c.in_ok-plan.ensures in
    let w = c.in_err-fid.ensures in
    let count = same_count a b h.looks.looks.alone (h.looks.looks.silent told) (g.met.D.Disk.counted c.args.disk.now told) (g.met.D.Disk.counted c.plan_copy.new.disk told) in
    writing_stops a b d c.args.session.now s1 c.apply_copy.new.session (line.Copy target path) (copy_on target path) told c.requires.obeys h.looks w.alone count (g.met.D.Disk.formed c.plan_copy.new.disk told) c.in_err-fid.field-0.0 c.from_residual-in_err-fid.result c.from_residual-in_err-fid.ensures.1
    (λ s begins. w.writes s target path told begins (planned_there a b (looks_pack h.looks.looks told) begins (h.planned told)))

pub returns-in_err-fid-clause-stays : goal.returns-in_err-fid-clause-stays
returns-in_err-fid-clause-stays g c =
    let h = c.in_ok-plan.ensures in
    let w = c.in_err-fid.ensures in
    stays_worked (g.D.Tape.tape c.args.disk.now) (g.D.Tape.tape c.apply_copy.new.disk) (works_twice (works_looked h.looks.looked) w.works) (alone_twice h.looks.looks.alone w.alone).grown.form c.requires.obeys.formed

pub returns-in_err-made_text-clause-turns : goal.returns-in_err-made_text-clause-turns
returns-in_err-made_text-clause-turns g c = λ told.
    let a = g.D.Tape.tape c.args.disk.now in
    let b = g.D.Tape.tape c.plan_copy.new.disk in
    let d = g.D.Tape.tape c.apply_copy.new.disk in
    let s1 = c.plan_copy.new.session in
    let target = c.args.target.now in
    let path = c.args.path.now in
    let h = c.in_ok-plan.ensures in
    let w = c.in_ok-fid.ensures in
    let count = same_count a b h.looks.looks.alone (h.looks.looks.silent told) (g.met.D.Disk.counted c.args.disk.now told) (g.met.D.Disk.counted c.plan_copy.new.disk told) in
    text_missing a b d c.args.session.now s1 c.apply_copy.new.session (line.Copy target path) (copy_on target path) told c.requires.obeys h.looks w.alone count (g.met.D.Disk.formed c.plan_copy.new.disk told) c.from_residual-in_err-made_text.result c.from_residual-in_err-made_text.ensures.1
    (λ s begins. w.writes s target path told begins (planned_there a b (looks_pack h.looks.looks told) begins (h.planned told)))

pub returns-in_err-made_text-clause-stays : goal.returns-in_err-made_text-clause-stays
returns-in_err-made_text-clause-stays g c =
    let h = c.in_ok-plan.ensures in
    let w = c.in_ok-fid.ensures in
    stays_worked (g.D.Tape.tape c.args.disk.now) (g.D.Tape.tape c.apply_copy.new.disk) (works_twice (works_looked h.looks.looked) w.works) (alone_twice h.looks.looks.alone w.alone).grown.form c.requires.obeys.formed

pub returns-clause-turns : goal.returns-clause-turns
returns-clause-turns g c = λ told.
    let a = g.D.Tape.tape c.args.disk.now in
    let b = g.D.Tape.tape c.plan_copy.new.disk in
    let d = g.D.Tape.tape c.apply_copy.new.disk in
    let s1 = c.plan_copy.new.session in
    let target = c.args.target.now in
    let path = c.args.path.now in
    let h = c.in_ok-plan.ensures in
    let w = c.in_ok-fid.ensures in
    let count = same_count a b h.looks.looks.alone (h.looks.looks.silent told) (g.met.D.Disk.counted c.args.disk.now told) (g.met.D.Disk.counted c.plan_copy.new.disk told) in
    writing_done a b d c.args.session.now s1 c.apply_copy.new.session (line.Copy target path) (copy_on target path) told c.requires.obeys h.looks w.alone count (g.met.D.Disk.formed c.plan_copy.new.disk told) c.in_ok-made_text.field-0
    (λ s begins. w.writes s target path told begins (planned_there a b (looks_pack h.looks.looks told) begins (h.planned told)))
    (λ s begins. c.in_ok-made_text.ensures ∙ ap made_text (c.in_ok-fid.ensures.made ∙ ap (λ n. made_fid false (n + 1)) (begins_last begins)))

pub returns-clause-stays : goal.returns-clause-stays
returns-clause-stays g c =
    let h = c.in_ok-plan.ensures in
    let w = c.in_ok-fid.ensures in
    stays_worked (g.D.Tape.tape c.args.disk.now) (g.D.Tape.tape c.apply_copy.new.disk) (works_twice (works_looked h.looks.looked) w.works) (alone_twice h.looks.looks.alone w.alone).grown.form c.requires.obeys.formed

pub returns-in_err-plan-clause-unwritten : goal.returns-in_err-plan-clause-unwritten
returns-in_err-plan-clause-unwritten g c = λ told. if_refused (added (g.D.Tape.tape c.args.disk.now) (g.D.Tape.tape c.plan_copy.new.disk) ≡ []) c.from_residual.result (c.in_err-plan.ensures.looks.looks.silent told)

pub returns-in_err-plan-clause-cause : goal.returns-in_err-plan-clause-cause
returns-in_err-plan-clause-cause g c = cause_passed (g.D.Tape.tape c.args.disk.now) (g.D.Tape.tape c.plan_copy.new.disk) c.in_err-plan.field-0.0 c.from_residual.result c.from_residual.ensures.1 c.in_err-plan.ensures.cause

pub returns-in_err-plan-clause-alone : goal.returns-in_err-plan-clause-alone
returns-in_err-plan-clause-alone g c = c.in_err-plan.ensures.looks.looks.alone

pub returns-in_err-plan-clause-frame : goal.returns-in_err-plan-clause-frame
returns-in_err-plan-clause-frame g c = usable_looks c.in_err-plan.ensures.looks.looks

pub returns-in_err-fid-clause-unwritten : goal.returns-in_err-fid-clause-unwritten
returns-in_err-fid-clause-unwritten g c = λ told. refused_of_stop Fid (λ r. added (g.D.Tape.tape c.plan_copy.new.disk) (g.D.Tape.tape c.apply_copy.new.disk) ≡ []) (λ r. added (g.D.Tape.tape c.args.disk.now) (g.D.Tape.tape c.apply_copy.new.disk) ≡ []) c.in_err-fid.field-0.0 c.from_residual-in_err-fid.result c.from_residual-in_err-fid.ensures.1
    (λ r none. silent_twice c.in_ok-plan.ensures.looks.looks.alone.grown c.in_err-fid.ensures.alone.grown (c.in_ok-plan.ensures.looks.looks.silent told) none) (c.in_err-fid.ensures.unwritten told)

pub returns-in_err-fid-clause-cause : goal.returns-in_err-fid-clause-cause
returns-in_err-fid-clause-cause g c =
    cause_after (g.D.Tape.tape c.args.disk.now) (g.D.Tape.tape c.plan_copy.new.disk) (g.D.Tape.tape c.apply_copy.new.disk) c.in_err-fid.field-0.0 c.from_residual-in_err-fid.result c.from_residual-in_err-fid.ensures.1 c.in_ok-plan.ensures.cause c.in_err-fid.ensures.cause

pub returns-in_err-made_text-clause-unwritten : goal.returns-in_err-made_text-clause-unwritten
returns-in_err-made_text-clause-unwritten g c =
    λ told. never_refused (Unit {0}) (λ x. added (g.D.Tape.tape c.args.disk.now) (g.D.Tape.tape c.apply_copy.new.disk) ≡ []) stop.Memory c.from_residual-in_err-made_text.result c.from_residual-in_err-made_text.ensures.1 tt

pub returns-in_err-made_text-clause-cause : goal.returns-in_err-made_text-clause-cause
returns-in_err-made_text-clause-cause g c = cause_passed (g.D.Tape.tape c.args.disk.now) (g.D.Tape.tape c.apply_copy.new.disk) stop.Memory c.from_residual-in_err-made_text.result c.from_residual-in_err-made_text.ensures.1 (c.in_ok-fid.ensures.cause ∙ c.in_ok-plan.ensures.cause)

pub returns-clause-unwritten : goal.returns-clause-unwritten
returns-clause-unwritten g c = λ told. tt

pub returns-clause-cause : goal.returns-clause-cause
returns-clause-cause g c = c.in_ok-fid.ensures.cause ∙ c.in_ok-plan.ensures.cause
