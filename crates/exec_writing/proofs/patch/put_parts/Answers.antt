use Rattle.std.proofs.Common.{◌≡◌, ◌∙◌, ◌+◌, ◌-◌, ◌%◌, ◌∷◌, ℕ, List, [], Ok, Err, Result, length, length-drop, min, take, drop, ap, arith, subst, sym, refl}
use Rattle.disk_records.proofs.Framing.{usable_here, usable_twice}
use Rattle.disk_records.proofs.Growing.{alone_here, alone_twice}
use Rattle.disk_records.specs.Tapes.{pack}
use Rattle.pack_model.specs.operations.Step.Operation.{put}
use Rattle.session_model.specs.Streams.{puts}
use Rattle.exec_session.specs.Meant.{kept}
use Rattle.exec_session.specs.declared.stop.Stop.{Stop}
use Rattle.exec_session.proofs.Stopping.{error_is}
use Rattle.exec_steps.specs.Midway.{StepsOn}
use Rattle.exec_writing.specs.Patching.{MayPatchFile}
use Rattle.exec_steps.proofs.Frames.{works_here, works_twice, cause_after, never_refused}
use Rattle.exec_writing.proofs.Putting.{none_put, puts_end, puts_more, puts_stop, tail_is}
use Rattle.exec_writing.proofs.patch.put_parts.Goals as goal

pub loop-done-init : goal.loop-done-init
loop-done-init g c = record {
  within = omega arith;
  frame = usable_here (g.D.Tape.tape c.args.disk.now);
  alone = alone_here (g.D.Tape.tape c.args.disk.now);
  unfailed = refl;
  works = works_here c.args.session.now;
  puts = λ told may. none_put (g.D.Tape.tape c.args.disk.now) (kept c.args.session.now) c.args.file.now c.args.offset c.args.bytes.now;
}

pub loop-done-preserved : goal.loop-done-preserved
loop-done-preserved g c =
    let a = g.D.Tape.tape c.args.disk.now in
    let b = g.D.Tape.tape c.loop-done.disk in
    let d = g.D.Tape.tape c.put_part.new.disk in
    let file = c.args.file.now in
    let f = file.fid in
    let bytes = c.args.bytes.now in
    let done = c.loop-done.done in
    let at = c.args.offset + done in
    let n = c.in_ok-done.field-0 in
    let so = c.loop-done.invariant in
    let e = c.in_ok-done.ensures in
    let two = kept c.loop-done.session in
    let three = kept c.put_part.new.session in
    let tail = tail_is done bytes in
    let left = length-drop done bytes in
    let many : n ≡ min (length (drop done bytes)) (512 - at % 512) = e.many ∙ ap (λ (l : List ℕ). min (length l) (512 - at % 512)) tail in
    let before = so.within in
    record {
      within = omega (arith, many, left, before);
      frame = usable_twice so.alone e.alone so.frame e.frame;
      alone = alone_twice so.alone e.alone;
      unfailed = e.cause ∙ so.unfailed;
      works = works_twice so.works e.works;
      puts = λ told may. puts_more a b d (kept c.args.session.now) two three file c.args.offset bytes done may (so.puts told may) c.loop-done-test.true n many
          (subst (λ (l : List ℕ). MayPatchFile (pack b) file at l → StepsOn b d two three (put f at (take (512 - at % 512) l) ∷ []) [] (f ∷ []) (Ok n)) tail (e.steps told));
    }

pub returns-in_err-done-clause-steps : goal.returns-in_err-done-clause-steps
returns-in_err-done-clause-steps g c = λ told may.
    let a = g.D.Tape.tape c.args.disk.now in
    let b = g.D.Tape.tape c.loop-done.disk in
    let d = g.D.Tape.tape c.put_part.new.disk in
    let file = c.args.file.now in
    let f = file.fid in
    let bytes = c.args.bytes.now in
    let done = c.loop-done.done in
    let at = c.args.offset + done in
    let two = kept c.loop-done.session in
    let three = kept c.put_part.new.session in
    let x = c.in_err-done.field-0.0 in
    subst (λ (r : Result (Unit {0}) Stop). StepsOn a d (kept c.args.session.now) three (puts f c.args.offset bytes) [] (f ∷ []) r) (sym (error_is c.from_residual.result c.from_residual.ensures.1))
    (puts_stop a b d (kept c.args.session.now) two three file c.args.offset bytes done may (c.loop-done.invariant.puts told may) c.loop-done-test.true x
    (subst (λ (l : List ℕ). MayPatchFile (pack b) file at l → StepsOn {T = ℕ} b d two three (put f at (take (512 - at % 512) l) ∷ []) [] (f ∷ []) (Err x)) (tail_is done bytes) (c.in_err-done.ensures.steps told)))

pub returns-in_err-done-clause-alone : goal.returns-in_err-done-clause-alone
returns-in_err-done-clause-alone g c = alone_twice c.loop-done.invariant.alone c.put_part.ensures.alone

pub returns-in_err-done-clause-frame : goal.returns-in_err-done-clause-frame
returns-in_err-done-clause-frame g c = usable_twice c.loop-done.invariant.alone c.put_part.ensures.alone c.loop-done.invariant.frame c.put_part.ensures.frame

pub returns-clause-steps : goal.returns-clause-steps
returns-clause-steps g c = λ told may.
    puts_end (g.D.Tape.tape c.args.disk.now) (g.D.Tape.tape c.loop-done.disk) (kept c.args.session.now) (kept c.loop-done.session) c.args.file.now c.args.offset c.args.bytes.now c.loop-done.done c.loop-done-test.false (c.loop-done.invariant.puts told may)

pub returns-in_err-done-clause-unrefused : goal.returns-in_err-done-clause-unrefused
returns-in_err-done-clause-unrefused g c = never_refused ℕ (λ r. ⊥) c.in_err-done.field-0.0 c.from_residual.result c.from_residual.ensures.1 c.in_err-done.ensures.unrefused

pub returns-in_err-done-clause-cause : goal.returns-in_err-done-clause-cause
returns-in_err-done-clause-cause g c = cause_after (g.D.Tape.tape c.args.disk.now) (g.D.Tape.tape c.loop-done.disk) (g.D.Tape.tape c.put_part.new.disk) c.in_err-done.field-0.0 c.from_residual.result c.from_residual.ensures.1 c.loop-done.invariant.unfailed c.in_err-done.ensures.cause

pub returns-in_err-done-clause-works : goal.returns-in_err-done-clause-works
returns-in_err-done-clause-works g c = works_twice c.loop-done.invariant.works c.in_err-done.ensures.works

pub returns-clause-unrefused : goal.returns-clause-unrefused
returns-clause-unrefused g c = tt

pub returns-clause-cause : goal.returns-clause-cause
returns-clause-cause g c = c.loop-done.invariant.unfailed

pub returns-clause-works : goal.returns-clause-works
returns-clause-works g c = c.loop-done.invariant.works

pub returns-clause-alone : goal.returns-clause-alone
returns-clause-alone g c = c.loop-done.invariant.alone

pub returns-clause-frame : goal.returns-clause-frame
returns-clause-frame g c = c.loop-done.invariant.frame
