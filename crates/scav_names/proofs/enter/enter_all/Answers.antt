use Rattle.std.proofs.Common.{◌+◌, drop, subst, arith, ◌∙◌, refl}
use Rattle.std.proofs.lemmas.List.{drop_all}
use Rattle.disk_records.specs.Tapes.{pack}
use Rattle.disk_records.proofs.Growing.{alone_here, alone_twice}
use Rattle.disk_records.proofs.Framing.{usable_here, usable_twice}
use Rattle.scav_pages.proofs.Causing.{cause_of_part}
use Rattle.scav_names.specs.Roots.{MayBeEntered}
use Rattle.scav_names.proofs.Going.{does_ok, does_part}
use Rattle.scav_names.proofs.NextEntry.{all_entered, entered_more, first_left, none_entered}
use Rattle.scav_names.proofs.enter.enter_all.Goals as goal

pub loop-file-init : goal.loop-file-init
loop-file-init g c = record {
  first = c.requires.first;
  alone = alone_here (g.D.Tape.tape c.args.disk.now);
  unfailed = refl;
  frame = usable_here (g.D.Tape.tape c.args.disk.now);
  entered = λ told may. none_entered (g.D.Tape.tape c.args.disk.now) may;
}

pub returns-in_err-enter-clause-alone : goal.returns-in_err-enter-clause-alone
returns-in_err-enter-clause-alone g c = alone_twice c.loop-file.invariant.alone c.in_err-enter.ensures.alone

pub returns-in_err-enter-clause-frame : goal.returns-in_err-enter-clause-frame
returns-in_err-enter-clause-frame g c = usable_twice c.loop-file.invariant.alone c.in_err-enter.ensures.alone c.loop-file.invariant.frame c.in_err-enter.ensures.frame

pub returns-in_err-enter-clause-does : goal.returns-in_err-enter-clause-does
returns-in_err-enter-clause-does g c = λ told may.
    let so_far = c.loop-file.invariant.entered told may in
    let left = first_left c.args.files.now c.loop-file.file-index c.file-item.result c.loop-file-test.true c.file-item.is in
    does_part c.in_err-enter.field-0.0 c.from_residual.result so_far.so_far c.in_err-enter.ensures.alone.grown
    (c.in_err-enter.ensures.does told (drop (c.loop-file.file-index + 1) c.args.files.now) (subst (MayBeEntered (pack (g.D.Tape.tape c.loop-file.disk)) c.loop-file.root) left so_far.may)) c.from_residual.ensures.1

pub loop-file-preserved : goal.loop-file-preserved
loop-file-preserved g c = record {
  first = c.in_ok-enter.ensures.first;
  alone = alone_twice c.loop-file.invariant.alone c.in_ok-enter.ensures.alone;
  unfailed = c.in_ok-enter.ensures.cause ∙ c.loop-file.invariant.unfailed;
  frame = usable_twice c.loop-file.invariant.alone c.in_ok-enter.ensures.alone c.loop-file.invariant.frame c.in_ok-enter.ensures.frame;
  entered = λ told may.
      let so_far = c.loop-file.invariant.entered told may in
      let left = first_left c.args.files.now c.loop-file.file-index c.file-item.result c.loop-file-test.true c.file-item.is in
      entered_more so_far c.in_ok-enter.ensures.alone.grown (c.in_ok-enter.ensures.does told (drop (c.loop-file.file-index + 1) c.args.files.now) (subst (MayBeEntered (pack (g.D.Tape.tape c.loop-file.disk)) c.loop-file.root) left so_far.may));
}

pub returns-clause-does : goal.returns-clause-does
returns-clause-does g c = λ told may.
    let so_far = c.loop-file.invariant.entered told may in
    let none = drop_all c.loop-file.file-index c.args.files.now (let t = c.loop-file-test.false in omega (arith, t)) in
    does_ok tt so_far.so_far (all_entered so_far.stay (subst (MayBeEntered (pack (g.D.Tape.tape c.loop-file.disk)) c.loop-file.root) none so_far.may))

pub returns-in_err-enter-clause-cause : goal.returns-in_err-enter-clause-cause
returns-in_err-enter-clause-cause g c = cause_of_part c.in_err-enter.field-0.0 c.from_residual.result c.loop-file.invariant.alone c.loop-file.invariant.unfailed c.in_err-enter.ensures.alone c.in_err-enter.ensures.cause c.from_residual.ensures.1
