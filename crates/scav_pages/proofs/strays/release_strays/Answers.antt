use Rattle.std.proofs.Common.{◌≡◌, ◌+◌, ◌<◌, ◌≤◌, length, arith, rules, ap, subst, sym, refl, ◌∙◌}
use Rattle.disk_records.specs.Addresses.{pages_of}
use Rattle.disk_records.specs.Tapes.{pack}
use Rattle.disk_records.proofs.Framing.{usable_here, usable_twice}
use Rattle.disk_records.proofs.Growing.{alone_here, alone_twice, length-pack}
use Rattle.pack_model.specs.states.InUse.{one_if}
use Rattle.scav_pages.proofs.Causing.{cause_of_part}
use Rattle.scav_pages.proofs.Doing.{does_stop_part}
use Rattle.scav_pages.proofs.Straying.{StraysTo, strays_all, strays_more, strays_none}
use Rattle.scav_pages.proofs.strays.release_strays.Goals as goal
use Rattle.scav_pages.proofs.strays.release_strays.Goals.{then-branch, else-branch}

pub loop-at-init : goal.loop-at-init
loop-at-init g c =
    let first = g.D.Tape.tape c.args.disk.now in
    record {
      end = search rules;
      few = omega arith;
      alone = alone_here first;
      unfailed = refl;
      frame = usable_here first;
      released = λ told once. strays_none first once;
    }

pub returns-in_err-release_stray-clause-cause : goal.returns-in_err-release_stray-clause-cause
returns-in_err-release_stray-clause-cause g c = cause_of_part c.in_err-release_stray.field-0.0 c.from_residual.result c.loop-at.invariant.alone c.loop-at.invariant.unfailed c.in_err-release_stray.ensures.alone c.in_err-release_stray.ensures.cause c.from_residual.ensures.1

pub returns-in_err-release_stray-clause-alone : goal.returns-in_err-release_stray-clause-alone
returns-in_err-release_stray-clause-alone g c = alone_twice c.loop-at.invariant.alone c.in_err-release_stray.ensures.alone

pub returns-in_err-release_stray-clause-frame : goal.returns-in_err-release_stray-clause-frame
returns-in_err-release_stray-clause-frame g c = usable_twice c.loop-at.invariant.alone c.in_err-release_stray.ensures.alone c.loop-at.invariant.frame c.in_err-release_stray.ensures.frame

pub returns-in_err-release_stray-clause-does : goal.returns-in_err-release_stray-clause-does
returns-in_err-release_stray-clause-does g c = λ told once.
    let so_far = c.loop-at.invariant.released told once in
    does_stop_part c.in_err-release_stray.field-0.0 c.from_residual.result so_far.going c.in_err-release_stray.ensures.alone.grown (c.in_err-release_stray.ensures.does told so_far.once) c.from_residual.ensures.1

pub loop-at-preserved : goal.loop-at-preserved
loop-at-preserved g c =
    let first = g.D.Tape.tape c.args.disk.now in
    let last = g.D.Tape.tape c.release_stray.new.disk in
    let inv = c.loop-at.invariant in
    let few = inv.few in
    let step = c.in_ok-release_stray.ensures in
    let done = c.in_ok-release_stray.field-0 in
    let freed = c.loop-at.freed in
    let count : (c.if-branch.freed ≡ freed + one_if done) × (c.if-branch.freed < c.loop-at.at + 1) = elim c.if-branch.branch [
      | then-branch w ↦ (let one : c.if-branch.freed ≡ freed + 1 = omega (arith, w.freed-is, w.saturating_add-freed.ensures) in (one ∙ sym (ap (λ b. freed + one_if b) w.if-branch.true), omega (arith, one)))
      | else-branch w ↦ (let none : freed ≡ freed + 0 = omega arith in (w.freed-is ∙ none ∙ sym (ap (λ b. freed + one_if b) w.if-branch.false), omega (arith, w.freed-is)))
    ] in
    record {
      end = inv.end;
      few = count.1;
      alone = alone_twice inv.alone step.alone;
      unfailed = step.cause ∙ inv.unfailed;
      frame = usable_twice inv.alone step.alone inv.frame step.frame;
      released = λ told once. (let so_far = inv.released told once in subst (StraysTo first last (c.loop-at.at + 1)) (sym count.0) (strays_more c.loop-at.at freed step.alone so_far done (step.does told so_far.once)));
    }

pub returns-clause-does : goal.returns-clause-does
returns-clause-does g c = λ told once.
    let inv = c.loop-at.invariant in
    let last = g.D.Tape.tape c.loop-at.disk in
    let form : pages_of last.form ≡ pages_of (g.D.Tape.tape c.args.disk.now).form = ap pages_of inv.alone.grown.form in
    let end = inv.end in
    let out = c.loop-at-test.false in
    let size : length (pack last).sectors ≤ c.loop-at.at = omega (arith, length-pack last, g.met.D.Disk.sized c.loop-at.disk told, form, end, out) in
    strays_all c.loop-at.at c.loop-at.freed (inv.released told once) size
