use Rattle.std.proofs.Common.{ap, inr, refl, sym, subst, ◌∙◌, arith, Some}
use Rattle.disk_records.proofs.Framing.{usable_here}
use Rattle.disk_records.proofs.Growing.{grown_here, grown_twice}
use Rattle.disk_records.specs.Frames.{WritesUsable}
use Rattle.disk_records.specs.Tapes.{Grown}
use Rattle.exec_session.specs.Meant.{kept}
use Rattle.session_boot.specs.Boots.{LastsBy}
use Rattle.session_boot.proofs.Answers.{err_is}
use Rattle.session_boot.proofs.Ends.{end_lasts}
use Rattle.session_boot.proofs.Goings.{AtEnd, at_end_spent}
use Rattle.session_boot.proofs.Looping.{next_lasts, next_more, next_none, next_over, starts}
use Rattle.session_boot.proofs.SoFar.{Modelled}
use Rattle.session_boot.proofs.Unfailing.{none_here, none_twice}
use Rattle.session_boot.proofs.Unread.{Unread, ended_unread, fewer_are_others, unread_broke, unread_here, unread_none, unread_taken, unread_writes}
use Rattle.session_boot.specs.declared.line.Next.TheVariants.{More, Over}
use Rattle.session_boot.proofs.Framing.{usable_grown}
use Rattle.session_boot.proofs.booting.obey_lines.Goals as goal
use Rattle.session_boot.proofs.booting.obey_lines.Goals.{else-lines-test, then-lines-test+in_ok-answer_next+in-None}

pub lines-init : goal.lines-init
lines-init g c = record {
  frame = usable_here (g.M.Tape.tape c.args.machine.now);
  grown = grown_here (g.M.Tape.tape c.args.machine.now);
  unfailed = none_here (g.M.Tape.tape c.args.machine.now);
  unread = λ told. unread_here (g.M.Tape.tape c.args.machine.now) (kept c.args.session.now);
  room = omega arith;
  formed = c.requires.formed;
  limit = refl;
  so_far = λ told moment first given limit opened sound is_begun. starts moment first (g.M.Tape.tape c.args.machine.now) given (kept c.args.session.now) opened is_begun;
}

pub returns-in_err-answer_next-clause-lasts : goal.returns-in_err-answer_next-clause-lasts
returns-in_err-answer_next-clause-lasts g c = λ told moment first given limit opened sound is_begun.
    let now = g.M.Tape.tape c.lines.machine in
    let z = g.M.Tape.tape c.answer_next.new.machine in
    let two = kept c.answer_next.new.session in
    let result = c.from_residual.result in
    let fault = c.in_err-answer_next.field-0.0 in
    subst (LastsBy moment first z given two) (sym (err_is result fault c.from_residual.ensures.1))
    (next_lasts two c.answer_next.new.left (c.lines.invariant.so_far told moment first given limit opened sound is_begun) (record { counts = g.met.M.Disk.counted c.lines.machine told; formed = g.met.M.Disk.formed c.lines.machine told }) limit sound opened.counts
    c.answer_next.ensures.grown fault (c.in_err-answer_next.ensures.next told))

pub returns-in-Some-Over-clause-lasts : goal.returns-in-Some-Over-clause-lasts
returns-in-Some-Over-clause-lasts g c = λ told moment first given limit opened sound is_begun.
    let modelled : Modelled (g.M.Tape.tape c.lines.machine) = record { counts = g.met.M.Disk.counted c.lines.machine told; formed = g.met.M.Disk.formed c.lines.machine told } in
    next_over (kept c.answer_next.new.session) c.answer_next.new.left (c.lines.invariant.so_far told moment first given limit opened sound is_begun) modelled limit sound opened.counts
    c.answer_next.ensures.grown c.in_ok-answer_next.field-0 (c.in-Some-Over.is ∙ ap (λ n. Some n) c.in-Some-Over.field-0-is) (c.in_ok-answer_next.ensures.next told)

pub lines-preserved : goal.lines-preserved
lines-preserved g c = record {
  frame = usable_grown c.lines.invariant.grown c.answer_next.ensures.grown c.lines.invariant.frame c.answer_next.ensures.frame;
  grown = grown_twice c.lines.invariant.grown c.answer_next.ensures.grown;
  unfailed = none_twice c.lines.invariant.unfailed c.in_ok-answer_next.ensures.unfailed;
  unread = λ told. inr (unread_taken (g.M.Tape.tape c.args.machine.now) (g.M.Tape.tape c.lines.machine) (g.M.Tape.tape c.answer_next.new.machine) (kept c.args.session.now) (kept c.lines.session) (kept c.answer_next.new.session) c.lines.left c.answer_next.new.left (c.lines.invariant.unread told) More c.in_ok-answer_next.field-0 (c.in-Some-More.is ∙ ap (λ n. Some n) c.in-Some-More.field-0-is) (c.in_ok-answer_next.ensures.next told));
  room = omega (arith, c.lines.invariant.room, c.answer_next.auto.buffer);
  formed = c.answer_next.ensures.formed;
  limit = c.answer_next.ensures.limit ∙ c.lines.invariant.limit;
  so_far = λ told moment first given limit opened sound is_begun.
      let modelled : Modelled (g.M.Tape.tape c.lines.machine) = record { counts = g.met.M.Disk.counted c.lines.machine told; formed = g.met.M.Disk.formed c.lines.machine told } in
      next_more (kept c.answer_next.new.session) c.answer_next.new.left (c.lines.invariant.so_far told moment first given limit opened sound is_begun) modelled limit sound opened.counts
      c.answer_next.ensures.grown c.in_ok-answer_next.field-0 (c.in-Some-More.is ∙ ap (λ n. Some n) c.in-Some-More.field-0-is) (c.in_ok-answer_next.ensures.next told);
}

-- ---- where no key was taken nothing was written
pub returns-in_err-answer_next-clause-unread : goal.returns-in_err-answer_next-clause-unread
returns-in_err-answer_next-clause-unread g c = λ told clean same.
    unread_writes (g.M.Tape.tape c.args.machine.now) (g.M.Tape.tape c.answer_next.new.machine) (kept c.args.session.now) (kept c.answer_next.new.session)
    (unread_broke (g.M.Tape.tape c.args.machine.now) (g.M.Tape.tape c.lines.machine) (g.M.Tape.tape c.answer_next.new.machine) (kept c.args.session.now) (kept c.lines.session) (kept c.answer_next.new.session) c.lines.left c.answer_next.new.left (c.lines.invariant.unread told) c.in_err-answer_next.field-0.0 (c.in_err-answer_next.ensures.next told)) same

pub returns-in-Some-Over-clause-unread : goal.returns-in-Some-Over-clause-unread
returns-in-Some-Over-clause-unread g c = λ told clean same.
    fewer_are_others (g.M.Tape.tape c.args.machine.now) (g.M.Tape.tape c.answer_next.new.machine) (unread_taken (g.M.Tape.tape c.args.machine.now) (g.M.Tape.tape c.lines.machine) (g.M.Tape.tape c.answer_next.new.machine) (kept c.args.session.now) (kept c.lines.session) (kept c.answer_next.new.session) c.lines.left c.answer_next.new.left (c.lines.invariant.unread told) Over c.in_ok-answer_next.field-0 (c.in-Some-Over.is ∙ ap (λ n. Some n) c.in-Some-Over.field-0-is) (c.in_ok-answer_next.ensures.next told)) same

pub returns-clause-unread : goal.returns-clause-unread
returns-clause-unread g c = λ told clean same.
    let there : Unread (g.M.Tape.tape c.args.machine.now) (g.M.Tape.tape c.lines-test.machine) (kept c.args.session.now) (kept c.lines-test.session) = elim c.lines-test.branch [
      | else-lines-test w ↦ rw (w.machine-is, w.session-is) (c.lines.invariant.unread told)
      | then-lines-test+in_ok-answer_next+in-None w ↦
          rw (w.machine-is, w.session-is) (unread_none (g.M.Tape.tape c.args.machine.now) (g.M.Tape.tape c.lines.machine) (g.M.Tape.tape w.answer_next.new.machine) (kept c.args.session.now) (kept c.lines.session) (kept w.answer_next.new.session) c.lines.left w.answer_next.new.left (c.lines.invariant.unread told) w.in_ok-answer_next.field-0 w.in-None.is (w.in_ok-answer_next.ensures.next told))
    ] in
    ended_unread (g.M.Tape.tape c.args.machine.now) (g.M.Tape.tape c.lines-test.machine) (g.M.Tape.tape c.end_session.new.machine) (kept c.args.session.now) (kept c.lines-test.session) there clean c.end_session.ensures.keys (c.end_session.ensures.quiet told) same

pub returns-clause-lasts : goal.returns-clause-lasts
returns-clause-lasts g c = λ told moment first given limit opened sound is_begun.
    let so_far = c.lines.invariant.so_far told moment first given limit opened sound is_begun in
    let modelled : Modelled (g.M.Tape.tape c.lines.machine) = record { counts = g.met.M.Disk.counted c.lines.machine told; formed = g.met.M.Disk.formed c.lines.machine told } in
    let at : AtEnd moment first given (g.M.Tape.tape c.lines-test.machine) (kept c.lines-test.session) = elim c.lines-test.branch [
      | else-lines-test w ↦ rw (w.machine-is, w.session-is) (at_end_spent so_far (omega arith))
      | then-lines-test+in_ok-answer_next+in-None w ↦
          rw (w.machine-is, w.session-is) (next_none (kept w.answer_next.new.session) w.answer_next.new.left so_far modelled limit sound opened.counts w.answer_next.ensures.grown w.in_ok-answer_next.field-0 w.in-None.is (w.in_ok-answer_next.ensures.next told))
    ] in
    end_lasts (kept c.end_session.new.session) at (record { counts = g.met.M.Disk.counted c.lines-test.machine told; formed = g.met.M.Disk.formed c.lines-test.machine told }) limit sound opened.counts
    c.end_session.ensures.grown c.end_session.ensures.keys c.end_session.result (c.end_session.ensures.turn told) c.end_session.ensures.no_key

-- ---- where it writes
pub returns-in_err-answer_next-clause-frame : goal.returns-in_err-answer_next-clause-frame
returns-in_err-answer_next-clause-frame g c = usable_grown c.lines.invariant.grown c.answer_next.ensures.grown c.lines.invariant.frame c.answer_next.ensures.frame

pub returns-in-Some-Over-clause-frame : goal.returns-in-Some-Over-clause-frame
returns-in-Some-Over-clause-frame g c = usable_grown c.lines.invariant.grown c.answer_next.ensures.grown c.lines.invariant.frame c.answer_next.ensures.frame

pub returns-clause-frame : goal.returns-clause-frame
returns-clause-frame g c =
    let x = g.M.Tape.tape c.args.machine.now in
    let y = g.M.Tape.tape c.lines-test.machine in
    let so = c.lines.invariant in
    let there : Grown x y × WritesUsable g.M.Tape.told x y = elim c.lines-test.branch [
      | else-lines-test w ↦ rw w.machine-is (so.grown, so.frame)
      | then-lines-test+in_ok-answer_next+in-None w ↦
          let next = w.answer_next.ensures in
          rw w.machine-is (grown_twice so.grown next.grown, usable_grown so.grown next.grown so.frame next.frame)
    ] in
    usable_grown there.0 c.end_session.ensures.grown there.1 c.end_session.ensures.frame
