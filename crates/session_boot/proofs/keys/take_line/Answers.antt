use Rattle.std.proofs.Common.{◌≡◌, ◌≤◌, ◌-◌, ◌+◌, ℕ, inl, inr, length, take, drop, slice_range, ap, arith, sym, ◌∙◌, length-take, length-drop}
use Rattle.std.proofs.lemmas.List.{length-take-le}
use Rattle.disk_records.proofs.Growing.{keys_twice}
use Rattle.session_boot.proofs.Typing.{taking_ended, taking_last, taking_last_of, taking_over, taking_piece, took_end, took_last, took_some, went_on}
use Rattle.session_boot.proofs.Unfailing.{none_twice}
use Rattle.session_boot.proofs.keys.take_line.Goals as goal
use Rattle.session_boot.proofs.keys.take_line.Goals.{else-loop-left-test, then-loop-left-test+in_ok-next_piece+in-End}

pub loop-left-preserved : goal.loop-left-preserved
loop-left-preserved g c =
    let kept = c.loop-left.kept in
    let buffer = c.loop-left.buffer in
    let count = c.in-Part.count in
    let most = c.min-most.result in
    let piece = c.next_piece.new.buf in
    let size : length (slice_range buffer kept (kept + most)) ≡ most = omega (arith, length-take (kept + most - kept) (drop kept buffer), length-drop kept buffer, c.loop-left.auto.buffer) in
    let fits = rw c.in-Part.is at c.in_ok-next_piece.ensures.fits in
    let within : count ≤ length piece = omega (arith, fits.1, c.next_piece.auto.buf) in
    let long : length (take kept buffer) ≡ kept = length-take-le kept buffer (omega (arith, c.loop-left.invariant.short, c.loop-left.auto.buffer)) in
    record {
      alone = keys_twice c.loop-left.invariant.alone c.next_piece.ensures.alone;
      unfailed = none_twice c.loop-left.invariant.unfailed c.in_ok-next_piece.ensures.unfailed;
      answered = λ waits. c.next_piece.ensures.displayed (c.loop-left.invariant.answered (went_on c.in-Part.is c.in_ok-next_piece.ensures.goes_on waits));
      left = omega (arith, c.loop-left.invariant.left);
      short = omega arith;
      line = λ told.
          taking_piece piece _ kept count _ (c.loop-left.left - count) _ (c.loop-left.invariant.line told) long (took_some piece c.in-Part.is (c.in_ok-next_piece.ensures.piece told)) within (omega (arith, fits.1, size)) (omega arith);
    }

pub returns-in-Last-clause-line : goal.returns-in-Last-clause-line
returns-in-Last-clause-line g c told =
    let kept = c.loop-left.kept in
    let buffer = c.loop-left.buffer in
    let count = c.in-Last.count in
    let most = c.min-most.result in
    let left = c.loop-left.left in
    let piece = c.next_piece.new.buf in
    let size : length (slice_range buffer kept (kept + most)) ≡ most = omega (arith, length-take (kept + most - kept) (drop kept buffer), length-drop kept buffer, c.loop-left.auto.buffer) in
    let fits = rw c.in-Last.is at c.in_ok-next_piece.ensures.fits in
    let within : count ≤ length piece = omega (arith, fits, c.next_piece.auto.buf) in
    let long : length (take kept buffer) ≡ kept = length-take-le kept buffer (omega (arith, c.loop-left.invariant.short, c.loop-left.auto.buffer)) in
    inl (taking_ended (left - (count + 1))
    (taking_piece piece _ kept count _ (left - count) _ (c.loop-left.invariant.line told) long (took_last piece c.in-Last.is (c.in_ok-next_piece.ensures.piece told)) within (omega (arith, fits, size)) (omega arith))
    (omega (arith, fits, size)))

pub returns-clause-line : goal.returns-clause-line
returns-clause-line g c told =
    let kept = c.loop-left.kept in
    let buffer = c.loop-left.buffer in
    let t = c.loop-left.invariant.line told in
    let some = c.if-kept-eq0.false in
    let within : kept ≤ length buffer = omega (arith, c.loop-left.invariant.short, c.loop-left.auto.buffer) in
    inr (elim c.loop-left-test.branch [
      | else-loop-left-test w ↦ rw (w.console-is, w.buffer-is) (taking_last buffer kept t (inr (omega arith)) some within)
      | then-loop-left-test+in_ok-next_piece+in-End w ↦
          let end = took_end w.next_piece.new.buf w.in-End.is (w.in_ok-next_piece.ensures.piece told) in
          rw (w.console-is, w.buffer-is) (taking_last_of buffer _ kept (rw (end.0 ∙ sym end.1) at t) (inl end.1) some within)
    ])

pub returns-then-kept-eq0-clause-line : goal.returns-then-kept-eq0-clause-line
returns-then-kept-eq0-clause-line g c told =
    let t = c.loop-left.invariant.line told in
    let none = ap (λ (k : ℕ). take k c.loop-left.buffer) c.if-kept-eq0.true in
    elim c.loop-left-test.branch [
      | else-loop-left-test w ↦ rw w.console-is (taking_over t (inr (omega arith)) none)
      | then-loop-left-test+in_ok-next_piece+in-End w ↦
          let end = took_end w.next_piece.new.buf w.in-End.is (w.in_ok-next_piece.ensures.piece told) in
          rw w.console-is (taking_over (rw (end.0 ∙ sym end.1) at t) (inl end.1) none)
    ]

pub returns-then-kept-eq0-clause-alone : goal.returns-then-kept-eq0-clause-alone
returns-then-kept-eq0-clause-alone g c =
    elim c.loop-left-test.branch [
      | else-loop-left-test w ↦ rw w.console-is c.loop-left.invariant.alone
      | then-loop-left-test+in_ok-next_piece+in-End w ↦ rw w.console-is (keys_twice c.loop-left.invariant.alone w.next_piece.ensures.alone)
    ]

pub returns-clause-alone : goal.returns-clause-alone
returns-clause-alone g c =
    elim c.loop-left-test.branch [
      | else-loop-left-test w ↦ rw w.console-is c.loop-left.invariant.alone
      | then-loop-left-test+in_ok-next_piece+in-End w ↦ rw w.console-is (keys_twice c.loop-left.invariant.alone w.next_piece.ensures.alone)
    ]
