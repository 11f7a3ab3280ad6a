use Rattle.std.proofs.Common.{◌≡◌, ◌+◌, ◌≤◌, length, replicate, Some, None, arith, refl, rules, sym, ap, ◌∙◌}
use Rattle.disk_records.proofs.Looking.{looks_none, looks_twice}
use Rattle.scav_table.proofs.Causing.{cause_of_looked, want_of_looked}
use Rattle.scav_table.proofs.Filling.{seen_none, seen_more, seen_rises, seen_all, seen_as}
use Rattle.scav_table.proofs.Reading.{met_row, met_bad}
use Rattle.scav_table.specs.Rows.{no_row}
use Rattle.scav_table.proofs.fill.fill.Goals as goal
use Rattle.scav_table.proofs.fill.fill.Goals.{then-branch+in-Some, then-branch+in_default, else-branch}

pub loop-at-init : goal.loop-at-init
loop-at-init g c =
    let first = g.D.Tape.tape c.args.disk.now in
    let e = c.fill.ensures in
    record {
      end = search rules;
      looks = looks_none _ first;
      unfailed = refl;
      seen = seen_none (length c.fill.new.self) c.args.above c.fill.new.self (g.met.D.Disk.sized c.args.disk.now) (e.after (λ y h. h) ∙ ap (λ n. replicate n no_row) (sym e.len));
    }

pub returns-in_err-look-clause-looks : goal.returns-in_err-look-clause-looks
returns-in_err-look-clause-looks g c = let end = c.loop-at.invariant.end in looks_twice _ c.loop-at.invariant.looks c.in_err-look.ensures.looks (omega (arith, end))

pub offer-requires : goal.offer-requires
offer-requires g c = seen_rises c.loop-at.invariant.seen

pub loop-at-preserved : goal.loop-at-preserved
loop-at-preserved g c =
    let inv = c.loop-at.invariant in
    let end = inv.end in
    let n = length c.loop-at.window in
    let b = c.args.above in
    let at = c.loop-at.at in
    let first : 1 ≤ at = omega arith in
    let list = c.loop-at.window in
    let step = seen_more n b at c.loop-at.bad list in
    let sized = g.met.D.Disk.sized c.args.disk.now in
    let read = c.in_ok-look.ensures in
    let none_more : c.loop-at.bad ≡ c.loop-at.bad + 0 = omega arith in
    record {
      end = end;
      looks = looks_twice _ inv.looks read.looks (omega arith);
      unfailed = read.cause ∙ inv.unfailed;
      seen = elim c.if-branch.branch [
        | then-branch+in-Some w ↦ seen_as c.if-branch.auto.window (w.bad-is ∙ none_more) (w.window-is ∙ w.offer.ensures)
            (step (Some w.in-Some.row) 0 inv.looks first (omega arith) (omega (arith, end)) sized inv.seen w.in-Some.ensures.low
            (met_row at c.look.new.buf (Some w.in-Some.row) first (sym read.right ∙ w.if-branch.true) read.holds w.in-Some.ensures.row))
        | then-branch+in_default w ↦ seen_as c.if-branch.auto.window (w.bad-is ∙ none_more) w.window-is
            (step None 0 inv.looks first (omega arith) (omega (arith, end)) sized inv.seen tt
            (met_row at c.look.new.buf None first (sym read.right ∙ w.if-branch.true) read.holds w.in_default.ensures.row))
        | else-branch w ↦ seen_as c.if-branch.auto.window w.bad-is w.window-is
            (step None 1 inv.looks first (omega arith) (omega (arith, end)) sized inv.seen tt
            (met_bad at c.look.new.buf first (sym read.right ∙ w.if-branch.false) read.holds))
      ];
    }

pub returns-clause-filled : goal.returns-clause-filled
returns-clause-filled g c = let end = c.loop-at.invariant.end in seen_all (omega (arith, end)) (omega arith) (g.met.D.Disk.sized c.args.disk.now) c.loop-at.invariant.seen

pub returns-in_err-look-clause-cause : goal.returns-in_err-look-clause-cause
returns-in_err-look-clause-cause g c =
    cause_of_looked (g.D.Tape.tape c.args.disk.now) (g.D.Tape.tape c.loop-at.disk) (g.D.Tape.tape c.look.new.disk) c.in_err-look.field-0.0 c.from_residual.result c.loop-at.invariant.unfailed c.in_err-look.ensures.cause c.from_residual.ensures.1

pub returns-in_err-look-clause-want : goal.returns-in_err-look-clause-want
returns-in_err-look-clause-want g c = want_of_looked c.in_err-look.field-0.0 c.from_residual.result c.in_err-look.ensures.want c.from_residual.ensures.1
