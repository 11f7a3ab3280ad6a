use Rattle.std.proofs.Common.{◌≡◌, ◌<◌, length, get_or, Some, subst}
use Rattle.scav_table.specs.Passes.{IsNext}
use Rattle.scav_table.proofs.Causing.{cause_of_call, want_of_call}
use Rattle.scav_table.proofs.Standing.{few_sectors, next_rises, stands_next, got_row}
use Rattle.scav_table.proofs.pass.Pass.next.Goals as goal

pub returns-clause-stands : goal.returns-clause-stands
returns-clause-stands g c =
    let l = c.get.ensures.lookup in
    let got = got_row c.rows.result.now c.turn.new.self.place c.in-Some.row c.get.result c.in-Some.ensures l.0 l.1 in
    let rs = c.rows.ensures.rows in
    let s = c.in_ok-turn.ensures.stands in
    stands_next c.in-Some.row s (subst (λ m. c.turn.new.self.place < length m) rs got.0) (subst (λ m. get_or m c.turn.new.self.place c.in-Some.row ≡ c.in-Some.row) rs got.1)
    (λ k. few_sectors (g.D.Tape.tape c.turn.new.disk) (g.met.D.Disk.sized c.turn.new.disk k))

pub returns-clause-rises : goal.returns-clause-rises
returns-clause-rises g c =
    let l = c.get.ensures.lookup in
    let got = got_row c.rows.result.now c.turn.new.self.place c.in-Some.row c.get.result c.in-Some.ensures l.0 l.1 in
    let rs = c.rows.ensures.rows in
    subst (λ last. IsNext last (Some c.in-Some.row)) c.in_ok-turn.ensures.last
    (next_rises c.in-Some.row c.in_ok-turn.ensures.stands (subst (λ m. c.turn.new.self.place < length m) rs got.0) (subst (λ m. get_or m c.turn.new.self.place c.in-Some.row ≡ c.in-Some.row) rs got.1))

pub returns-in_err-turn-clause-cause : goal.returns-in_err-turn-clause-cause
returns-in_err-turn-clause-cause g c = cause_of_call (g.D.Tape.tape c.args.disk.now) (g.D.Tape.tape c.turn.new.disk) c.in_err-turn.field-0.0 c.from_residual.result c.in_err-turn.ensures.cause c.from_residual.ensures.1

pub returns-in_err-turn-clause-want : goal.returns-in_err-turn-clause-want
returns-in_err-turn-clause-want g c = want_of_call c.in_err-turn.field-0.0 c.from_residual.result c.in_err-turn.ensures.want c.from_residual.ensures.1
