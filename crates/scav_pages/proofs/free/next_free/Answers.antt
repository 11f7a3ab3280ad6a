use Rattle.std.proofs.Common.{ap, refl, sym, ◌∙◌, arith}
use Rattle.disk_records.specs.Packs.{is_free_at}
use Rattle.disk_records.specs.Tapes.{pack}
use Rattle.disk_records.proofs.Looking.{looks_pack, looks_twice, looks_within}
use Rattle.scav_pages.proofs.Causing.{cause_of_part}
use Rattle.scav_pages.proofs.Freeing.{none_more}
use Rattle.scav_pages.proofs.free.next_free.Goals as goal

pub returns-in_err-is_free-clause-looks : goal.returns-in_err-is_free-clause-looks
returns-in_err-is_free-clause-looks g c = looks_twice _ c.loop-at.invariant.looks c.in_err-is_free.ensures.looks (let end = c.loop-at.invariant.end in omega (arith, end))

pub returns-in_err-is_free-clause-cause : goal.returns-in_err-is_free-clause-cause
returns-in_err-is_free-clause-cause g c = cause_of_part c.in_err-is_free.field-0.0 c.from_residual.result c.loop-at.invariant.looks.alone c.loop-at.invariant.unfailed c.in_err-is_free.ensures.looks.alone c.in_err-is_free.ensures.cause c.from_residual.ensures.1

pub returns-then-branch-clause-looks : goal.returns-then-branch-clause-looks
returns-then-branch-clause-looks g c = looks_twice _ c.loop-at.invariant.looks c.in_ok-is_free.ensures.looks (let end = c.loop-at.invariant.end in omega (arith, end))

pub loop-at-preserved : goal.loop-at-preserved
loop-at-preserved g c =
    let inv = c.loop-at.invariant in
    record {
      end = inv.end;
      from = refl;
      few = omega arith;
      looks = looks_twice _ inv.looks c.in_ok-is_free.ensures.looks (omega arith);
      unfailed = c.in_ok-is_free.ensures.cause ∙ inv.unfailed;
      none = λ told.
          none_more (pack (g.D.Tape.tape c.args.disk.now)) c.args.from.now c.loop-at.at (inv.none told)
          (ap (λ p. is_free_at p c.loop-at.at) (sym (looks_pack inv.looks told)) ∙ sym (c.in_ok-is_free.ensures.free told) ∙ c.if-branch.false);
    }

pub returns-clause-looks : goal.returns-clause-looks
returns-clause-looks g c = let end = c.loop-at.invariant.end in let few = c.loop-at.invariant.few in looks_within _ c.loop-at.invariant.looks (omega (arith, end, few))
