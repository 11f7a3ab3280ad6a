use Rattle.std.proofs.Common.{◌≡◌, ◌+◌, ◌-◌, ◌∙◌, ap, arith}
use Rattle.disk_records.specs.Packs.{is_free_at}
use Rattle.disk_records.specs.Tapes.{pack}
use Rattle.disk_records.proofs.Looking.{looks_pack, looks_twice}
use Rattle.page_alloc.proofs.FreeLists.{most_one, count_more}
use Rattle.page_alloc.proofs.count.count_free.Goals as goal

pub returns-in_err-is_free-clause-looks : goal.returns-in_err-is_free-clause-looks
returns-in_err-is_free-clause-looks g c = looks_twice _ c.loop-at.invariant.looks c.in_err-is_free.ensures.looks (omega arith)

pub loop-at-preserved : goal.loop-at-preserved
loop-at-preserved g c =
    let first = g.D.Tape.tape c.args.disk.now in
    record {
      looks = looks_twice (c.loop-at.at + 1 - 1) c.loop-at.invariant.looks c.in_ok-is_free.ensures.looks (omega arith);
      unfailed = c.in_ok-is_free.ensures.cause ∙ c.loop-at.invariant.unfailed;
      end = c.loop-at.invariant.end;
      few = let one = most_one c.in_ok-is_free.field-0 in omega (arith, c.counted-free.ensures, one);
      counted = λ told.
          let same = looks_pack c.loop-at.invariant.looks told in
          let here : c.in_ok-is_free.field-0 ≡ is_free_at (pack first) c.loop-at.at = c.in_ok-is_free.ensures.free told ∙ ap (λ p. is_free_at p c.loop-at.at) same in
          c.counted-free.ensures ∙ count_more (is_free_at (pack first)) c.loop-at.at c.loop-at.free c.in_ok-is_free.field-0 (c.loop-at.invariant.counted told) here;
    }
