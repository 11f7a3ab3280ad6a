use Rattle.std.proofs.Common.{Err, ap, arith, length, rules, subst, sym, ◌*◌, ◌+◌, ◌-◌, ◌<◌, ◌∙◌, ◌≡◌}
use Rattle.std.proofs.lemmas.List.{length-append}
use Rattle.disk_records.proofs.Growing.{added-twice, alone_twice}
use Rattle.disk_records.specs.Tapes.{added}
use Rattle.pack_model.specs.sessions.Descriptor.{descriptor_value}
use Rattle.disk_descriptor.proofs.Closings.{done, page_done, page_failed, page_held, page_own, page_short}
use Rattle.disk_descriptor.proofs.Writings.{writes_all}
use Rattle.disk_descriptor.specs.Writing.{WritesOwn}
use Rattle.disk_descriptor.specs.declared.errors.DescError.TheVariants.{Memory}
use Rattle.disk_descriptor.proofs.closing.write_pages.Goals as goal

pub loop-left-preserved : goal.loop-left-preserved
loop-left-preserved g c =
    let old = g.D.Tape.tape c.args.disk.now in
    let pages = c.args.pages.now in
    let so_far = c.loop-left.invariant in
    let next = c.in_ok-write_closing.ensures.alone in
    let n = c.loop-left.left - 1 in
    let is : c.loop-left.left ≡ n + 1 = omega arith in
    let within : n < length pages = omega (arith, so_far.within) in
    let page : n + 1 - 1 ≡ n = omega arith in
    let same : c.descriptor_page-value.result ≡ descriptor_value old.form c.args.last 1 c.args.table.now n = c.descriptor_page-value.ensures.value ∙ (λ i. descriptor_value (c.shape-shape.ensures i) c.args.last 1 c.args.table.now (page i)) in
    record {
      alone = alone_twice so_far.alone next;
      unfailed = c.in_ok-write_closing.ensures.cause ∙ so_far.unfailed;
      within = omega (arith, so_far.within);
      wrote = λ told.
          page_done old.form c.args.last c.args.table.now pages n c.loop-left.left c.descriptor_page-value.result is within so_far.alone next (so_far.wrote told) same
          (c.in_ok-write_closing.ensures.writes told).ok (added-twice so_far.alone.grown next.grown);
      own = λ told.
          page_own old.form c.args.last c.args.table.now pages n c.loop-left.left c.descriptor_page-value.result is within so_far.alone next (so_far.wrote told) same
          (so_far.own told) (so_far.many told) (c.in_ok-write_closing.ensures.writes told).some (c.in_ok-write_closing.ensures.guarded told);
      many = λ told.
          let all = ap length (added-twice so_far.alone.grown next.grown) ∙ length-append (added old (g.D.Tape.tape c.loop-left.disk)) (added (g.D.Tape.tape c.loop-left.disk) (g.D.Tape.tape c.write_closing.new.disk)) in
          let one = ap length (c.in_ok-write_closing.ensures.writes told).ok in
          let many = so_far.many told in
          omega (arith, all, one, many);
      runs = λ told.
          let ran = so_far.runs told in
          let now = (c.in_ok-write_closing.ensures.writes told).runs in
          omega (arith, ran, now, so_far.within, within);
    }

pub returns-in_err-write_closing-clause-guarded : goal.returns-in_err-write_closing-clause-guarded
returns-in_err-write_closing-clause-guarded g c = λ told.
    let old = g.D.Tape.tape c.args.disk.now in
    let new = g.D.Tape.tape c.write_closing.new.disk in
    let pages = c.args.pages.now in
    let so_far = c.loop-left.invariant in
    let next = c.in_err-write_closing.ensures.alone in
    let e = c.in_err-write_closing.field-0.0 in
    let n = c.loop-left.left - 1 in
    let is : c.loop-left.left ≡ n + 1 = omega arith in
    let within : n < length pages = omega (arith, so_far.within) in
    let page : n + 1 - 1 ≡ n = omega arith in
    let same : c.descriptor_page-value.result ≡ descriptor_value old.form c.args.last 1 c.args.table.now n = c.descriptor_page-value.ensures.value ∙ (λ i. descriptor_value (c.shape-shape.ensures i) c.args.last 1 c.args.table.now (page i)) in
    let wrote = so_far.wrote told in
    let broken = c.in_err-write_closing.ensures.writes told in
    let guards = c.in_err-write_closing.ensures.guarded told in
    let failed : c.from_residual.result ≡ Err e = search rules in
    subst (λ r. WritesOwn {T = Unit {0}} pages (done old.form c.args.last c.args.table.now pages 0) (2 * length pages) old new r) (sym failed) (record {
      writes = page_failed old.form c.args.last c.args.table.now pages n c.loop-left.left c.descriptor_page-value.result is within so_far.alone next wrote same
          e (2 * (length pages - c.loop-left.left)) (so_far.runs told) (omega (arith, so_far.within, within)) broken;
      own = page_own old.form c.args.last c.args.table.now pages n c.loop-left.left c.descriptor_page-value.result is within so_far.alone next wrote same (so_far.own told) (so_far.many told) broken.some guards;
      held = page_held old.form c.args.last c.args.table.now pages n c.loop-left.left c.descriptor_page-value.result is within so_far.alone next wrote same (Unit {0}) (Unit {0}) e (so_far.many told) guards;
      short = page_short old.form c.args.last c.args.table.now pages n c.loop-left.left c.descriptor_page-value.result is within so_far.alone next wrote same e (so_far.many told) guards;
    })

pub returns-in_err-write_closing-clause-alone : goal.returns-in_err-write_closing-clause-alone
returns-in_err-write_closing-clause-alone g c = alone_twice c.loop-left.invariant.alone c.in_err-write_closing.ensures.alone

pub returns-clause-guarded : goal.returns-clause-guarded
returns-clause-guarded g c = λ told.
    let old = g.D.Tape.tape c.args.disk.now in
    let now = g.D.Tape.tape c.loop-left.disk in
    let pages = c.args.pages.now in
    let none : c.loop-left.left ≡ 0 = omega arith in
    let ran = c.loop-left.invariant.runs told in
    record {
      writes = writes_all Memory tt (done old.form c.args.last c.args.table.now pages 0) (2 * length pages)
          (subst (λ k. added old now ≡ done old.form c.args.last c.args.table.now pages k) none (c.loop-left.invariant.wrote told)) (omega (arith, ran));
      own = c.loop-left.invariant.own told;
      held = tt;
      short = λ want. cc;
    }
