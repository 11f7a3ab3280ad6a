use Rattle.std.proofs.Common.{None, ap, arith, inl, inr, refl, subst, ◌+◌, ◌∙◌, ◌≡◌, ◌≤◌}
use Rattle.disk_records.proofs.Growing.{alone_here, alone_twice, nothing_added}
use Rattle.disk_records.specs.Tapes.{added, pack}
use Rattle.disk_records.specs.declared.records.Page.{Page}
use Rattle.hint_cache.specs.Caches.{address_in}
use Rattle.page_seeking.proofs.Ending.{same_or_less}
use Rattle.page_seeking.specs.Seeking.{page_number}
use Rattle.file_pages.proofs.Gone.{none_gone_twice}
use Rattle.file_pages.proofs.Remaining.{more_after, short_end, up_to_end}
use Rattle.file_pages.proofs.ReleaseLoop.{halfway_here, halfway_more, releases_all, releases_broke}
use Rattle.disk_records.proofs.Framing.{page_by_sector, writes_silent, writes_then}
use Rattle.disk_records.specs.Frames.{IsPageOf}
use Rattle.file_pages.proofs.Freed.{frees_then, keeps_bits}
use Rattle.file_pages.proofs.releasing.release_rest.Goals as goal

pub loop-lower-init : goal.loop-lower-init
loop-lower-init g c = record {
  alone = alone_here (g.D.Tape.tape c.args.disk.now);
  unfailed = refl;
  runs = λ told. omega arith;
  frame = λ told. writes_silent (IsPageOf c.args.fid (pack (g.D.Tape.tape c.args.disk.now))) (added (g.D.Tape.tape c.args.disk.now) (g.D.Tape.tape c.args.disk.now)) (nothing_added (g.D.Tape.tape c.args.disk.now).events);
  bits = λ told. keeps_bits (pack (g.D.Tape.tape c.args.disk.now)) refl;
  sized = refl;
  refused = refl;
  handy = λ ss f handy. handy;
  no_more = λ page none. none;
  here = refl;
  gone = λ told page i at listed there. there;
  forgotten = λ n above within. absurd (omega (arith, above, within));
  follows = λ p told follows. follows;
  halfway = λ p pages told follows left. halfway_here (g.D.Tape.tape c.args.disk.now) c.args.hints.now.table left;
}

pub loop-lower-preserved : goal.loop-lower-preserved
loop-lower-preserved g c =
    let inv = c.loop-lower.invariant in
    let step = c.release_after.ensures in
    record {
      alone = alone_twice inv.alone step.alone;
      unfailed = c.in-Ok.ensures.cause ∙ inv.unfailed;
      runs = λ told. let was = inv.runs told in let more = step.runs told in omega (arith, was, more);
      frame = λ told. writes_then (IsPageOf c.args.fid) (page_by_sector c.args.fid) inv.alone.grown step.alone.grown (inv.frame told) (step.frame told);
      bits = λ told. frees_then c.args.fid c.args.hints.now.table c.loop-lower.hints.table c.release_after.new.hints.table step.alone.grown (step.frame told) (inv.bits told) (step.bits told);
      sized = step.sized ∙ inv.sized;
      refused = step.refused ∙ inv.refused;
      handy = λ ss f handy. step.handy ss f (inv.handy ss f handy);
      no_more = λ page none. step.no_more page (inv.no_more page none);
      here = step.others (page_number c.args.fid c.args.number) (λ same. let number : c.args.number ≡ c.loop-lower.lower + 1 = ap (λ (x : Page). x.number) same in omega (arith, number, c.loop-lower.auto.lower)) ∙ inv.here;
      gone = λ told. none_gone_twice (pack (g.D.Tape.tape c.args.disk.now)) (pack (g.D.Tape.tape c.loop-lower.disk)) (pack (g.D.Tape.tape c.release_after.new.disk)) c.loop-lower.hints.cache c.release_after.new.hints.cache (inv.gone told) step.no_more (step.gone told);
      forgotten = λ n above within. elim (same_or_less n (c.loop-lower.lower + 1) within) [
        | inl same ↦ subst (λ k. address_in c.release_after.new.hints.cache.entries (page_number c.args.fid k) ≡ None) same c.in-Ok.ensures.forgotten
        | inr less ↦ step.no_more (page_number c.args.fid n) (inv.forgotten n above (omega (arith, less)))
      ];
      follows = λ p told follows. (c.in-Ok.ensures.released p told (inv.follows p told follows)).follows;
      halfway = λ p pages told follows left. halfway_more inv.alone.grown step.alone.grown (inv.halfway p pages told follows left) (inv.follows p told follows) (c.goes_on.ensures.full c.if-not-goes_on.false) (c.in-Ok.ensures.released p told (inv.follows p told follows));
    }

pub returns-then-not-goes_on-clause-releases : goal.returns-then-not-goes_on-clause-releases
returns-then-not-goes_on-clause-releases g c p pages told follows left =
    let inv = c.loop-lower.invariant in
    let short = c.goes_on.ensures.short c.if-not-goes_on.true in
    releases_all (inv.halfway p pages told follows left) (inv.follows p told follows) short.0 (inl short.1)

pub returns-then-not-goes_on-clause-only : goal.returns-then-not-goes_on-clause-only
returns-then-not-goes_on-clause-only g c p told follows = (c.loop-lower.invariant.follows p told follows).only

pub returns-in-Err-clause-releases : goal.returns-in-Err-clause-releases
returns-in-Err-clause-releases g c p pages told follows left =
    let inv = c.loop-lower.invariant in
    let now = inv.follows p told follows in
    releases_broke inv.alone.grown c.release_after.ensures.alone.grown (inv.halfway p pages told follows left) now (c.goes_on.ensures.full c.if-not-goes_on.false) (λ to alone. c.in-Err.ensures.breaks p to told now alone) (c.in-Err.ensures.want told)

pub returns-in-Err-clause-misled : goal.returns-in-Err-clause-misled
returns-in-Err-clause-misled g c p told follows = c.in-Err.ensures.misled p told (c.loop-lower.invariant.follows p told follows) (c.goes_on.ensures.full c.if-not-goes_on.false)

pub returns-in-Err-clause-alone : goal.returns-in-Err-clause-alone
returns-in-Err-clause-alone g c = alone_twice c.loop-lower.invariant.alone c.release_after.ensures.alone

pub returns-in-Err-clause-handy : goal.returns-in-Err-clause-handy
returns-in-Err-clause-handy g c = λ ss f handy. c.release_after.ensures.handy ss f (c.loop-lower.invariant.handy ss f handy)

pub returns-clause-releases : goal.returns-clause-releases
returns-clause-releases g c p pages told follows left =
    let inv = c.loop-lower.invariant in
    let end = c.loop-lower.auto.lower-end (omega arith) in
    let top : c.loop-lower.lower ≡ 65535 = omega (arith, end) in
    let first : 1 ≤ c.loop-lower.lower = omega (arith, top) in
    releases_all (inv.halfway p pages told follows left) (inv.follows p told follows) first (inr top)

pub returns-clause-only : goal.returns-clause-only
returns-clause-only g c p told follows = (c.loop-lower.invariant.follows p told follows).only

pub returns-then-not-goes_on-clause-forgotten : goal.returns-then-not-goes_on-clause-forgotten
returns-then-not-goes_on-clause-forgotten g c p told follows whole few =
    let inv = c.loop-lower.invariant in
    let short = c.goes_on.ensures.short c.if-not-goes_on.true in
    let last = short_end p c.args.fid c.loop-lower.lower c.loop-lower.here c.loop-lower.last (inv.follows p told follows).known whole short.0 short.1 in
    λ n above within. inv.forgotten n above (omega (arith, last, within))

pub returns-clause-forgotten : goal.returns-clause-forgotten
returns-clause-forgotten g c p told follows whole few =
    let end = c.loop-lower.auto.lower-end (omega arith) in
    let top : c.loop-lower.lower ≡ 65535 = omega (arith, end) in
    λ n above within. c.loop-lower.invariant.forgotten n above (omega (arith, few, within, top))

pub returns-in-Err-clause-no_more : goal.returns-in-Err-clause-no_more
returns-in-Err-clause-no_more g c = λ page none. c.release_after.ensures.no_more page (c.loop-lower.invariant.no_more page none)

pub returns-in-Err-clause-here : goal.returns-in-Err-clause-here
returns-in-Err-clause-here g c =
    c.release_after.ensures.others (page_number c.args.fid c.args.number) (λ same. let number : c.args.number ≡ c.loop-lower.lower + 1 = ap (λ (x : Page). x.number) same in omega (arith, number, c.loop-lower.auto.lower)) ∙ c.loop-lower.invariant.here

pub returns-in-Err-clause-gone : goal.returns-in-Err-clause-gone
returns-in-Err-clause-gone g c told = none_gone_twice (pack (g.D.Tape.tape c.args.disk.now)) (pack (g.D.Tape.tape c.loop-lower.disk)) (pack (g.D.Tape.tape c.release_after.new.disk)) c.loop-lower.hints.cache c.release_after.new.hints.cache (c.loop-lower.invariant.gone told) c.release_after.ensures.no_more (c.release_after.ensures.gone told)

pub returns-in-Err-clause-frame : goal.returns-in-Err-clause-frame
returns-in-Err-clause-frame g c told = writes_then (IsPageOf c.args.fid) (page_by_sector c.args.fid) c.loop-lower.invariant.alone.grown c.release_after.ensures.alone.grown (c.loop-lower.invariant.frame told) (c.release_after.ensures.frame told)

pub returns-in-Err-clause-bits : goal.returns-in-Err-clause-bits
returns-in-Err-clause-bits g c told = frees_then c.args.fid c.args.hints.now.table c.loop-lower.hints.table c.release_after.new.hints.table c.release_after.ensures.alone.grown (c.release_after.ensures.frame told) (c.loop-lower.invariant.bits told) (c.release_after.ensures.bits told)

pub returns-then-not-goes_on-clause-runs : goal.returns-then-not-goes_on-clause-runs
returns-then-not-goes_on-clause-runs g c p told follows whole =
    let inv = c.loop-lower.invariant in
    let runs = inv.runs told in
    let within = up_to_end p c.args.fid c.loop-lower.lower c.loop-lower.here c.loop-lower.last (inv.follows p told follows).known whole in
    omega (arith, runs, within)

pub returns-in-Err-clause-runs : goal.returns-in-Err-clause-runs
returns-in-Err-clause-runs g c p told follows whole =
    let inv = c.loop-lower.invariant in
    let runs = inv.runs told in
    let more = c.release_after.ensures.runs told in
    let within = more_after p c.args.fid c.loop-lower.lower c.loop-lower.here c.loop-lower.last (inv.follows p told follows).known (c.goes_on.ensures.full c.if-not-goes_on.false) whole in
    omega (arith, runs, more, within)

pub returns-clause-runs : goal.returns-clause-runs
returns-clause-runs g c p told follows whole =
    let inv = c.loop-lower.invariant in
    let runs = inv.runs told in
    let within = up_to_end p c.args.fid c.loop-lower.lower c.loop-lower.here c.loop-lower.last (inv.follows p told follows).known whole in
    omega (arith, runs, within)
