use Rattle.std.proofs.Common.{◌≡◌, ◌≢◌, ◌<◌, ◌≤◌, IfSome, IsTrue, None, Some, arith, rules, refl, subst, sym, ap, ◌∙◌}
use Rattle.std.specs.Option.{option_or}
use Rattle.disk_records.specs.Addresses.{pages_of}
use Rattle.disk_records.specs.Tapes.{pack}
use Rattle.disk_records.proofs.Framing.{usable_looks, usable_twice}
use Rattle.disk_records.proofs.Growing.{alone_here, alone_twice}
use Rattle.label_check.proofs.Framing.{usable_release}
use Rattle.laws_mend.specs.Parts.{Ended}
use Rattle.pack_model.specs.sessions.Descriptor.{data_pages}
use Rattle.pack_model.specs.states.InUse.{counts}
use Rattle.pack_model.specs.reading.Sights.{sights}
use Rattle.scav_table.specs.Laws.{IsFirstAbove, IsNextRow}
use Rattle.scav_table.specs.Passes.{IsNext}
use Rattle.scav_pages.specs.Walks.{Walked}
use Rattle.scav_pages.proofs.Causing.{cause_of_guarded, cause_of_part, cause_of_swept}
use Rattle.scav_pages.proofs.Ahead.{ahead, ahead_falls, counts_on}
use Rattle.scav_pages.proofs.Doing.{does_stop_looking, does_stop_two, going_looks}
use Rattle.scav_pages.proofs.Rooting.{root_page}
use Rattle.scav_pages.proofs.Using.{count_is, keeps_it, pass_none, releases_it, unused_here, unused_mends, used_all, walked_then}
use Rattle.scav_pages.proofs.Using.IsNoted.{noted, other}
use Rattle.scav_pages.proofs.unused.release_unused.Goals as goal

pub returns-in_err-pass-clause-cause : goal.returns-in_err-pass-clause-cause
returns-in_err-pass-clause-cause g c = cause_of_swept c.in_err-pass.field-0.0 c.from_residual.result (alone_here _) refl c.in_err-pass.ensures.looks.alone c.in_err-pass.ensures.cause c.from_residual.ensures.1

pub loop-row-init : goal.loop-row-init
loop-row-init g c =
    let read = c.in_ok-pass.ensures in
    record {
      pass = pass_none c.new-walk.result read.looks read.stands read.first (λ told. c.new-walk.ensures.start (pack (g.D.Tape.tape c.args.disk.now)) None (g.met.D.Disk.formed c.args.disk.now told) (λ r is. cc));
      unfailed = read.cause;
      frame = usable_looks read.looks;
    }

pub returns-in_err-row-clause-cause : goal.returns-in_err-row-clause-cause
returns-in_err-row-clause-cause g c = cause_of_part c.in_err-row.field-0.0 c.from_residual-in_err-row.result c.loop-row.invariant.pass.alone c.loop-row.invariant.unfailed c.in_err-row.ensures.looks.alone c.in_err-row.ensures.cause c.from_residual-in_err-row.ensures.1

pub returns-in_err-row-clause-alone : goal.returns-in_err-row-clause-alone
returns-in_err-row-clause-alone g c = alone_twice c.loop-row.invariant.pass.alone c.in_err-row.ensures.looks.alone

pub returns-in_err-row-clause-frame : goal.returns-in_err-row-clause-frame
returns-in_err-row-clause-frame g c = usable_twice c.loop-row.invariant.pass.alone c.in_err-row.ensures.looks.alone c.loop-row.invariant.frame (usable_looks c.in_err-row.ensures.looks)

pub returns-in_err-row-clause-does : goal.returns-in_err-row-clause-does
returns-in_err-row-clause-does g c = λ told ended.
    let read = c.in_err-row.ensures in
    does_stop_looking c.in_err-row.field-0.0 c.from_residual-in_err-row.result (c.loop-row.invariant.pass.released told ended).going read.looks told (read.found told) (read.want told) c.from_residual-in_err-row.ensures.1

pub returns-in_err-release-clause-cause : goal.returns-in_err-release-clause-cause
returns-in_err-release-clause-cause g c = cause_of_guarded c.in_err-release.field-0.0 c.from_residual-in_err-release.result (alone_twice c.loop-row.invariant.pass.alone c.in_ok-row.ensures.looks.alone) (c.in_ok-row.ensures.cause ∙ c.loop-row.invariant.unfailed) c.in_err-release.ensures.alone c.in_err-release.ensures.cause c.from_residual-in_err-release.ensures.1

pub returns-in_err-release-clause-alone : goal.returns-in_err-release-clause-alone
returns-in_err-release-clause-alone g c = alone_twice (alone_twice c.loop-row.invariant.pass.alone c.in_ok-row.ensures.looks.alone) c.in_err-release.ensures.alone

pub returns-in_err-release-clause-frame : goal.returns-in_err-release-clause-frame
returns-in_err-release-clause-frame g c = usable_twice (alone_twice c.loop-row.invariant.pass.alone c.in_ok-row.ensures.looks.alone) c.in_err-release.ensures.alone (usable_twice c.loop-row.invariant.pass.alone c.in_ok-row.ensures.looks.alone c.loop-row.invariant.frame (usable_looks c.in_ok-row.ensures.looks)) (usable_release c.in_err-release.ensures.guarded)

pub returns-in_err-release-clause-does : goal.returns-in_err-release-clause-does
returns-in_err-release-clause-does g c = λ told ended.
    let read = c.in_ok-row.ensures in
    let row = c.in-Some.row in
    let old = g.D.Tape.tape c.args.disk.now in
    let now = g.D.Tape.tape c.loop-row.disk in
    let inv = c.loop-row.invariant.pass in
    let so_far = inv.released told ended in
    let form : data_pages c.shape.result ≡ data_pages old.form = ap data_pages (c.shape.ensures ∙ c.in_ok-pass.ensures.looks.alone.grown.form) in
    let first : IsTrue g.D.Tape.told → IsFirstAbove (pack now) c.loop-row.pass.last row = λ told. subst (IsNextRow (pack now) c.loop-row.pass.last) c.in-Some.is (read.next told) in
    let next : c.next_row.new.pass.last ≡ Some row = read.last ∙ ap (λ o. option_or o c.loop-row.pass.last) c.in-Some.is in
    let tells : Ended (pack old) → Walked (pack old) c.loop-row.pass.last c.loop-row.walk → IsFirstAbove (pack old) c.loop-row.pass.last row → c.is_used.result ≡ counts old.form (sights (pack old)) row.page.fid row.page.number =
    λ ended. c.is_used.ensures.used (pack old) c.loop-row.pass.last ended (c.data_pages-most.ensures.pages ∙ form) in
    let walked = walked_then c.is_used.result inv read.looks read.stands next first c.is_used.ensures.walked tells told ended in
    let uncounted = sym (count_is c.is_used.result inv read.looks read.stands next first c.is_used.ensures.walked tells told ended) ∙ c.if-not-is_used.true in
    does_stop_two c.in_err-release.field-0.0 c.from_residual-in_err-release.result (going_looks so_far.going read.looks told) c.in_err-release.ensures.alone.grown
    (unused_here so_far read.looks told (first told) walked uncounted) (unused_mends so_far read.looks told (first told) walked uncounted) (omega arith) (c.in_err-release.ensures.guarded told) c.from_residual-in_err-release.ensures.1

pub loop-row-preserved-then-not-is_used : goal.loop-row-preserved-then-not-is_used
loop-row-preserved-then-not-is_used g c =
    let read = c.in_ok-row.ensures in
    let row = c.in-Some.row in
    let old = g.D.Tape.tape c.args.disk.now in
    let now = g.D.Tape.tape c.loop-row.disk in
    let form : data_pages c.shape.result ≡ data_pages old.form = ap data_pages (c.shape.ensures ∙ c.in_ok-pass.ensures.looks.alone.grown.form) in
    let first : IsTrue g.D.Tape.told → IsFirstAbove (pack now) c.loop-row.pass.last row = λ told. subst (IsNextRow (pack now) c.loop-row.pass.last) c.in-Some.is (read.next told) in
    let next : c.next_row.new.pass.last ≡ Some row = read.last ∙ ap (λ o. option_or o c.loop-row.pass.last) c.in-Some.is in
    let tells : Ended (pack old) → Walked (pack old) c.loop-row.pass.last c.loop-row.walk → IsFirstAbove (pack old) c.loop-row.pass.last row → c.is_used.result ≡ counts old.form (sights (pack old)) row.page.fid row.page.number =
    λ ended. c.is_used.ensures.used (pack old) c.loop-row.pass.last ended (c.data_pages-most.ensures.pages ∙ form) in
    record {
      pass = releases_it c.is_used.result c.loop-row.invariant.pass read.looks read.stands next first c.is_used.ensures.walked tells c.if-not-is_used.true c.saturating_add.result c.in_ok-release.ensures.alone
          (λ told. (c.in_ok-release.ensures.guarded told).ok)
          (λ told frees. counts_on (g.D.Tape.tape c.release.new.disk) c.loop-row.unused.freed (g.met.D.Disk.sized c.release.new.disk told) frees c.saturating_add.ensures);
      unfailed = c.in_ok-release.ensures.cause ∙ read.cause ∙ c.loop-row.invariant.unfailed;
      frame = usable_twice (alone_twice c.loop-row.invariant.pass.alone read.looks.alone) c.in_ok-release.ensures.alone (usable_twice c.loop-row.invariant.pass.alone read.looks.alone c.loop-row.invariant.frame (usable_looks read.looks)) (usable_release c.in_ok-release.ensures.guarded);
    }

pub loop-row-preserved-then-eq : goal.loop-row-preserved-then-eq
loop-row-preserved-then-eq g c =
    let read = c.in_ok-row.ensures in
    let row = c.in-Some.row in
    let old = g.D.Tape.tape c.args.disk.now in
    let now = g.D.Tape.tape c.loop-row.disk in
    let form : data_pages c.shape.result ≡ data_pages old.form = ap data_pages (c.shape.ensures ∙ c.in_ok-pass.ensures.looks.alone.grown.form) in
    let first : IsTrue g.D.Tape.told → IsFirstAbove (pack now) c.loop-row.pass.last row = λ told. subst (IsNextRow (pack now) c.loop-row.pass.last) c.in-Some.is (read.next told) in
    let next : c.next_row.new.pass.last ≡ Some row = read.last ∙ ap (λ o. option_or o c.loop-row.pass.last) c.in-Some.is in
    let tells : Ended (pack old) → Walked (pack old) c.loop-row.pass.last c.loop-row.walk → IsFirstAbove (pack old) c.loop-row.pass.last row → c.is_used.result ≡ counts old.form (sights (pack old)) row.page.fid row.page.number =
    λ ended. c.is_used.ensures.used (pack old) c.loop-row.pass.last ended (c.data_pages-most.ensures.pages ∙ form) in
    let within = subst (λ o. IfSome o (λ r. (1 ≤ r.at) × (r.at < pages_of now.form))) c.in-Some.is read.place in
    let pages : pages_of now.form ≡ pages_of old.form = ap pages_of c.loop-row.invariant.pass.alone.grown.form in
    let same : row.page ≡ (root_page 0) = search rules in
    record {
      pass = keeps_it c.is_used.result c.loop-row.invariant.pass read.looks read.stands next first c.is_used.ensures.walked tells c.if-not-is_used.false (Some row.at) (within.0, omega (arith, within.1, pages)) (noted same refl);
      unfailed = read.cause ∙ c.loop-row.invariant.unfailed;
      frame = usable_twice c.loop-row.invariant.pass.alone read.looks.alone c.loop-row.invariant.frame (usable_looks read.looks);
    }

pub loop-row-preserved : goal.loop-row-preserved
loop-row-preserved g c =
    let read = c.in_ok-row.ensures in
    let row = c.in-Some.row in
    let old = g.D.Tape.tape c.args.disk.now in
    let now = g.D.Tape.tape c.loop-row.disk in
    let form : data_pages c.shape.result ≡ data_pages old.form = ap data_pages (c.shape.ensures ∙ c.in_ok-pass.ensures.looks.alone.grown.form) in
    let first : IsTrue g.D.Tape.told → IsFirstAbove (pack now) c.loop-row.pass.last row = λ told. subst (IsNextRow (pack now) c.loop-row.pass.last) c.in-Some.is (read.next told) in
    let next : c.next_row.new.pass.last ≡ Some row = read.last ∙ ap (λ o. option_or o c.loop-row.pass.last) c.in-Some.is in
    let tells : Ended (pack old) → Walked (pack old) c.loop-row.pass.last c.loop-row.walk → IsFirstAbove (pack old) c.loop-row.pass.last row → c.is_used.result ≡ counts old.form (sights (pack old)) row.page.fid row.page.number =
    λ ended. c.is_used.ensures.used (pack old) c.loop-row.pass.last ended (c.data_pages-most.ensures.pages ∙ form) in
    let another : row.page ≢ (root_page 0) = λ same. search rules in
    record {
      pass = keeps_it c.is_used.result c.loop-row.invariant.pass read.looks read.stands next first c.is_used.ensures.walked tells c.if-not-is_used.false c.loop-row.unused.root c.loop-row.invariant.pass.place (other another refl);
      unfailed = read.cause ∙ c.loop-row.invariant.unfailed;
      frame = usable_twice c.loop-row.invariant.pass.alone read.looks.alone c.loop-row.invariant.frame (usable_looks read.looks);
    }

pub loop-row-smaller : goal.loop-row-smaller
loop-row-smaller g c =
    let read = c.in_ok-row.ensures in
    let row = c.in-Some.row in
    let next : c.next_row.new.pass.last ≡ Some row = read.last ∙ ap (λ o. option_or o c.loop-row.pass.last) c.in-Some.is in
    let falls = ahead_falls c.loop-row.pass.last row (subst (IsNext c.loop-row.pass.last) c.in-Some.is read.rises) in
    let is : ahead c.next_row.new.pass.last ≡ ahead (Some row) = ap ahead next in
    omega (arith, falls, is)

pub returns-clause-cause : goal.returns-clause-cause
returns-clause-cause g c = c.in_ok-row.ensures.cause ∙ c.loop-row.invariant.unfailed

pub returns-clause-alone : goal.returns-clause-alone
returns-clause-alone g c = alone_twice c.loop-row.invariant.pass.alone c.in_ok-row.ensures.looks.alone

pub returns-clause-frame : goal.returns-clause-frame
returns-clause-frame g c = usable_twice c.loop-row.invariant.pass.alone c.in_ok-row.ensures.looks.alone c.loop-row.invariant.frame (usable_looks c.in_ok-row.ensures.looks)

pub returns-clause-does : goal.returns-clause-does
returns-clause-does g c = λ told ended.
    let read = c.in_ok-row.ensures in
    used_all (c.loop-row.invariant.pass.released told ended) read.looks told (subst (IsNextRow (pack (g.D.Tape.tape c.loop-row.disk)) c.loop-row.pass.last) c.in_default.is (read.next told))

pub returns-in_err-pass-clause-frame : goal.returns-in_err-pass-clause-frame
returns-in_err-pass-clause-frame g c = usable_looks c.in_err-pass.ensures.looks
