use Rattle.std.proofs.Common.{◌≡◌, ◌≢◌, Err, Ok, sym, subst, ◌∙◌, rules, refl}
use Rattle.disk_records.specs.Tapes.{pack}
use Rattle.disk_records.proofs.Growing.{alone_here, alone_twice}
use Rattle.disk_records.proofs.Framing.{usable_here, usable_looks, usable_twice}
use Rattle.label_check.proofs.Framing.{usable_value}
use Rattle.scav_pages.specs.Stops.{stop_of_guard}
use Rattle.scav_pages.proofs.Causing.{cause_of_guarded}
use Rattle.scavenger.specs.Runs.{Opens}
use Rattle.scavenger.proofs.MarkPlaces.{mark_carried, mark_place}
use Rattle.scavenger.proofs.Opening.{only_mark, opened_mark, opens_none, opens_wrote}
use Rattle.scavenger.proofs.mark.open_mark.Goals as goal

pub returns-then-at-eq0-clause-opens : goal.returns-then-at-eq0-clause-opens
returns-then-at-eq0-clause-opens g c = λ told is. opens_none (g.D.Tape.tape c.args.disk.now) (sym is ∙ c.if-at-eq0.true)

pub returns-in_err-write_mark-clause-alone : goal.returns-in_err-write_mark-clause-alone
returns-in_err-write_mark-clause-alone g c = alone_twice c.in_ok-read_page.ensures.looks.alone c.in_err-write_mark.ensures.alone

pub returns-in_err-write_mark-clause-frame : goal.returns-in_err-write_mark-clause-frame
returns-in_err-write_mark-clause-frame g c = usable_twice c.in_ok-read_page.ensures.looks.alone c.in_err-write_mark.ensures.alone (usable_looks c.in_ok-read_page.ensures.looks) (usable_value c.in_err-write_mark.ensures.guarded)

pub returns-clause-alone : goal.returns-clause-alone
returns-clause-alone g c = alone_twice c.in_ok-read_page.ensures.looks.alone c.in_ok-write_mark.ensures.alone

pub returns-clause-frame : goal.returns-clause-frame
returns-clause-frame g c = usable_twice c.in_ok-read_page.ensures.looks.alone c.in_ok-write_mark.ensures.alone (usable_looks c.in_ok-read_page.ensures.looks) (usable_value c.in_ok-write_mark.ensures.guarded)

pub returns-in_err-write_mark-clause-opens : goal.returns-in_err-write_mark-clause-opens
returns-in_err-write_mark-clause-opens g c = λ told is.
    let some : c.args.at ≢ 0 = search rules in
    let guarded = c.in_err-write_mark.ensures.guarded told in
    let failed : c.from_residual-in_err-write_mark.result ≡ Err (stop_of_guard c.in_err-write_mark.field-0.0) = search rules in
    subst (Opens (g.D.Tape.tape c.args.disk.now) (g.D.Tape.tape c.write_mark.new.disk)) (sym failed)
    (opens_wrote (Err (stop_of_guard c.in_err-write_mark.field-0.0)) c.args.at _ c.in_ok-read_page.ensures.looks.alone.grown c.in_err-write_mark.ensures.alone.grown (c.in_ok-read_page.ensures.looks.silent told)
    (mark_carried (pack (g.D.Tape.tape c.args.disk.now)) c.args.at is some) (mark_place (pack (g.D.Tape.tape c.args.disk.now)) c.args.at is some) (only_mark c.in_ok-read_page.ensures.whole (c.in_ok-read_page.ensures.read told).holds) (opened_mark _ c.in_ok-read_page.ensures.whole) guarded.some tt)

pub returns-clause-opens : goal.returns-clause-opens
returns-clause-opens g c = λ told is.
    let some : c.args.at ≢ 0 = search rules in
    let guarded = c.in_ok-write_mark.ensures.guarded told in
    opens_wrote (Ok tt) c.args.at _ c.in_ok-read_page.ensures.looks.alone.grown c.in_ok-write_mark.ensures.alone.grown (c.in_ok-read_page.ensures.looks.silent told)
    (mark_carried (pack (g.D.Tape.tape c.args.disk.now)) c.args.at is some) (mark_place (pack (g.D.Tape.tape c.args.disk.now)) c.args.at is some) (only_mark c.in_ok-read_page.ensures.whole (c.in_ok-read_page.ensures.read told).holds) (opened_mark _ c.in_ok-read_page.ensures.whole) guarded.some guarded.ok.wrote

pub returns-in_err-read_page-clause-cause : goal.returns-in_err-read_page-clause-cause
returns-in_err-read_page-clause-cause g c = cause_of_guarded c.in_err-read_page.field-0.0 c.from_residual.result (alone_here _) refl c.in_err-read_page.ensures.looks.alone c.in_err-read_page.ensures.cause c.from_residual.ensures.1

pub returns-in_err-write_mark-clause-cause : goal.returns-in_err-write_mark-clause-cause
returns-in_err-write_mark-clause-cause g c = cause_of_guarded c.in_err-write_mark.field-0.0 c.from_residual-in_err-write_mark.result c.in_ok-read_page.ensures.looks.alone c.in_ok-read_page.ensures.cause c.in_err-write_mark.ensures.alone c.in_err-write_mark.ensures.cause c.from_residual-in_err-write_mark.ensures.1

pub returns-then-at-eq0-clause-cause : goal.returns-then-at-eq0-clause-cause
returns-then-at-eq0-clause-cause g c = refl

pub returns-then-at-eq0-clause-alone : goal.returns-then-at-eq0-clause-alone
returns-then-at-eq0-clause-alone g c = alone_here _

pub returns-then-at-eq0-clause-frame : goal.returns-then-at-eq0-clause-frame
returns-then-at-eq0-clause-frame g c = usable_here (g.D.Tape.tape c.args.disk.now)

pub returns-in_err-read_page-clause-alone : goal.returns-in_err-read_page-clause-alone
returns-in_err-read_page-clause-alone g c = c.in_err-read_page.ensures.looks.alone

pub returns-in_err-read_page-clause-frame : goal.returns-in_err-read_page-clause-frame
returns-in_err-read_page-clause-frame g c = usable_looks c.in_err-read_page.ensures.looks

pub returns-clause-cause : goal.returns-clause-cause
returns-clause-cause g c = c.in_ok-write_mark.ensures.cause ∙ c.in_ok-read_page.ensures.cause
