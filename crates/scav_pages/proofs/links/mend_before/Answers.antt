use Rattle.std.proofs.Common.{subst, refl}
use Rattle.disk_records.specs.Tapes.{pack}
use Rattle.disk_records.proofs.Growing.{alone_here}
use Rattle.scav_pages.specs.Links.{MayMeet}
use Rattle.scav_pages.proofs.Causing.{cause_of_part}
use Rattle.scav_pages.proofs.Doing.{does_ok, does_stop_part, going_does, going_here}
use Rattle.scav_pages.proofs.LinkPass.{first_met, may_mend, next_met}
use Rattle.scav_pages.proofs.links.mend_before.Goals as goal

pub returns-in_default-clause-does : goal.returns-in_default-clause-does
returns-in_default-clause-does g c = λ told may.
    let a = g.D.Tape.tape c.args.disk.now in
    does_ok (record { row = c.args.row; previous = 65535 }) (going_here a) (first_met (subst (λ o. MayMeet (pack a) o c.args.row) c.in_default.is may))

pub returns-in_err-mend_page-clause-does : goal.returns-in_err-mend_page-clause-does
returns-in_err-mend_page-clause-does g c = λ told may.
    let a = g.D.Tape.tape c.args.disk.now in
    let meets = subst (λ o. MayMeet (pack a) o c.args.row) c.in-Some.is may in
    let page = c.in_err-mend_page.ensures in
    does_stop_part c.in_err-mend_page.field-0.0 c.from_residual.result (going_here a) page.alone.grown (page.does told (may_mend c.link_between.result meets c.shape-shape.ensures c.link_between.ensures)) c.from_residual.ensures.1

pub returns-in_err-mend_page-clause-cause : goal.returns-in_err-mend_page-clause-cause
returns-in_err-mend_page-clause-cause g c = cause_of_part c.in_err-mend_page.field-0.0 c.from_residual.result (alone_here _) refl c.in_err-mend_page.ensures.alone c.in_err-mend_page.ensures.cause c.from_residual.ensures.1

pub returns-clause-does : goal.returns-clause-does
returns-clause-does g c = λ told may.
    let a = g.D.Tape.tape c.args.disk.now in
    let row = c.args.row in
    let meets = subst (λ o. MayMeet (pack a) o row) c.in-Some.is may in
    let page = c.in_ok-mend_page.ensures in
    let previous = c.link_between-previous in
    let mended = page.does told (may_mend c.link_between.result meets c.shape-shape.ensures c.link_between.ensures) in
    does_ok (record { row = row; previous = previous.result }) (going_does (going_here a) page.alone.grown mended)
    (next_met meets.mended mended.leaves (page.wrote told) row previous.result meets.words meets.first c.shape-shape.ensures previous.ensures)
