use Rattle.std.proofs.Common.{refl}
use Rattle.disk_records.specs.Tapes.{pack}
use Rattle.disk_records.proofs.Framing.{usable_twice}
use Rattle.disk_records.proofs.Growing.{alone_here, alone_twice}
use Rattle.scav_pages.proofs.Causing.{cause_of_part}
use Rattle.scav_pages.proofs.Doing.{does_ok, does_stop_part, going_does, going_here}
use Rattle.scav_pages.proofs.Naming.{linked_named, linked_only, may_name}
use Rattle.scav_pages.proofs.links.mend_page.Goals as goal

pub returns-in_err-link_page-clause-cause : goal.returns-in_err-link_page-clause-cause
returns-in_err-link_page-clause-cause g c = cause_of_part c.in_err-link_page.field-0.0 c.from_residual.result (alone_here _) refl c.in_err-link_page.ensures.alone c.in_err-link_page.ensures.cause c.from_residual.ensures.1

pub returns-in_err-name_page-clause-cause : goal.returns-in_err-name_page-clause-cause
returns-in_err-name_page-clause-cause g c = cause_of_part c.in_err-name_page.field-0.0 c.from_residual-in_err-name_page.result c.in_ok-link_page.ensures.alone c.in_ok-link_page.ensures.cause c.in_err-name_page.ensures.alone c.in_err-name_page.ensures.cause c.from_residual-in_err-name_page.ensures.1

pub returns-in_err-name_page-clause-alone : goal.returns-in_err-name_page-clause-alone
returns-in_err-name_page-clause-alone g c = alone_twice c.in_ok-link_page.ensures.alone c.in_err-name_page.ensures.alone

pub returns-in_err-name_page-clause-frame : goal.returns-in_err-name_page-clause-frame
returns-in_err-name_page-clause-frame g c = usable_twice c.in_ok-link_page.ensures.alone c.in_err-name_page.ensures.alone c.in_ok-link_page.ensures.frame c.in_err-name_page.ensures.frame

pub returns-in_ok-name_page-clause-alone : goal.returns-in_ok-name_page-clause-alone
returns-in_ok-name_page-clause-alone g c = alone_twice c.in_ok-link_page.ensures.alone c.in_ok-name_page.ensures.alone

pub returns-in_ok-name_page-clause-frame : goal.returns-in_ok-name_page-clause-frame
returns-in_ok-name_page-clause-frame g c = usable_twice c.in_ok-link_page.ensures.alone c.in_ok-name_page.ensures.alone c.in_ok-link_page.ensures.frame c.in_ok-name_page.ensures.frame

pub returns-in_err-name_page-clause-does : goal.returns-in_err-name_page-clause-does
returns-in_err-name_page-clause-does g c = λ told may.
    let a = g.D.Tape.tape c.args.disk.now in
    let row = c.args.page.now.row in
    let link = c.in_ok-link_page.ensures in
    let linked = link.does told may in
    let name = may_name (pack a) (pack (g.D.Tape.tape c.link_page.new.disk)) row c.link_page.new.buf.value tt linked.leaves (link.wrote told) (g.met.D.Disk.formed c.link_page.new.disk told) (link.holds told) in
    does_stop_part c.in_err-name_page.field-0.0 c.from_residual-in_err-name_page.result (going_does (going_here a) link.alone.grown linked) c.in_err-name_page.ensures.alone.grown (c.in_err-name_page.ensures.does told name) c.from_residual-in_err-name_page.ensures.1

pub returns-in_ok-name_page-clause-does : goal.returns-in_ok-name_page-clause-does
returns-in_ok-name_page-clause-does g c = λ told may.
    let a = g.D.Tape.tape c.args.disk.now in
    let row = c.args.page.now.row in
    let link = c.in_ok-link_page.ensures in
    let linked = link.does told may in
    let name = may_name (pack a) (pack (g.D.Tape.tape c.link_page.new.disk)) row c.link_page.new.buf.value tt linked.leaves (link.wrote told) (g.met.D.Disk.formed c.link_page.new.disk told) (link.holds told) in
    let named = c.in_ok-name_page.ensures.does told name in
    does_ok tt (going_does (going_does (going_here a) link.alone.grown linked) c.in_ok-name_page.ensures.alone.grown named) (linked_named linked.leaves named.leaves)

pub returns-else-page-eq0-clause-does : goal.returns-else-page-eq0-clause-does
returns-else-page-eq0-clause-does g c = λ told may.
    let a = g.D.Tape.tape c.args.disk.now in
    let link = c.in_ok-link_page.ensures in
    let linked = link.does told may in
    does_ok tt (going_does (going_here a) link.alone.grown linked) (linked_only c.args.page.now.row linked.leaves (link.wrote told) c.if-page-eq0.false)
