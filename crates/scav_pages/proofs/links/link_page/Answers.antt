use Rattle.std.proofs.Common.{◌≡◌, ◌≢◌, ◌≤◌, Some, sym, ap, subst, ◌∙◌, arith, refl}
use Rattle.disk_records.specs.Commands.{relabel_writes}
use Rattle.disk_records.specs.Packs.{after, carried, sector_at}
use Rattle.disk_records.specs.Tapes.{pack}
use Rattle.disk_records.specs.Words.{word}
use Rattle.disk_records.proofs.Framing.{usable_looks, usable_twice}
use Rattle.disk_records.proofs.Growing.{alone_here, alone_twice}
use Rattle.disk_records.proofs.Looking.{looks_pack}
use Rattle.label_check.proofs.Framing.{usable_relabel}
use Rattle.scav_pages.specs.Links.{PageLinked, WritesPage}
use Rattle.scav_pages.proofs.Causing.{cause_of_guarded}
use Rattle.scav_pages.proofs.Changing.{other_word}
use Rattle.scav_pages.proofs.Doing.{does_ok, does_stop_two, going_done, going_here, going_looks, pack_done}
use Rattle.scav_pages.proofs.Cutting.{made_names}
use Rattle.scav_pages.proofs.Keeping.{Mends}
use Rattle.scav_pages.proofs.Linking.{label_size, linked_already, links_made, links_mend, made_linked, made_value, made_writes}
use Rattle.scav_pages.proofs.Ranking.{page_ranged}
use Rattle.scav_pages.proofs.links.link_page.Goals.{then-info-next-via-then-info-next, then-info-next-via-else-info-next+then-info-page}
use Rattle.scav_pages.proofs.links.link_page.Goals as goal

pub label_of-label-requires : goal.label_of-label-requires
label_of-label-requires g c =
    let h = c.in_ok-info.ensures in
    subst (λ n. n ≤ 512) (sym (ap (λ i. i.bytes) h.tells)) (page_ranged c.read_page.new.buf.label c.args.page.now.row.page h.page.names).1

pub returns-in_err-info-clause-cause : goal.returns-in_err-info-clause-cause
returns-in_err-info-clause-cause g c = cause_of_guarded c.in_err-info.field-0.0 c.from_residual.result (alone_here _) refl c.in_err-info.ensures.looks.alone c.in_err-info.ensures.cause c.from_residual.ensures.1

pub returns-in_err-relabel-clause-cause : goal.returns-in_err-relabel-clause-cause
returns-in_err-relabel-clause-cause g c = cause_of_guarded c.in_err-relabel.field-0.0 c.from_residual-in_err-relabel.result c.in_ok-info.ensures.looks.alone c.in_ok-info.ensures.cause c.in_err-relabel.ensures.alone c.in_err-relabel.ensures.cause c.from_residual-in_err-relabel.ensures.1

pub returns-in_err-relabel-clause-alone : goal.returns-in_err-relabel-clause-alone
returns-in_err-relabel-clause-alone g c = alone_twice c.in_ok-info.ensures.looks.alone c.in_err-relabel.ensures.alone

pub returns-in_err-relabel-clause-frame : goal.returns-in_err-relabel-clause-frame
returns-in_err-relabel-clause-frame g c = usable_twice c.in_ok-info.ensures.looks.alone c.in_err-relabel.ensures.alone (usable_looks c.in_ok-info.ensures.looks) (usable_relabel c.in_err-relabel.ensures.guarded)

pub returns-in_ok-relabel-clause-alone : goal.returns-in_ok-relabel-clause-alone
returns-in_ok-relabel-clause-alone g c = alone_twice c.in_ok-info.ensures.looks.alone c.in_ok-relabel.ensures.alone

pub returns-in_ok-relabel-clause-frame : goal.returns-in_ok-relabel-clause-frame
returns-in_ok-relabel-clause-frame g c = usable_twice c.in_ok-info.ensures.looks.alone c.in_ok-relabel.ensures.alone (usable_looks c.in_ok-info.ensures.looks) (usable_relabel c.in_ok-relabel.ensures.guarded)

pub returns-in_err-relabel-clause-does : goal.returns-in_err-relabel-clause-does
returns-in_err-relabel-clause-does g c = λ told may.
    let a = g.D.Tape.tape c.args.disk.now in
    let row = c.args.page.now.row in
    let same = looks_pack c.in_ok-info.ensures.looks told in
    let size = label_size (pack a) row.at (g.met.D.Disk.formed c.args.disk.now told) may.carries in
    let made = links_made (pack a) row.at row.page c.label_of-label.result c.in_ok-info.info.bytes c.args.next c.args.page.now.previous size may.carries (ap (λ i. i.bytes) (c.in_ok-info.ensures.read told).tells) c.label_of-label.ensures in
    let tells = (c.in_ok-info.ensures.read told).tells in
    let stands = (sector_at (pack a) row.at).label in
    let other : c.label_of-label.result ≢ stands = elim c.then-info-next.branch [
      | then-info-next-via-then-info-next w ↦ other_word 0 c.in_ok-info.info.next c.label_of-label.result _ stands c.label_of-label.ensures (ap (λ i. i.next) tells) w.if-info-next.true
      | then-info-next-via-else-info-next+then-info-page w ↦ other_word 1 c.in_ok-info.info.previous c.label_of-label.result _ stands c.label_of-label.ensures (ap (λ i. i.previous) tells) w.if-info-page.true
    ] in
    does_stop_two c.in_err-relabel.field-0.0 c.from_residual-in_err-relabel.result (going_looks (going_here a) c.in_ok-info.ensures.looks told) c.in_err-relabel.ensures.alone.grown
    (subst (λ p. carried p row.at ≡ Some row.page) (sym same) may.carries)
    (subst (λ p. Mends p (relabel_writes row.at c.label_of-label.result (sector_at p row.at).value)) (sym same) (links_mend (pack a) row.at row.page c.label_of-label.result may.carries made.0 made.1 other))
    (omega arith) (c.in_err-relabel.ensures.guarded told) c.from_residual-in_err-relabel.ensures.1

pub returns-in_ok-relabel-clause-does : goal.returns-in_ok-relabel-clause-does
returns-in_ok-relabel-clause-does g c = λ told may.
    let a = g.D.Tape.tape c.args.disk.now in
    let row = c.args.page.now.row in
    let same = looks_pack c.in_ok-info.ensures.looks told in
    let size = label_size (pack a) row.at (g.met.D.Disk.formed c.args.disk.now told) may.carries in
    let made = links_made (pack a) row.at row.page c.label_of-label.result c.in_ok-info.info.bytes c.args.next c.args.page.now.previous size may.carries (ap (λ i. i.bytes) (c.in_ok-info.ensures.read told).tells) c.label_of-label.ensures in
    let tells = (c.in_ok-info.ensures.read told).tells in
    let stands = (sector_at (pack a) row.at).label in
    let other : c.label_of-label.result ≢ stands = elim c.then-info-next.branch [
      | then-info-next-via-then-info-next w ↦ other_word 0 c.in_ok-info.info.next c.label_of-label.result _ stands c.label_of-label.ensures (ap (λ i. i.next) tells) w.if-info-next.true
      | then-info-next-via-else-info-next+then-info-page w ↦ other_word 1 c.in_ok-info.info.previous c.label_of-label.result _ stands c.label_of-label.ensures (ap (λ i. i.previous) tells) w.if-info-page.true
    ] in
    let grown = c.in_ok-relabel.ensures.alone.grown in
    let done = (c.in_ok-relabel.ensures.guarded told).ok in
    does_ok tt
    (going_done (going_looks (going_here a) c.in_ok-info.ensures.looks told) grown
    (subst (λ p. Mends p (relabel_writes row.at c.label_of-label.result (sector_at p row.at).value)) (sym same) (links_mend (pack a) row.at row.page c.label_of-label.result may.carries made.0 made.1 other)) done)
    (made_linked (pack a) c.args.page.now c.args.next c.label_of-label.result c.in_ok-info.info.bytes may made.0 made.1 c.label_of-label.ensures (pack (g.D.Tape.tape c.relabel.new.disk))
    (pack_done grown done ∙ ap (λ p. after p (relabel_writes row.at c.label_of-label.result (sector_at p row.at).value)) same))

pub returns-in_ok-relabel-clause-wrote : goal.returns-in_ok-relabel-clause-wrote
returns-in_ok-relabel-clause-wrote g c = λ told.
    let row = c.args.page.now.row in
    let h = c.in_ok-info.ensures in
    let done = (c.in_ok-relabel.ensures.guarded told).ok in
    let names = made_names c.read_page.new.buf.label row.page c.in_ok-info.info.bytes c.args.next c.args.page.now.previous h.page.names c.label_of-label.ensures (subst (λ n. n ≤ 512) (sym (ap (λ i. i.bytes) h.tells)) (page_ranged c.read_page.new.buf.label row.page h.page.names).1) in
    subst (λ p. WritesPage row.at row.page p (pack (g.D.Tape.tape c.relabel.new.disk))) (looks_pack h.looks told)
    (made_writes (pack (g.D.Tape.tape c.read_page.new.disk)) row.at row.page c.label_of-label.result done.held names (pack (g.D.Tape.tape c.relabel.new.disk)) (pack_done c.in_ok-relabel.ensures.alone.grown done))

pub returns-in_ok-relabel-clause-holds : goal.returns-in_ok-relabel-clause-holds
returns-in_ok-relabel-clause-holds g c = λ told.
    let row = c.args.page.now.row in
    let h = c.in_ok-info.ensures in
    let done = (c.in_ok-relabel.ensures.guarded told).ok in
    let names = made_names c.read_page.new.buf.label row.page c.in_ok-info.info.bytes c.args.next c.args.page.now.previous h.page.names c.label_of-label.ensures (subst (λ n. n ≤ 512) (sym (ap (λ i. i.bytes) h.tells)) (page_ranged c.read_page.new.buf.label row.page h.page.names).1) in
    ap (λ s. s.value) (h.read told).holds ∙ ap (λ p. (sector_at p row.at).value) (sym (looks_pack h.looks told))
    ∙ sym (made_value (pack (g.D.Tape.tape c.read_page.new.disk)) row.at row.page c.label_of-label.result done.held names (pack (g.D.Tape.tape c.relabel.new.disk)) (pack_done c.in_ok-relabel.ensures.alone.grown done))

pub returns-else-info-page-clause-does : goal.returns-else-info-page-clause-does
returns-else-info-page-clause-does g c = λ told may.
    let a = g.D.Tape.tape c.args.disk.now in
    let row = c.args.page.now.row in
    let h = c.in_ok-info.ensures in
    let holds = (h.read told).holds in
    let next = sym (ap (λ s. word s.label 0) holds) ∙ sym (ap (λ i. i.next) h.tells) ∙ c.if-info-next.false in
    let previous = sym (ap (λ s. word s.label 1) holds) ∙ sym (ap (λ i. i.previous) h.tells) ∙ c.if-info-page.false in
    does_ok tt (going_looks (going_here a) h.looks told) (subst (λ q. PageLinked row.at (pack a) q tt) (sym (looks_pack h.looks told)) (linked_already may next previous))

pub returns-in_err-info-clause-frame : goal.returns-in_err-info-clause-frame
returns-in_err-info-clause-frame g c = usable_looks c.in_err-info.ensures.looks
