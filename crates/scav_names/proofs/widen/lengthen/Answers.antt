use Rattle.std.proofs.Common.{◌≡◌, ◌++◌, Err, Some, refl, ap, sym, subst, ◌∙◌, arith}
use Rattle.disk_records.specs.declared.records.Sector.{Sector}
use Rattle.disk_records.specs.Commands.{relabel_writes}
use Rattle.disk_records.specs.Events.{IsFirstOf}
use Rattle.disk_records.specs.Labels.{label_of, page_of}
use Rattle.disk_records.specs.Packs.{carried, sector_at}
use Rattle.disk_records.specs.Tapes.{added, pack}
use Rattle.disk_records.proofs.Looking.{looks_pack}
use Rattle.disk_records.proofs.Growing.{alone_here, alone_twice}
use Rattle.disk_records.proofs.Framing.{usable_looks, usable_twice}
use Rattle.label_check.proofs.Framing.{usable_relabel}
use Rattle.scav_pages.proofs.Ranking.{page_ranged}
use Rattle.scav_pages.proofs.Causing.{cause_of_guarded, cause_of_part}
use Rattle.scav_names.specs.Roots.{lengthening_writes}
use Rattle.scav_names.specs.Words.{changed_writes}
use Rattle.scav_names.proofs.PageWriting.{all_done}
use Rattle.scav_names.proofs.WideningPage.{carries_still, label_all, label_names, label_part, page_stops, part_stops, value_part, writes_are}
use Rattle.scav_names.proofs.widen.lengthen.Goals as goal

pub returns-in_err-put_value-clause-alone : goal.returns-in_err-put_value-clause-alone
returns-in_err-put_value-clause-alone g c = alone_twice c.in_ok-info.ensures.looks.alone c.in_err-put_value.ensures.alone

pub returns-in_err-put_value-clause-frame : goal.returns-in_err-put_value-clause-frame
returns-in_err-put_value-clause-frame g c = usable_twice c.in_ok-info.ensures.looks.alone c.in_err-put_value.ensures.alone (usable_looks c.in_ok-info.ensures.looks) c.in_err-put_value.ensures.frame

pub returns-in_err-relabel-clause-alone : goal.returns-in_err-relabel-clause-alone
returns-in_err-relabel-clause-alone g c = alone_twice (alone_twice c.in_ok-info.ensures.looks.alone c.in_ok-put_value.ensures.alone) c.in_err-relabel.ensures.alone

pub returns-in_err-relabel-clause-frame : goal.returns-in_err-relabel-clause-frame
returns-in_err-relabel-clause-frame g c = usable_twice (alone_twice c.in_ok-info.ensures.looks.alone c.in_ok-put_value.ensures.alone) c.in_err-relabel.ensures.alone (usable_twice c.in_ok-info.ensures.looks.alone c.in_ok-put_value.ensures.alone (usable_looks c.in_ok-info.ensures.looks) c.in_ok-put_value.ensures.frame) (usable_relabel c.in_err-relabel.ensures.guarded)

pub returns-clause-alone : goal.returns-clause-alone
returns-clause-alone g c = alone_twice (alone_twice c.in_ok-info.ensures.looks.alone c.in_ok-put_value.ensures.alone) c.in_ok-relabel.ensures.alone

pub returns-clause-frame : goal.returns-clause-frame
returns-clause-frame g c = usable_twice (alone_twice c.in_ok-info.ensures.looks.alone c.in_ok-put_value.ensures.alone) c.in_ok-relabel.ensures.alone (usable_twice c.in_ok-info.ensures.looks.alone c.in_ok-put_value.ensures.alone (usable_looks c.in_ok-info.ensures.looks) c.in_ok-put_value.ensures.frame) (usable_relabel c.in_ok-relabel.ensures.guarded)

pub relabel-requires-clause-same : goal.relabel-requires-clause-same
relabel-requires-clause-same g c =
    let low = (page_ranged c.read_page.new.buf.label c.args.page c.in_ok-info.ensures.page.names).0 in
    ap page_of c.label_of-label.ensures ∙ label_names c.args.page 512 c.args.next c.in_ok-info.info.previous c.requires.full_name low (omega arith)

pub returns-in_err-put_value-clause-writes : goal.returns-in_err-put_value-clause-writes
returns-in_err-put_value-clause-writes g c = λ told here.
    let a = g.D.Tape.tape c.args.disk.now in
    let at = c.args.at in
    let looks = c.in_ok-info.ensures.looks in
    let read = c.in_ok-info.ensures.read told in
    let x = c.in_err-put_value.ensures in
    let old = c.read_page.new.buf.value in
    let value = c.with_space-words.result in
    let label = label_of c.args.page 512 c.args.next c.in_ok-info.info.previous in
    let is : changed_writes at old value ++ relabel_writes at label value ≡ lengthening_writes (pack a) at c.args.page c.args.used c.args.next = writes_are (sector_at (pack a) at) at c.args.page c.args.used c.args.next c.in_ok-info.info c.read_page.new.buf read.holds read.tells refl c.with_space-words.ensures in
    let held : carried (pack (g.D.Tape.tape c.read_page.new.disk)) at ≡ Some c.args.page = ap (λ p. carried p at) (looks_pack looks told) ∙ here in
    let wrote = x.writes told held in
    part_stops c.in_err-put_value.field-0.0 c.from_residual-in_err-put_value.result
    (subst (λ l. IsFirstOf l (added a (g.D.Tape.tape c.put_value.new.disk))) is (value_part at old label value looks.alone.grown (looks.silent told) x.alone.grown wrote.some))
    (λ astray. wrote.found (ap Err astray)) c.from_residual-in_err-put_value.ensures.1

pub returns-in_err-relabel-clause-writes : goal.returns-in_err-relabel-clause-writes
returns-in_err-relabel-clause-writes g c = λ told here.
    let a = g.D.Tape.tape c.args.disk.now in
    let d = g.D.Tape.tape c.relabel.new.disk in
    let at = c.args.at in
    let looks = c.in_ok-info.ensures.looks in
    let read = c.in_ok-info.ensures.read told in
    let x = c.in_ok-put_value.ensures in
    let y = c.in_err-relabel.ensures in
    let label = c.label_of-label.result in
    let old = c.read_page.new.buf.value in
    let value = c.with_space-words.result in
    let is : changed_writes at old value ++ relabel_writes at label value ≡ lengthening_writes (pack a) at c.args.page c.args.used c.args.next = writes_are (sector_at (pack a) at) at c.args.page c.args.used c.args.next c.in_ok-info.info c.read_page.new.buf read.holds read.tells c.label_of-label.ensures c.with_space-words.ensures in
    let same = looks_pack looks told in
    let held : carried (pack (g.D.Tape.tape c.read_page.new.disk)) at ≡ Some c.args.page = ap (λ p. carried p at) same ∙ here in
    let holds : (sector_at (pack (g.D.Tape.tape c.read_page.new.disk)) at).value ≡ old = ap (λ p. (sector_at p at).value) same ∙ ap (λ (s : Sector). s.value) (sym read.holds) in
    let done = (x.writes told held).ok in
    let guarded = y.guarded told in
    page_stops c.in_err-relabel.field-0.0 c.from_residual-in_err-relabel.result
    (subst (λ l. IsFirstOf l (added a d)) is (label_part at c.args.page old label value looks.alone.grown (looks.silent told) held holds x.alone.grown done y.alone.grown guarded.some))
    guarded (carries_still at c.args.page old label value looks.alone.grown (looks.silent told) held holds x.alone.grown done) c.from_residual-in_err-relabel.ensures.1

pub returns-clause-writes : goal.returns-clause-writes
returns-clause-writes g c = λ told here.
    let a = g.D.Tape.tape c.args.disk.now in
    let d = g.D.Tape.tape c.relabel.new.disk in
    let at = c.args.at in
    let looks = c.in_ok-info.ensures.looks in
    let read = c.in_ok-info.ensures.read told in
    let x = c.in_ok-put_value.ensures in
    let y = c.in_ok-relabel.ensures in
    let label = c.label_of-label.result in
    let old = c.read_page.new.buf.value in
    let value = c.with_space-words.result in
    let is : changed_writes at old value ++ relabel_writes at label value ≡ lengthening_writes (pack a) at c.args.page c.args.used c.args.next = writes_are (sector_at (pack a) at) at c.args.page c.args.used c.args.next c.in_ok-info.info c.read_page.new.buf read.holds read.tells c.label_of-label.ensures c.with_space-words.ensures in
    let same = looks_pack looks told in
    let held : carried (pack (g.D.Tape.tape c.read_page.new.disk)) at ≡ Some c.args.page = ap (λ p. carried p at) same ∙ here in
    let holds : (sector_at (pack (g.D.Tape.tape c.read_page.new.disk)) at).value ≡ old = ap (λ p. (sector_at p at).value) same ∙ ap (λ (s : Sector). s.value) (sym read.holds) in
    let done = (x.writes told held).ok in
    all_done tt (label_all at c.args.page old label value looks.alone.grown (looks.silent told) held holds x.alone.grown done y.alone.grown (y.guarded told).ok.wrote ∙ is)

pub returns-in_err-info-clause-cause : goal.returns-in_err-info-clause-cause
returns-in_err-info-clause-cause g c = cause_of_guarded c.in_err-info.field-0.0 c.from_residual.result (alone_here _) refl c.in_err-info.ensures.looks.alone c.in_err-info.ensures.cause c.from_residual.ensures.1

pub returns-in_err-put_value-clause-cause : goal.returns-in_err-put_value-clause-cause
returns-in_err-put_value-clause-cause g c = cause_of_part c.in_err-put_value.field-0.0 c.from_residual-in_err-put_value.result c.in_ok-info.ensures.looks.alone c.in_ok-info.ensures.cause c.in_err-put_value.ensures.alone c.in_err-put_value.ensures.cause c.from_residual-in_err-put_value.ensures.1

pub returns-in_err-relabel-clause-cause : goal.returns-in_err-relabel-clause-cause
returns-in_err-relabel-clause-cause g c = cause_of_guarded c.in_err-relabel.field-0.0 c.from_residual-in_err-relabel.result (alone_twice c.in_ok-info.ensures.looks.alone c.in_ok-put_value.ensures.alone) (c.in_ok-put_value.ensures.cause ∙ c.in_ok-info.ensures.cause) c.in_err-relabel.ensures.alone c.in_err-relabel.ensures.cause c.from_residual-in_err-relabel.ensures.1

pub returns-in_err-info-clause-alone : goal.returns-in_err-info-clause-alone
returns-in_err-info-clause-alone g c = c.in_err-info.ensures.looks.alone

pub returns-in_err-info-clause-frame : goal.returns-in_err-info-clause-frame
returns-in_err-info-clause-frame g c = usable_looks c.in_err-info.ensures.looks

pub put_value-requires-clause-first : goal.put_value-requires-clause-first
put_value-requires-clause-first g c = c.requires.first

pub relabel-requires-clause-first : goal.relabel-requires-clause-first
relabel-requires-clause-first g c = c.requires.first

pub returns-clause-cause : goal.returns-clause-cause
returns-clause-cause g c = c.in_ok-relabel.ensures.cause ∙ c.in_ok-put_value.ensures.cause ∙ c.in_ok-info.ensures.cause
