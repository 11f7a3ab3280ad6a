use Rattle.std.proofs.Common.{◌<◌, ap, sym, subst, ◌∙◌, refl}
use Rattle.disk_records.specs.Addresses.{pages_of}
use Rattle.disk_records.specs.Events.{IsFirstOf}
use Rattle.disk_records.specs.Packs.{carried}
use Rattle.disk_records.specs.Tapes.{added, pack}
use Rattle.disk_records.proofs.Growing.{alone_here, alone_twice}
use Rattle.disk_records.proofs.Framing.{usable_looks, usable_twice}
use Rattle.label_check.proofs.Framing.{usable_value}
use Rattle.disk_records.proofs.Looking.{looks_pack}
use Rattle.scav_pages.proofs.Causing.{cause_of_guarded}
use Rattle.scav_names.specs.Words.{page_writes}
use Rattle.scav_names.proofs.PageWriting.{added_looked, all_done, puts_none, puts_value}
use Rattle.scav_names.proofs.WideningPage.{page_stops}
use Rattle.scav_names.proofs.words.put_words.Goals as goal

pub returns-in_err-write_value-clause-alone : goal.returns-in_err-write_value-clause-alone
returns-in_err-write_value-clause-alone g c = alone_twice c.in_ok-read_page.ensures.looks.alone c.in_err-write_value.ensures.alone

pub returns-in_err-write_value-clause-frame : goal.returns-in_err-write_value-clause-frame
returns-in_err-write_value-clause-frame g c = usable_twice c.in_ok-read_page.ensures.looks.alone c.in_err-write_value.ensures.alone (usable_looks c.in_ok-read_page.ensures.looks) (usable_value c.in_err-write_value.ensures.guarded)

pub returns-in_ok-write_value-clause-alone : goal.returns-in_ok-write_value-clause-alone
returns-in_ok-write_value-clause-alone g c = alone_twice c.in_ok-read_page.ensures.looks.alone c.in_ok-write_value.ensures.alone

pub returns-in_ok-write_value-clause-frame : goal.returns-in_ok-write_value-clause-frame
returns-in_ok-write_value-clause-frame g c = usable_twice c.in_ok-read_page.ensures.looks.alone c.in_ok-write_value.ensures.alone (usable_looks c.in_ok-read_page.ensures.looks) (usable_value c.in_ok-write_value.ensures.guarded)

pub returns-in_err-read_page-clause-cause : goal.returns-in_err-read_page-clause-cause
returns-in_err-read_page-clause-cause g c = cause_of_guarded c.in_err-read_page.field-0.0 c.from_residual.result (alone_here _) refl c.in_err-read_page.ensures.looks.alone c.in_err-read_page.ensures.cause c.from_residual.ensures.1

pub returns-in_err-write_value-clause-cause : goal.returns-in_err-write_value-clause-cause
returns-in_err-write_value-clause-cause g c = cause_of_guarded c.in_err-write_value.field-0.0 c.from_residual-in_err-write_value.result c.in_ok-read_page.ensures.looks.alone c.in_ok-read_page.ensures.cause c.in_err-write_value.ensures.alone c.in_err-write_value.ensures.cause c.from_residual-in_err-write_value.ensures.1

pub returns-in_err-read_page-clause-alone : goal.returns-in_err-read_page-clause-alone
returns-in_err-read_page-clause-alone g c = c.in_err-read_page.ensures.looks.alone

pub returns-in_err-read_page-clause-frame : goal.returns-in_err-read_page-clause-frame
returns-in_err-read_page-clause-frame g c = usable_looks c.in_err-read_page.ensures.looks

pub returns-in_err-read_page-clause-writes : goal.returns-in_err-read_page-clause-writes
returns-in_err-read_page-clause-writes g c = λ told here.
    page_stops c.in_err-read_page.field-0.0 c.from_residual.result (subst (IsFirstOf (page_writes (pack (g.D.Tape.tape c.args.disk.now)) c.args.at c.args.from c.args.words.now)) (sym (c.in_err-read_page.ensures.looks.silent told)) tt)
    (c.in_err-read_page.ensures.guarded told) here c.from_residual.ensures.1

pub write_value-requires-clause-first : goal.write_value-requires-clause-first
write_value-requires-clause-first g c = c.requires.first

pub write_value-requires-clause-place : goal.write_value-requires-clause-place
write_value-requires-clause-place g c = subst (λ f. c.args.at < pages_of f) (sym c.in_ok-read_page.ensures.looks.alone.grown.form) c.requires.place

pub returns-in_err-write_value-clause-writes : goal.returns-in_err-write_value-clause-writes
returns-in_err-write_value-clause-writes g c = λ told here.
    let a = pack (g.D.Tape.tape c.args.disk.now) in
    let looks = c.in_ok-read_page.ensures.looks in
    let wrote = c.in_err-write_value.ensures in
    let guarded = wrote.guarded told in
    let is = puts_value a c.args.at c.args.from c.args.words.now c.read_page.new.buf c.put_in_value.result (c.in_ok-read_page.ensures.read told).holds c.put_in_value.ensures.changed c.if-put_in_value.true c.put_in_value.ensures.value in
    page_stops c.in_err-write_value.field-0.0 c.from_residual-in_err-write_value.result (subst (IsFirstOf (page_writes a c.args.at c.args.from c.args.words.now)) (sym (added_looked looks.alone.grown (looks.silent told) wrote.alone.grown)) (subst (λ l. IsFirstOf l (added (g.D.Tape.tape c.read_page.new.disk) (g.D.Tape.tape c.write_value.new.disk))) (sym is) guarded.some))
    guarded (ap (λ p. carried p c.args.at) (looks_pack looks told) ∙ here) c.from_residual-in_err-write_value.ensures.1

pub returns-in_ok-write_value-clause-writes : goal.returns-in_ok-write_value-clause-writes
returns-in_ok-write_value-clause-writes g c = λ told here.
    let a = pack (g.D.Tape.tape c.args.disk.now) in
    let looks = c.in_ok-read_page.ensures.looks in
    let wrote = c.in_ok-write_value.ensures in
    let is = puts_value a c.args.at c.args.from c.args.words.now c.read_page.new.buf c.put_in_value.result (c.in_ok-read_page.ensures.read told).holds c.put_in_value.ensures.changed c.if-put_in_value.true c.put_in_value.ensures.value in
    all_done tt (added_looked looks.alone.grown (looks.silent told) wrote.alone.grown ∙ (wrote.guarded told).ok.wrote ∙ sym is)

pub returns-in_ok-write_value-clause-cause : goal.returns-in_ok-write_value-clause-cause
returns-in_ok-write_value-clause-cause g c = c.in_ok-write_value.ensures.cause ∙ c.in_ok-read_page.ensures.cause

pub returns-else-put_in_value-clause-writes : goal.returns-else-put_in_value-clause-writes
returns-else-put_in_value-clause-writes g c = λ told here.
    let a = pack (g.D.Tape.tape c.args.disk.now) in
    let is = puts_none a c.args.at c.args.from c.args.words.now c.read_page.new.buf c.put_in_value.result (c.in_ok-read_page.ensures.read told).holds c.put_in_value.ensures.changed c.if-put_in_value.false in
    all_done tt (c.in_ok-read_page.ensures.looks.silent told ∙ sym is)

pub returns-else-put_in_value-clause-cause : goal.returns-else-put_in_value-clause-cause
returns-else-put_in_value-clause-cause g c = c.in_ok-read_page.ensures.cause

pub returns-else-put_in_value-clause-alone : goal.returns-else-put_in_value-clause-alone
returns-else-put_in_value-clause-alone g c = c.in_ok-read_page.ensures.looks.alone

pub returns-else-put_in_value-clause-frame : goal.returns-else-put_in_value-clause-frame
returns-else-put_in_value-clause-frame g c = usable_looks c.in_ok-read_page.ensures.looks
