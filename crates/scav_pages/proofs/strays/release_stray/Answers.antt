use Rattle.std.proofs.Common.{◌≡◌, None, Some, sym, ap, ◌∙◌, refl}
use Rattle.std.specs.Option.{is_some}
use Rattle.disk_records.specs.Commands.{ones}
use Rattle.disk_records.specs.Tapes.{pack}
use Rattle.disk_records.proofs.Framing.{usable_looks}
use Rattle.disk_records.proofs.Growing.{alone_here, alone_twice}
use Rattle.scav_pages.proofs.Causing.{cause_of_looked}
use Rattle.scav_pages.proofs.Straying.{bad_no_stray, free_no_stray, half_released, header_matches, is_stray, none_released, nothing_released, one_released, page_no_stray, stray_usable}
use Rattle.scav_pages.proofs.strays.release_stray.Goals as goal
use Rattle.scav_pages.proofs.strays.release_stray.Goals.{then-not-right-via-then-not-right, then-not-right-via-else-not-right+then-is_some, then-not-right-via-else-not-right+else-is_some+then-is_free_label}

pub returns-then-not-right-clause-does : goal.returns-then-not-right-clause-does
returns-then-not-right-clause-does g c = λ told once.
    let p = pack (g.D.Tape.tape c.args.disk.now) in
    let at = c.args.at in
    let found = c.look.new.buf in
    let read = c.in_ok-right.ensures in
    nothing_released at read.looks told once (elim c.then-not-right.branch [
      | then-not-right-via-then-not-right w ↦ bad_no_stray p at found (read.holds told) (sym read.right ∙ w.if-not-right.true)
      | then-not-right-via-else-not-right+then-is_some w ↦ page_no_stray p at found (read.holds told) (sym (w.is_some.ensures ∙ ap is_some w.page_of.ensures) ∙ w.if-is_some.true)
      | then-not-right-via-else-not-right+else-is_some+then-is_free_label w ↦ free_no_stray p at found (read.holds told) (sym w.is_free_label.ensures ∙ w.if-is_free_label.true)
    ])

pub returns-in-Ok-clause-alone : goal.returns-in-Ok-clause-alone
returns-in-Ok-clause-alone g c = alone_twice c.in_ok-right.ensures.looks.alone c.run.ensures.alone

pub returns-in-Ok-clause-does : goal.returns-in-Ok-clause-does
returns-in-Ok-clause-does g c = λ told once.
    let p = pack (g.D.Tape.tape c.args.disk.now) in
    let read = c.in_ok-right.ensures in
    let is = is_stray p c.args.at c.look.new.buf (read.holds told) c.requires.first (sym read.right ∙ c.if-not-right.false) (sym (c.is_some.ensures ∙ ap is_some c.page_of.ensures) ∙ c.if-is_some.false) (sym c.is_free_label.ensures ∙ c.if-is_free_label.false) in
    let ran = c.in-Ok.ensures.ran told in
    one_released c.args.at read.looks c.run.ensures.alone told is ran.some once ran.ok.wrote

pub returns-in-Err-Mismatch-clause-alone : goal.returns-in-Err-Mismatch-clause-alone
returns-in-Err-Mismatch-clause-alone g c = alone_twice c.in_ok-right.ensures.looks.alone c.run.ensures.alone

pub returns-in-Err-Mismatch-clause-does : goal.returns-in-Err-Mismatch-clause-does
returns-in-Err-Mismatch-clause-does g c = λ told once.
    let read = c.in_ok-right.ensures in
    let ran = rw c.in-Err-Mismatch.field-0-is at (c.in-Err-Mismatch.ensures.ran told) in
    let differs = ran.mismatch.differs in
    let same = header_matches c.args.at (record { header = c.look.new.buf.header; label = ones 8; value = ones 256 }) c.look.new.buf read.looks told (read.holds told) refl in
    absurd (let wrong : None ≡ Some (c.in-Err-Mismatch.field-0-0, c.in-Err-Mismatch.field-0-1) = sym same ∙ differs in cc)

pub returns-in-Err-Failed-clause-alone : goal.returns-in-Err-Failed-clause-alone
returns-in-Err-Failed-clause-alone g c = alone_twice c.in_ok-right.ensures.looks.alone c.run.ensures.alone

pub returns-in-Err-Failed-clause-does : goal.returns-in-Err-Failed-clause-does
returns-in-Err-Failed-clause-does g c = λ told once.
    let p = pack (g.D.Tape.tape c.args.disk.now) in
    let read = c.in_ok-right.ensures in
    let is = is_stray p c.args.at c.look.new.buf (read.holds told) c.requires.first (sym read.right ∙ c.if-not-right.false) (sym (c.is_some.ensures ∙ ap is_some c.page_of.ensures) ∙ c.if-is_some.false) (sym c.is_free_label.ensures ∙ c.if-is_free_label.false) in
    let ran = rw c.in-Err-Failed.field-0-is at (c.in-Err-Failed.ensures.ran told) in
    half_released c.args.at read.looks c.run.ensures.alone told is ran.some

pub returns-in-Err-Memory-clause-alone : goal.returns-in-Err-Memory-clause-alone
returns-in-Err-Memory-clause-alone g c = alone_twice c.in_ok-right.ensures.looks.alone c.run.ensures.alone

pub returns-in-Err-Memory-clause-does : goal.returns-in-Err-Memory-clause-does
returns-in-Err-Memory-clause-does g c = λ told once.
    let p = pack (g.D.Tape.tape c.args.disk.now) in
    let read = c.in_ok-right.ensures in
    let is = is_stray p c.args.at c.look.new.buf (read.holds told) c.requires.first (sym read.right ∙ c.if-not-right.false) (sym (c.is_some.ensures ∙ ap is_some c.page_of.ensures) ∙ c.if-is_some.false) (sym c.is_free_label.ensures ∙ c.if-is_free_label.false) in
    let ran = rw c.in-Err-Memory.field-0-is at (c.in-Err-Memory.ensures.ran told) in
    let short = ran.want refl in
    none_released c.args.at read.looks c.run.ensures.alone told is ran.some short.less

pub returns-in_err-right-clause-cause : goal.returns-in_err-right-clause-cause
returns-in_err-right-clause-cause g c = cause_of_looked c.in_err-right.field-0.0 c.from_residual.result (alone_here _) refl c.in_err-right.ensures.looks.alone c.in_err-right.ensures.cause c.from_residual.ensures.1

pub returns-in_err-right-clause-frame : goal.returns-in_err-right-clause-frame
returns-in_err-right-clause-frame g c = usable_looks c.in_err-right.ensures.looks

pub returns-then-not-right-clause-frame : goal.returns-then-not-right-clause-frame
returns-then-not-right-clause-frame g c = usable_looks c.in_ok-right.ensures.looks

pub returns-in-Ok-clause-frame : goal.returns-in-Ok-clause-frame
returns-in-Ok-clause-frame g c = λ told.
    let p = pack (g.D.Tape.tape c.args.disk.now) in
    let read = c.in_ok-right.ensures in
    let is = is_stray p c.args.at c.look.new.buf (read.holds told) c.requires.first (sym read.right ∙ c.if-not-right.false) (sym (c.is_some.ensures ∙ ap is_some c.page_of.ensures) ∙ c.if-is_some.false) (sym c.is_free_label.ensures ∙ c.if-is_free_label.false) in
    let ran = c.in-Ok.ensures.ran told in
    stray_usable c.args.at read.looks c.run.ensures.alone told is ran.some

pub returns-in-Err-Mismatch-clause-frame : goal.returns-in-Err-Mismatch-clause-frame
returns-in-Err-Mismatch-clause-frame g c = λ told.
    let p = pack (g.D.Tape.tape c.args.disk.now) in
    let read = c.in_ok-right.ensures in
    let is = is_stray p c.args.at c.look.new.buf (read.holds told) c.requires.first (sym read.right ∙ c.if-not-right.false) (sym (c.is_some.ensures ∙ ap is_some c.page_of.ensures) ∙ c.if-is_some.false) (sym c.is_free_label.ensures ∙ c.if-is_free_label.false) in
    let ran = rw c.in-Err-Mismatch.field-0-is at (c.in-Err-Mismatch.ensures.ran told) in
    stray_usable c.args.at read.looks c.run.ensures.alone told is ran.some

pub returns-in-Err-Failed-clause-frame : goal.returns-in-Err-Failed-clause-frame
returns-in-Err-Failed-clause-frame g c = λ told.
    let p = pack (g.D.Tape.tape c.args.disk.now) in
    let read = c.in_ok-right.ensures in
    let is = is_stray p c.args.at c.look.new.buf (read.holds told) c.requires.first (sym read.right ∙ c.if-not-right.false) (sym (c.is_some.ensures ∙ ap is_some c.page_of.ensures) ∙ c.if-is_some.false) (sym c.is_free_label.ensures ∙ c.if-is_free_label.false) in
    let ran = rw c.in-Err-Failed.field-0-is at (c.in-Err-Failed.ensures.ran told) in
    stray_usable c.args.at read.looks c.run.ensures.alone told is ran.some

pub returns-in-Err-Memory-clause-frame : goal.returns-in-Err-Memory-clause-frame
returns-in-Err-Memory-clause-frame g c = λ told.
    let p = pack (g.D.Tape.tape c.args.disk.now) in
    let read = c.in_ok-right.ensures in
    let is = is_stray p c.args.at c.look.new.buf (read.holds told) c.requires.first (sym read.right ∙ c.if-not-right.false) (sym (c.is_some.ensures ∙ ap is_some c.page_of.ensures) ∙ c.if-is_some.false) (sym c.is_free_label.ensures ∙ c.if-is_free_label.false) in
    let ran = rw c.in-Err-Memory.field-0-is at (c.in-Err-Memory.ensures.ran told) in
    stray_usable c.args.at read.looks c.run.ensures.alone told is ran.some
