use Rattle.std.proofs.Common.{Err, Ok, ap, ◌∙◌, ◌≡◌, List, Option, refl, ℕ}
use Rattle.disk_records.specs.declared.records.Place.TheVariants.{Held}
use Rattle.file_pages.specs.Counting.{counted_after}
use Rattle.file_pages.proofs.OneWrite.{value_done, value_failed}
use Rattle.file_pages.proofs.Valued.{value_keeps_places}
use Rattle.label_check.specs.Guarded.{Carries, FoundWrong}
use Rattle.file_pages.proofs.Erring.{wrong_at}
use Rattle.file_pages.proofs.Going.{at_wrong}
use Rattle.file_pages.specs.Calls.{WasHeld}
use Rattle.label_check.proofs.Framing.{guarded_writes, value_here}
use Rattle.disk_records.specs.Frames.{IsPageOf}
use Rattle.disk_records.specs.Tapes.{pack}
use Rattle.file_pages.proofs.one_value.write_page.Goals as goal

pub returns-in-Ok-clause-writes : goal.returns-in-Ok-clause-writes
returns-in-Ok-clause-writes g c o bits told =
    let a = g.D.Tape.tape c.args.disk.now in
    let b = g.D.Tape.tape c.write_value-written.new.disk in
    let counts : c.count_operation.new.tally ≡ counted_after a.writes 1 b.writes (Ok tt) c.args.tally.now =
    c.count_operation.ensures ∙ ap (λ k. counted_after k 1 c.writes-now.result c.write_value-written.result c.args.tally.now) c.writes-before.ensures ∙ ap (λ k. counted_after a.writes 1 k c.write_value-written.result c.args.tally.now) c.writes-now.ensures ∙ ap (λ r. counted_after a.writes 1 b.writes r c.args.tally.now) c.in-Ok.is in
    value_done a b c.args.at c.args.page c.args.value.now o c.args.tally.now c.write_value-written.ensures.alone (g.met.D.Disk.counted c.args.disk.now told) (g.met.D.Disk.counted c.write_value-written.new.disk told) bits
    (rw c.in-Ok.is at (c.write_value-written.ensures.guarded told)) counts

pub returns-in-Err-clause-writes : goal.returns-in-Err-clause-writes
returns-in-Err-clause-writes g c o bits told =
    let a = g.D.Tape.tape c.args.disk.now in
    let b = g.D.Tape.tape c.write_value-written.new.disk in
    let error = c.in-Err.error in
    let counts : c.count_operation.new.tally ≡ counted_after a.writes 1 b.writes (Err error) c.args.tally.now =
    c.count_operation.ensures ∙ ap (λ k. counted_after k 1 c.writes-now.result c.write_value-written.result c.args.tally.now) c.writes-before.ensures ∙ ap (λ k. counted_after a.writes 1 k c.write_value-written.result c.args.tally.now) c.writes-now.ensures ∙ ap (λ r. counted_after a.writes 1 b.writes r c.args.tally.now) c.in-Err.is in
    value_failed a b c.args.at c.args.page c.args.value.now o c.args.tally.now c.write_value-written.ensures.alone (g.met.D.Disk.counted c.args.disk.now told) (g.met.D.Disk.counted c.write_value-written.new.disk told) bits
    error (Held c.args.at) c.args.at _ c.error_at.result c.error_at.ensures (rw c.in-Err.is at (c.write_value-written.ensures.guarded told)) counts

pub returns-in-Ok-clause-places : goal.returns-in-Ok-clause-places
returns-in-Ok-clause-places g c told = value_keeps_places c.args.at c.args.value.now c.write_value-written.ensures.alone.grown (c.write_value-written.ensures.guarded told).some

pub returns-in-Err-clause-places : goal.returns-in-Err-clause-places
returns-in-Err-clause-places g c told = value_keeps_places c.args.at c.args.value.now c.write_value-written.ensures.alone.grown (c.write_value-written.ensures.guarded told).some

pub returns-in-Err-clause-held : goal.returns-in-Err-clause-held
returns-in-Err-clause-held g c = wrong_at (Unit {0}) (WasHeld c.args.at c.args.page) c.in-Err.error (Held c.args.at) c.args.at c.args.page c.error_at.result c.error_at.ensures (λ found. record { held = refl; address = refl; page_is = refl })

pub returns-in-Err-clause-found : goal.returns-in-Err-clause-found
returns-in-Err-clause-found g c told =
    let a = g.D.Tape.tape c.args.disk.now in
    let b = g.D.Tape.tape c.write_value-written.new.disk in
    let Wrong : Option (List ℕ) → Type 0 = FoundWrong (Carries c.args.at c.args.page) c.args.at a b in
    at_wrong (Unit {0}) (Unit {0}) (λ place w wanted found. Wrong found) Wrong c.in-Err.error c.error_at.ensures (rw c.in-Err.is at (c.write_value-written.ensures.guarded told)).wrong (λ found wrong. wrong)

pub returns-in-Ok-clause-guards : goal.returns-in-Ok-clause-guards
returns-in-Ok-clause-guards g c told = (c.write_value-written.ensures.guarded told).guarded

pub returns-in-Err-clause-guards : goal.returns-in-Err-clause-guards
returns-in-Err-clause-guards g c told = (c.write_value-written.ensures.guarded told).guarded

pub returns-in-Ok-clause-frame : goal.returns-in-Ok-clause-frame
returns-in-Ok-clause-frame g c told =
    let Here = IsPageOf c.args.page.fid (pack (g.D.Tape.tape c.args.disk.now)) in
    guarded_writes Here (c.write_value-written.ensures.guarded told) (λ carries. value_here Here c.args.at (record { number = c.args.page.number; carries = carries }) c.args.value.now)

pub returns-in-Err-clause-frame : goal.returns-in-Err-clause-frame
returns-in-Err-clause-frame g c told =
    let Here = IsPageOf c.args.page.fid (pack (g.D.Tape.tape c.args.disk.now)) in
    guarded_writes Here (c.write_value-written.ensures.guarded told) (λ carries. value_here Here c.args.at (record { number = c.args.page.number; carries = carries }) c.args.value.now)
