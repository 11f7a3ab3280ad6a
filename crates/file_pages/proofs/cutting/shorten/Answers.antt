use Rattle.std.proofs.Common.{Err, Ok, ap, arith, refl, ◌∙◌, ◌≡◌}
use Rattle.disk_records.specs.Packs.{sector_at}
use Rattle.disk_records.specs.Tapes.{pack}
use Rattle.disk_records.specs.declared.records.Place.TheVariants.{Held}
use Rattle.label_check.specs.Guarded.{Carries}
use Rattle.file_pages.specs.Counting.{counted_after}
use Rattle.file_pages.proofs.CommitFirst.{commits_done, commits_failed}
use Rattle.file_pages.specs.Calls.{WasHeld}
use Rattle.file_pages.proofs.Erring.{wrong_at}
use Rattle.label_check.proofs.Framing.{guarded_writes, relabel_here}
use Rattle.disk_records.specs.Frames.{IsPageOf}
use Rattle.file_pages.proofs.cutting.shorten.Goals as goal

pub returns-in-Ok-clause-commits : goal.returns-in-Ok-clause-commits
returns-in-Ok-clause-commits g c told carries =
    let a = g.D.Tape.tape c.args.disk.now in
    let b = g.D.Tape.tape c.relabel-written.new.disk in
    let counts : c.count_operation.new.tally ≡ counted_after a.writes 1 b.writes (Ok tt) c.args.tally.now =
    c.count_operation.ensures ∙ ap (λ k. counted_after k 1 c.writes-now.result c.relabel-written.result c.args.tally.now) c.writes-before.ensures ∙ ap (λ k. counted_after a.writes 1 k c.relabel-written.result c.args.tally.now) c.writes-now.ensures ∙ ap (λ r. counted_after a.writes 1 b.writes r c.args.tally.now) c.in-Ok.is in
    commits_done a b (Carries c.args.at c.args.page) c.args.at c.args.label (sector_at (pack a) c.args.at).value c.args.tally.now c.relabel-written.ensures.alone (g.met.D.Disk.counted c.args.disk.now told) (g.met.D.Disk.counted c.relabel-written.new.disk told)
    (rw c.in-Ok.is at (c.relabel-written.ensures.guarded told)) counts

pub returns-in-Err-clause-commits : goal.returns-in-Err-clause-commits
returns-in-Err-clause-commits g c told carries =
    let a = g.D.Tape.tape c.args.disk.now in
    let b = g.D.Tape.tape c.relabel-written.new.disk in
    let error = c.in-Err.error in
    let counts : c.count_operation.new.tally ≡ counted_after a.writes 1 b.writes (Err error) c.args.tally.now =
    c.count_operation.ensures ∙ ap (λ k. counted_after k 1 c.writes-now.result c.relabel-written.result c.args.tally.now) c.writes-before.ensures ∙ ap (λ k. counted_after a.writes 1 k c.relabel-written.result c.args.tally.now) c.writes-now.ensures ∙ ap (λ r. counted_after a.writes 1 b.writes r c.args.tally.now) c.in-Err.is in
    commits_failed a b (Carries c.args.at c.args.page) c.args.at c.args.label (sector_at (pack a) c.args.at).value c.args.tally.now c.relabel-written.ensures.alone (g.met.D.Disk.counted c.args.disk.now told) (g.met.D.Disk.counted c.relabel-written.new.disk told)
    error (Held c.args.at) c.args.at _ c.error_at.result c.error_at.ensures (rw c.in-Err.is at (c.relabel-written.ensures.guarded told)) counts

pub returns-in-Err-clause-held : goal.returns-in-Err-clause-held
returns-in-Err-clause-held g c = wrong_at (Unit {0}) (WasHeld c.args.at c.args.page) c.in-Err.error (Held c.args.at) c.args.at c.args.page c.error_at.result c.error_at.ensures (λ found. record { held = refl; address = refl; page_is = refl })

pub returns-in-Ok-clause-frame : goal.returns-in-Ok-clause-frame
returns-in-Ok-clause-frame g c told =
    let a = pack (g.D.Tape.tape c.args.disk.now) in
    let Here = IsPageOf c.args.page.fid a in
    guarded_writes Here (c.relabel-written.ensures.guarded told) (λ carries. relabel_here Here c.args.at (record { number = c.args.page.number; carries = carries }) c.args.label (sector_at a c.args.at).value)

pub returns-in-Err-clause-frame : goal.returns-in-Err-clause-frame
returns-in-Err-clause-frame g c told =
    let a = pack (g.D.Tape.tape c.args.disk.now) in
    let Here = IsPageOf c.args.page.fid a in
    guarded_writes Here (c.relabel-written.ensures.guarded told) (λ carries. relabel_here Here c.args.at (record { number = c.args.page.number; carries = carries }) c.args.label (sector_at a c.args.at).value)

pub returns-in-Ok-clause-runs : goal.returns-in-Ok-clause-runs
returns-in-Ok-clause-runs g c told = let r = (c.relabel-written.ensures.guarded told).runs in omega (arith, r)

pub returns-in-Err-clause-runs : goal.returns-in-Err-clause-runs
returns-in-Err-clause-runs g c told = let r = (c.relabel-written.ensures.guarded told).runs in omega (arith, r)
