use Rattle.std.proofs.Common.{None, Some, ap, ◌∙◌, arith, refl}
use Rattle.disk_records.specs.Addresses.{pages_of}
use Rattle.disk_records.specs.Tapes.{pack}
use Rattle.disk_records.proofs.Growing.{alone_here}
use Rattle.scav_table.specs.Laws.{IsFirstAbove}
use Rattle.scav_pages.proofs.Causing.{cause_of_swept}
use Rattle.scav_pages.proofs.Passing.{next_is, row_placed}
use Rattle.scav_pages.proofs.rows.next_row.Goals as goal
use Rattle.scav_pages.proofs.rows.next_row.Goals.{then-row-lt1-via-then-row-lt1, then-row-lt1-via-else-row-lt1+then-row-pages}

pub returns-in_default-clause-next : goal.returns-in_default-clause-next
returns-in_default-clause-next g c = λ k. next_is (g.D.Tape.tape c.args.disk.now) c.args.pass.now.last None (g.met.D.Disk.sized c.args.disk.now k) (let e = c.in_ok-row.ensures.next k in cc)

pub returns-clause-next : goal.returns-clause-next
returns-clause-next g c = λ k. next_is (g.D.Tape.tape c.args.disk.now) c.args.pass.now.last (Some c.in-Some.row) (g.met.D.Disk.sized c.args.disk.now k) (let e = c.in_ok-row.ensures.next k in cc)

pub returns-then-row-lt1-clause-found : goal.returns-then-row-lt1-clause-found
returns-then-row-lt1-clause-found g c = λ k _.
    let first : IsFirstAbove (pack (g.D.Tape.tape c.args.disk.now)) c.args.pass.now.last c.in-Some.row = next_is (g.D.Tape.tape c.args.disk.now) c.args.pass.now.last (Some c.in-Some.row) (g.met.D.Disk.sized c.args.disk.now k) (let e = c.in_ok-row.ensures.next k in cc) in
    let placed = row_placed (pack (g.D.Tape.tape c.args.disk.now)) c.in-Some.row.at c.in-Some.row first.here in
    elim c.then-row-lt1.branch [
      | then-row-lt1-via-then-row-lt1 w ↦ omega (arith, placed.1, w.if-row-lt1.true)
      | then-row-lt1-via-else-row-lt1+then-row-pages w ↦ omega (arith, placed.2, w.if-row-pages.true, w.pages.ensures ∙ ap pages_of (w.shape.ensures ∙ c.in_ok-row.ensures.looks.alone.grown.form))
    ]

pub returns-in_err-row-clause-cause : goal.returns-in_err-row-clause-cause
returns-in_err-row-clause-cause g c = cause_of_swept c.in_err-row.field-0.0 c.from_residual.result (alone_here _) refl c.in_err-row.ensures.looks.alone c.in_err-row.ensures.cause c.from_residual.ensures.1
