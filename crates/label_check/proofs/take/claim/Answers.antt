use Rattle.std.proofs.Common.{rules, ap}
use Rattle.disk_records.specs.declared.records.Sector.{Sector}
use Rattle.disk_records.proofs.Growing.{alone_twice}
use Rattle.label_check.proofs.Freeing.{claimed}
use Rattle.label_check.proofs.Guarding.{guarded_less}
use Rattle.label_check.proofs.take.claim.Goals as goal

pub returns-in_err-fill-clause-guarded : goal.returns-in_err-fill-clause-guarded
returns-in_err-fill-clause-guarded g c = λ told.
    let value = ap (λ (s : Sector). s.value) c.free_sector-buf.ensures in
    rw (← value) (guarded_less _ _ (search rules) (c.in_err-fill.ensures.guarded told))

pub returns-clause-alone : goal.returns-clause-alone
returns-clause-alone g c = alone_twice c.in_ok-fill.ensures.alone c.finish.ensures.alone

pub returns-clause-guarded : goal.returns-clause-guarded
returns-clause-guarded g c = λ told.
    let value = ap (λ (s : Sector). s.value) c.free_sector-buf.ensures in
    let filled = c.in_ok-fill.ensures in
    rw (← value) (claimed c.args.at c.args.label c.free_sector-buf.result c.fill.new.buf filled.alone c.finish.ensures.alone (filled.header told) (filled.value told) (filled.guarded told).ok (c.finish.ensures.finished told))
