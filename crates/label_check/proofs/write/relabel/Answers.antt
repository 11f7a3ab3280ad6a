use Rattle.std.proofs.Common.{rules, refl, ap, subst}
use Rattle.disk_records.specs.declared.records.Sector.{Sector}
use Rattle.disk_records.specs.Commands.{relabel_writes}
use Rattle.disk_records.proofs.Growing.{alone_twice}
use Rattle.label_check.specs.Steps.{Finished}
use Rattle.label_check.proofs.Guarding.{guarded_then, guarded_less}
use Rattle.label_check.proofs.Matching.{matches_header}
use Rattle.label_check.proofs.write.relabel.Goals as goal

pub returns-in_err-look_for-clause-guarded : goal.returns-in_err-look_for-clause-guarded
returns-in_err-look_for-clause-guarded g c = λ told.
    guarded_less _ _ (search rules) (c.in_err-look_for.ensures.guarded told)

pub returns-clause-alone : goal.returns-clause-alone
returns-clause-alone g c = alone_twice c.in_ok-look_for.ensures.looks.alone c.finish.ensures.alone

pub returns-clause-guarded : goal.returns-clause-guarded
returns-clause-guarded g c = λ told.
    let looked = c.in_ok-look_for.ensures in
    let done = (looked.guarded told).ok in
    let found = c.look_for.new.buf in
    let finished = c.finish.ensures.finished told (matches_header c.args.at (record { header = found.header; label = c.args.label; value = found.value }) found looked.looks.alone done.wrote (looked.holds told) refl) in
    guarded_then looked.looks.alone c.finish.ensures.alone done
    (subst (λ value. Finished (relabel_writes c.args.at c.args.label value) (g.D.Tape.tape c.look_for.new.disk) (g.D.Tape.tape c.finish.new.disk) c.finish.result) (ap (λ (s : Sector). s.value) (looked.holds told)) finished)
