use Rattle.std.proofs.Common.{rules, refl}
use Rattle.disk_records.proofs.Growing.{alone_twice}
use Rattle.label_check.proofs.Guarding.{guarded_then, guarded_less}
use Rattle.label_check.proofs.Matching.{matches}
use Rattle.label_check.proofs.write.write_value.Goals as goal

pub returns-in_err-look_for-clause-guarded : goal.returns-in_err-look_for-clause-guarded
returns-in_err-look_for-clause-guarded g c = λ told.
    guarded_less _ _ (search rules) (c.in_err-look_for.ensures.guarded told)

pub returns-clause-alone : goal.returns-clause-alone
returns-clause-alone g c = alone_twice c.in_ok-look_for.ensures.looks.alone c.finish.ensures.alone

pub returns-clause-guarded : goal.returns-clause-guarded
returns-clause-guarded g c = λ told.
    let looked = c.in_ok-look_for.ensures in
    let done = (looked.guarded told).ok in
    guarded_then looked.looks.alone c.finish.ensures.alone done
    (c.finish.ensures.finished told (matches c.args.at (record { header = c.look_for.new.buf.header; label = c.look_for.new.buf.label; value = c.args.value.now }) c.look_for.new.buf looked.looks.alone done.wrote (looked.holds told) refl refl))
