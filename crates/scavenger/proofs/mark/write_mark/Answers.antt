use Rattle.disk_records.proofs.Growing.{alone_twice}
use Rattle.scavenger.proofs.mark.write_mark.Goals as goal

pub returns-in-Ok-clause-alone : goal.returns-in-Ok-clause-alone
returns-in-Ok-clause-alone g c = alone_twice c.in_ok-write_value.ensures.alone c.in-Ok.ensures.alone

pub returns-in-Err-clause-alone : goal.returns-in-Err-clause-alone
returns-in-Err-clause-alone g c = alone_twice c.in_ok-write_value.ensures.alone c.in-Err.ensures.alone
