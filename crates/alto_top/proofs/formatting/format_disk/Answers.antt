use Rattle.disk_records.proofs.Growing.{alone_twice}
use Rattle.alto_top.proofs.formatting.format_disk.Goals as goal

pub returns-in_err-settle_disk-clause-alone : goal.returns-in_err-settle_disk-clause-alone
returns-in_err-settle_disk-clause-alone g c = alone_twice c.format.ensures.alone c.settle_disk.ensures.alone

pub returns-in_err-text_of-clause-alone : goal.returns-in_err-text_of-clause-alone
returns-in_err-text_of-clause-alone g c = alone_twice c.format.ensures.alone c.settle_disk.ensures.alone

pub returns-clause-alone : goal.returns-clause-alone
returns-clause-alone g c = alone_twice c.format.ensures.alone c.settle_disk.ensures.alone
