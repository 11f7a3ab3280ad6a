use Rattle.disk_records.proofs.Growing.{alone_twice}
use Rattle.disk_descriptor.proofs.writing.write_closing.Goals as goal

pub returns-in_err-write_page-clause-alone : goal.returns-in_err-write_page-clause-alone
returns-in_err-write_page-clause-alone g c = alone_twice c.in_ok-settle.ensures.alone c.in_err-write_page.ensures.alone

pub returns-clause-alone : goal.returns-clause-alone
returns-clause-alone g c = alone_twice (alone_twice c.in_ok-settle.ensures.alone c.in_ok-write_page.ensures.alone) c.settle-2.ensures.alone
