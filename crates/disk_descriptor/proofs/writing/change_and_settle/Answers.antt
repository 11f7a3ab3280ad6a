use Rattle.disk_records.proofs.Growing.{alone_twice}
use Rattle.disk_descriptor.proofs.writing.change_and_settle.Goals as goal

pub returns-clause-alone : goal.returns-clause-alone
returns-clause-alone g c = alone_twice c.in_ok-change_words.ensures.alone c.settle.ensures.alone
