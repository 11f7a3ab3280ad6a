use Rattle.std.proofs.Common.{None}
use Rattle.scav_names.proofs.ReadingTo.{read_start}
use Rattle.scav_names.proofs.read.Reading.new.Goals as goal

pub returns-clause-start : goal.returns-clause-start
returns-clause-start c = λ p formed. read_start p _ c.new.ensures.fresh (c.new.ensures.start p None formed (λ r e. absurd cc)) c.new-2.ensures.start c.new-3.ensures.living c.new-3.ensures.entries c.new-3.ensures.rooms c.new-3.ensures.pages
