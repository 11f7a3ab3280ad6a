use Rattle.page_seeking.proofs.Recalling.{sought_forgotten}
use Rattle.page_seeking.proofs.ends.try_higher.Goals as goal

pub returns-in-None-clause-sought : goal.returns-in-None-clause-sought
returns-in-None-clause-sought g c = sought_forgotten c.in-Some.entry.page c.forget.ensures.out c.try_at.ensures.sought
