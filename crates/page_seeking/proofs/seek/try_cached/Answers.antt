use Rattle.std.proofs.Common.{sym}
use Rattle.page_seeking.proofs.Recalling.{sought_recalled, sought_forgotten}
use Rattle.page_seeking.proofs.seek.try_cached.Goals as goal

pub returns-in_err-found-clause-sought : goal.returns-in_err-found-clause-sought
returns-in_err-found-clause-sought g c = sought_recalled c.args.page c.in-Some.at (sym c.in-Some.ensures.answer) c.in-Some.ensures.some c.try_at.ensures.sought

pub returns-in-Some-2-clause-sought : goal.returns-in-Some-2-clause-sought
returns-in-Some-2-clause-sought g c = sought_recalled c.args.page c.in-Some.at (sym c.in-Some.ensures.answer) c.in-Some.ensures.some c.try_at.ensures.sought

pub returns-in-None-clause-sought : goal.returns-in-None-clause-sought
returns-in-None-clause-sought g c = sought_forgotten c.args.page c.forget.ensures.out (sought_recalled c.args.page c.in-Some.at (sym c.in-Some.ensures.answer) c.in-Some.ensures.some c.try_at.ensures.sought)
