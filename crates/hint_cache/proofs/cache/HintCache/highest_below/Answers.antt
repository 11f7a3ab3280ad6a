use Rattle.std.proofs.Common.{IfSome, IfNone, subst}
use Rattle.hint_cache.specs.Caches.{Cached, IsHighestBelow, NoneListed}
use Rattle.hint_cache.proofs.Tops.{highest_some, highest_none}
use Rattle.hint_cache.proofs.cache.HintCache.highest_below.Goals as goal

pub returns-clause-some : goal.returns-clause-some
returns-clause-some c = subst (λ (k : Cached). IfSome c.highest_of.result (IsHighestBelow k.entries c.args.fid c.args.number)) c.self.view_is (highest_some c.args.fid c.args.number _ c.self.invariant.0 _ c.highest_of.ensures)

pub returns-clause-none : goal.returns-clause-none
returns-clause-none c = subst (λ (k : Cached). IfNone c.highest_of.result (NoneListed k.entries c.args.fid 0 c.args.number)) c.self.view_is (highest_none c.args.fid c.args.number _ c.self.invariant.0 _ c.highest_of.ensures)
