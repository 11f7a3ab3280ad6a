use Rattle.std.proofs.Common.{◌≡◌, ◌∙◌, sym, ap, subst}
use Rattle.hint_cache.specs.Caches.{IsCacheList, without, entries_of}
use Rattle.hint_cache.proofs.Listing.{cache_without}
use Rattle.hint_cache.proofs.Keys.{left_out, seen_as}
use Rattle.hint_cache.proofs.cache.HintCache.forget.Goals as goal

left : (c : goal.After-pop) → entries_of c.pop.new.self.entries ≡ without c.args.page (entries_of c.self.inside.pages.entries)
left c = ap (λ k. entries_of k.entries) c.pop.ensures.entries ∙ left_out c.args.page c.self.inside.pages.entries c.self.invariant.0

pub returns-clause-out : goal.returns-clause-out
returns-clause-out c = seen_as (without c.args.page) c.self.view_is (left c)

pub returns-clause-kept : goal.returns-clause-kept
returns-clause-kept c = subst IsCacheList (sym (left c)) (cache_without c.args.page _ c.self.invariant.0)

pub invariant_of-self : goal.invariant_of-self
invariant_of-self c = (subst IsCacheList (sym (left c)) (cache_without c.args.page _ c.self.invariant.0), ap (λ k. k.cap) c.pop.ensures.entries ∙ c.self.invariant.1)
