use Rattle.std.proofs.Common.{◌≡◌, ◌∙◌, sym, ap, subst, IsSome}
use Rattle.hint_cache.specs.Caches.{IsCacheList, address_in, noted, entries_of}
use Rattle.hint_cache.proofs.Listing.{cache_noted}
use Rattle.hint_cache.proofs.Keys.{put_first, found_at, seen_as}
use Rattle.hint_cache.proofs.cache.HintCache.note.Goals as goal

put : (c : goal.In-Ok) → entries_of c.put.new.self.entries ≡ noted c.args.page c.args.at (entries_of c.self.inside.pages.entries)
put c = ap (λ k. entries_of k.entries) c.in-Ok.ensures.entries ∙ put_first c.args.page c.args.at c.self.inside.pages c.self.invariant.1 c.self.invariant.0

kept : (c : goal.In-Ok) → IsCacheList (entries_of c.put.new.self.entries)
kept c = subst IsCacheList (sym (put c)) (cache_noted c.args.page c.args.at _ c.self.invariant.0)

pub invariant_of-self : goal.invariant_of-self
invariant_of-self c = (kept c, ap (λ k. k.cap) c.in-Ok.ensures.entries ∙ c.self.invariant.1)

pub returns-in-Ok-clause-ok : goal.returns-in-Ok-clause-ok
returns-in-Ok-clause-ok c = seen_as (noted c.args.page c.args.at) c.self.view_is (put c)

pub returns-in-Ok-clause-kept : goal.returns-in-Ok-clause-kept
returns-in-Ok-clause-kept c = kept c

pub returns-in-Err-clause-listed : goal.returns-in-Err-clause-listed
returns-in-Err-clause-listed c = λ listed.
    c.in-Err.ensures.succeeds (subst IsSome (ap (λ k. address_in k.entries c.args.page) (sym c.self.view_is) ∙ sym (found_at c.args.page c.self.inside.pages.entries)) listed)
