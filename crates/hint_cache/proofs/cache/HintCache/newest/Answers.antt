use Rattle.std.proofs.Common.{sym, ◌∙◌, ap}
use Rattle.std.specs.Option.{option_map}
use Rattle.std.specs.Map.Iter.{deref_pair}
use Rattle.hint_cache.specs.Caches.{address_in, noted}
use Rattle.hint_cache.proofs.Keys.{front_listed, front_stays}
use Rattle.hint_cache.proofs.cache.HintCache.newest.Goals as goal

pub returns-in-Some-clause-listed : goal.returns-in-Some-clause-listed
returns-in-Some-clause-listed c =
    ap (λ k. address_in k.entries c.args.page) (sym c.self.view_is)
    ∙ front_listed c.args.page c.in-Some.newest.now c.in-Some.at.now (sym c.eq.ensures ∙ c.if-eq.true) c.self.inside.pages.entries (sym c.peek_mru.ensures ∙ ap (option_map deref_pair) c.in-Some.is)

pub returns-in-Some-clause-in_front : goal.returns-in-Some-clause-in_front
returns-in-Some-clause-in_front c =
    ap (λ k. noted c.args.page c.in-Some.at.now k.entries) (sym c.self.view_is)
    ∙ front_stays c.args.page c.in-Some.newest.now c.in-Some.at.now (sym c.eq.ensures ∙ c.if-eq.true) c.self.inside.pages.entries c.self.invariant.0 (sym c.peek_mru.ensures ∙ ap (option_map deref_pair) c.in-Some.is)
    ∙ ap (λ k. k.entries) c.self.view_is
