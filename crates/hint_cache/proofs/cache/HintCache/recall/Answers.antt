use Rattle.std.proofs.Common.{◌≡◌, ◌∙◌, ap, refl}
use Rattle.std.specs.Map.{lookup}
use Rattle.hint_cache.specs.Caches.{address_in}
use Rattle.hint_cache.proofs.Keys.{found_at, recalled_kept, recalled_some, recalled_none}
use Rattle.hint_cache.proofs.Pages.{by_fields}
use Rattle.hint_cache.proofs.cache.HintCache.recall.Goals as goal
use Rattle.lru.specs.LruCache.{promoted}

answer : (c : goal.After-self-2-1) → c.copied.result ≡ lookup (by_fields c.args.page) c.self.inside.pages.entries
answer c = c.copied.ensures ∙ c.get.ensures.value

first : (c : goal.After-self-2-1) → c.get.follows.lender-at-none.entries ≡ promoted (by_fields c.args.page) c.self.inside.pages.entries
first c = ap (λ k. k.entries) c.get.follows.holds-at-none

pub invariant_of-self : goal.invariant_of-self
invariant_of-self c = (recalled_kept c.args.page _ c.self.invariant.0 (first c), ap (λ k. k.cap) c.get.follows.holds-at-none ∙ c.self.invariant.1)

pub returns-clause-answer : goal.returns-clause-answer
returns-clause-answer c = answer c ∙ found_at c.args.page _ ∙ ap (λ k. address_in k.entries c.args.page) c.self.view_is

pub returns-clause-some : goal.returns-clause-some
returns-clause-some c = recalled_some c.args.page _ c.self.invariant.0 (first c) c.self.view_is refl _ (answer c)

pub returns-clause-none : goal.returns-clause-none
returns-clause-none c = recalled_none c.args.page _ c.self.invariant.0 (first c) c.self.view_is refl _ (answer c)

pub returns-clause-kept : goal.returns-clause-kept
returns-clause-kept c = recalled_kept c.args.page _ c.self.invariant.0 (first c)
