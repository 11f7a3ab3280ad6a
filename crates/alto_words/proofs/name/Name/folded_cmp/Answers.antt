use Rattle.std.proofs.Common.{◌≡◌, refl, rules, tests, ap, sym, ◌∙◌}
use Rattle.std.specs.Iterator.Adapters.{map_callee}
use Rattle.std.specs.Char.{to_ascii_lowercase}
use Rattle.std.specs.Ordering.{nat_cmp, ordering_then}
use Rattle.std.proofs.lemmas.Iterator.{YieldsList-from_slice, YieldsList-from_map}
use Rattle.std.proofs.lemmas.Iterator.Search.{cmp_from_yields_List}
use Rattle.alto_words.specs.Names.{base_of, version_of}
use Rattle.alto_words.proofs.Ordered.{folded_cmp-found, folded_cmp-apart}
use Rattle.alto_words.proofs.name.Name.folded_cmp.Goals as goal

pub returns-in-Equal : goal.returns-in-Equal
returns-in-Equal c =
    let bases = cmp_from_yields_List (λ x y. y ≡ x) _ nat_cmp _ c.cmp.ensures.ran
    (YieldsList-from_map _ to_ascii_lowercase (YieldsList-from_slice (base_of c.args.self.now) cc) c.map-own.ensures.closure (λ x r q k. search (rules, tests)))
    (λ it e. YieldsList-from_map _ to_ascii_lowercase (YieldsList-from_slice (base_of c.args.other.now) cc) (ap map_callee e ∙ c.map-others.ensures.closure) (λ x r q k. search (rules, tests)))
    (λ x y. refl) in
    let versions = c.cmp-in-Equal.ensures ∙ (λ i. nat_cmp (c.version.ensures.value i) (c.version-in-Equal.ensures.value i)) in
    versions ∙ ap (λ o. ordering_then o (nat_cmp (version_of c.args.self.now) (version_of c.args.other.now))) (sym c.in-Equal.is ∙ bases) ∙ folded_cmp-found c.args.self.now c.args.other.now c.version.ensures.stored c.version-in-Equal.ensures.stored

pub returns-in_default : goal.returns-in_default
returns-in_default c =
    let bases = cmp_from_yields_List (λ x y. y ≡ x) _ nat_cmp _ c.cmp.ensures.ran
    (YieldsList-from_map _ to_ascii_lowercase (YieldsList-from_slice (base_of c.args.self.now) cc) c.map-own.ensures.closure (λ x r q k. search (rules, tests)))
    (λ it e. YieldsList-from_map _ to_ascii_lowercase (YieldsList-from_slice (base_of c.args.other.now) cc) (ap map_callee e ∙ c.map-others.ensures.closure) (λ x r q k. search (rules, tests)))
    (λ x y. refl) in
    bases ∙ folded_cmp-apart c.args.self.now c.args.other.now (λ e. c.in_default.not-Equal (bases ∙ e))
