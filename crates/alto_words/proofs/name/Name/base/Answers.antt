use Rattle.std.proofs.Common.{◌≡◌, ◌++◌, ◌∷◌, [], length, take, List, ℕ, ap, sym, ◌∙◌, arith, length-take}
use Rattle.alto_words.specs.Names.{is_bare_name, is_stored_name, base_of, after_mark}
use Rattle.alto_words.proofs.Marked.{is_bare_name-base, is_bare_name-unmarked, base_marked, is_stored_name-base}
use Rattle.alto_words.proofs.Versions.{is_stored_name-fits}
use Rattle.alto_words.proofs.name.Name.base.Goals as goal

pub push-requires : goal.push-requires
push-requires c =
    omega (arith, ap length c.new-text.ensures, length-take c.in-Some.at c.as_bytes-in-Some.result.now, is_stored_name-fits c.args.self.now c.as_bytes-in-Some.ensures.stored, ap length c.as_bytes-in-Some.ensures.value)

pub push-requires-in-Some : goal.push-requires-in-Some
push-requires-in-Some c =
    omega (arith, ap length (c.push.ensures ∙ ap (λ (t : List ℕ). t ++ take c.in-Some.at c.as_bytes-in-Some.result.now) c.new-text.ensures), length-take c.in-Some.at c.as_bytes-in-Some.result.now, is_stored_name-fits c.args.self.now c.as_bytes-in-Some.ensures.stored, ap length c.as_bytes-in-Some.ensures.value, ap length c.as_bytes.ensures.value, c.in-Some.ensures.some.within)

-- the bytes up to the mark, and a `.`
made : (c : goal.After-push-in-Some) → c.push-in-Some.new.self ≡ base_of c.args.self.now
made c =
    let same = c.as_bytes.ensures.value in
    c.push-in-Some.ensures
    ∙ ap (λ (t : List ℕ). t ++ 46 ∷ []) (c.push.ensures ∙ (λ i. c.new-text.ensures i ++ take c.in-Some.at (c.as_bytes-in-Some.ensures.value i)) ∙ ap (take c.in-Some.at) (sym same))
    ∙ sym (base_marked c.as_bytes.result.now c.in-Some.at c.in-Some.ensures.some) ∙ ap base_of same

pub invariant_of-result : goal.invariant_of-result
invariant_of-result c = ap is_stored_name (made c) ∙ is_stored_name-base c.args.self.now c.as_bytes.ensures.stored

pub returns-in-Some-clause-value : goal.returns-in-Some-clause-value
returns-in-Some-clause-value c = made c

pub returns-in-Some-clause-bare : goal.returns-in-Some-clause-bare
returns-in-Some-clause-bare c = ap is_bare_name (made c) ∙ is_bare_name-base c.args.self.now c.as_bytes.ensures.stored

pub returns-in-None-clause-bare : goal.returns-in-None-clause-bare
returns-in-None-clause-bare c = is_bare_name-unmarked c.args.self.now c.as_bytes.ensures.stored (ap after_mark (sym c.as_bytes.ensures.value) ∙ c.in-None.ensures.none)
