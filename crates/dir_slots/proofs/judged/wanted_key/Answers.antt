use Rattle.std.proofs.Common.{◌≡◌, ◌+◌, ◌*◌, ◌%◌, ℕ, List, length, Option, Some, sym, ap, subst, ◌∙◌, arith}
use Rattle.alto_words.proofs.Versions.{is_stored_name-fits}
use Rattle.dir_slots.specs.Inside.{TellsOthers}
use Rattle.dir_slots.specs.Judged.{TellsByKey}
use Rattle.dir_slots.proofs.Keyed.{tells_key}
use Rattle.dir_slots.proofs.judged.wanted_key.Goals as goal

pub overflow_cast-result : goal.overflow_cast-result
overflow_cast-result c = let long = is_stored_name-fits _ c.as_bytes.ensures.stored in let same = ap length c.as_bytes.ensures.value in omega (arith, long, same)

pub overflow_mul-result : goal.overflow_mul-result
overflow_mul-result c = let long = is_stored_name-fits _ c.as_bytes.ensures.stored in let same = ap length c.as_bytes.ensures.value in omega (arith, long, same)

pub overflow_add-result : goal.overflow_add-result
overflow_add-result c = let long = is_stored_name-fits _ c.as_bytes.ensures.stored in let same = ap length c.as_bytes.ensures.value in omega (arith, long, same)

pub overflow_add-result-in-Some : goal.overflow_add-result-in-Some
overflow_add-result-in-Some c = let long = is_stored_name-fits _ c.as_bytes.ensures.stored in let same = ap length c.as_bytes.ensures.value in omega (arith, long, same)

pub returns-in-Some : goal.returns-in-Some
returns-in-Some c =
    let bytes : List ℕ = c.as_bytes.result.now in
    let e = c.args.ending.now in
    let key : ℕ = length bytes * 1024 + (e.last + e.high) % 32 * 32 + e.low in
    let named : Some bytes ≡ c.args.name.now = ap (λ (name : List ℕ). Some name) c.as_bytes.ensures.value ∙ sym c.in-Some.is in
    subst (λ (o : Option (List ℕ)). TellsByKey o key) named (tells_key bytes e.last e.high e.low (subst (λ (o : Option (List ℕ)). TellsOthers o e.last e.high e.low) (sym named) c.requires))
