use Rattle.std.proofs.Common.{◌≡◌, ◌∷◌, ◌-◌, ◌*◌, ◌/◌, ◌%◌, ◌≤◌, ℕ, List, length, Option, Some, sym, ap, subst, ◌∙◌, arith}
use Rattle.alto_words.proofs.Versions.{is_stored_name-fits}
use Rattle.disk_records.specs.Words.{word}
use Rattle.dir_slots.specs.Inside.{TellsOthers}
use Rattle.dir_slots.proofs.Names.{stored_least}
use Rattle.dir_slots.proofs.Endings.{tells_none, tells_others}
use Rattle.dir_slots.proofs.others.ending_of.Goals as goal

pub counted_byte-requires-clause-fits : goal.counted_byte-requires-clause-fits
counted_byte-requires-clause-fits c = let long = is_stored_name-fits _ c.as_bytes-bytes.ensures.stored in let same = ap length c.as_bytes-bytes.ensures.value in omega (arith, long, same)

pub overflow_sub-last : goal.overflow_sub-last
overflow_sub-last c = let least = stored_least _ c.as_bytes-bytes.ensures.stored in let same = ap length c.as_bytes-bytes.ensures.value in omega (arith, least, same)

pub counted_byte-requires-in-Some-clause-fits : goal.counted_byte-requires-in-Some-clause-fits
counted_byte-requires-in-Some-clause-fits c = let long = is_stored_name-fits _ c.as_bytes-bytes.ensures.stored in let same = ap length c.as_bytes-bytes.ensures.value in omega (arith, long, same)

pub overflow_sub-last-in-Some : goal.overflow_sub-last-in-Some
overflow_sub-last-in-Some c = let least = stored_least _ c.as_bytes-bytes.ensures.stored in let same = ap length c.as_bytes-bytes.ensures.value in omega (arith, least, same)

pub counted_byte-requires-in-Some-2-clause-fits : goal.counted_byte-requires-in-Some-2-clause-fits
counted_byte-requires-in-Some-2-clause-fits c = let long = is_stored_name-fits _ c.as_bytes-bytes.ensures.stored in let same = ap length c.as_bytes-bytes.ensures.value in omega (arith, long, same)

pub returns-in-Some : goal.returns-in-Some
returns-in-Some c =
    let bytes : List ℕ = c.as_bytes-bytes.result.now in
    let n : ℕ = length bytes / 2 * 2 in
    let least : 2 ≤ length bytes = let some = stored_least _ c.as_bytes-bytes.ensures.stored in let same = ap length c.as_bytes-bytes.ensures.value in omega (arith, some, same) in
    let last : word (length bytes ∷ bytes) n % 32 ≡ c.counted_byte.result % 32 = ap (λ (b : ℕ). b % 32) (sym c.counted_byte.ensures) in
    let high : word (length bytes ∷ bytes) (n - 2) % 32 ≡ c.counted_byte-in-Some.result % 32 = ap (λ (b : ℕ). b % 32) (sym c.counted_byte-in-Some.ensures) in
    let low : word (length bytes ∷ bytes) (n - 1) % 32 ≡ c.counted_byte-in-Some-2.result % 32 = ap (λ (b : ℕ). b % 32) (sym c.counted_byte-in-Some-2.ensures) in
    let named : Some bytes ≡ c.args.name.now = ap (λ (name : List ℕ). Some name) c.as_bytes-bytes.ensures.value ∙ sym c.in-Some.is in
    subst (λ (o : Option (List ℕ)). TellsOthers o (c.counted_byte.result % 32) (c.counted_byte-in-Some.result % 32) (c.counted_byte-in-Some-2.result % 32)) named
    (subst (λ (k : ℕ). TellsOthers (Some bytes) k (c.counted_byte-in-Some.result % 32) (c.counted_byte-in-Some-2.result % 32)) last
    (subst (λ (k : ℕ). TellsOthers (Some bytes) (word (length bytes ∷ bytes) n % 32) k (c.counted_byte-in-Some-2.result % 32)) high
    (subst (λ (k : ℕ). TellsOthers (Some bytes) (word (length bytes ∷ bytes) n % 32) (word (length bytes ∷ bytes) (n - 2) % 32) k) low (tells_others bytes least))))

pub returns-in-None : goal.returns-in-None
returns-in-None c = subst (λ (o : Option (List ℕ)). TellsOthers o 255 0 0) (sym c.in-None.is) (tells_none 255 0 0)
