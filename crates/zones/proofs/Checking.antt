-- The tests of the words of a memory, one after another.
use Rattle.std.proofs.Common.{◌≡◌, ◌≤◌, ◌<◌, ℕ, ◌+◌, ◌-◌, zero, suc, Bool, true, false, cond, List, [], ◌∷◌, None, Option, Some, refl, sym, ap, ◌∙◌, length, take, drop, get_or, drop-cons, arith, Ok, Err, length-drop}
use Rattle.std.specs.Option.{option_or}
use Rattle.std.proofs.lemmas.Bool.{eq-eqb, ne_eqb}
use Rattle.std.proofs.Math.Seq.{take-length}
use Rattle.laws_zone.specs.world_model.specs.ZoneWords.{first_broken, first_set, first_wrong, is_gap_tag, is_wrong_tag, memory_length, tag_size, wrong_in_gap, zone_part, zone_start}
use Rattle.zones.specs.Check.{checked}
use Rattle.laws_zone.proofs.Sizes.{part_length}

-- ---- words that have to be 0
-- a word that is 0 is passed
pub zero_passed : (from i : ℕ) (words : List ℕ) → i < length words → get_or words i 0 ≡ 0 → first_set (from + i) (drop i words) ≡ first_set (from + (i + 1)) (drop (i + 1) words)
zero_passed from i words within is =
    let up : suc (from + i) ≡ from + (i + 1) = omega arith in
    let next : suc i ≡ i + 1 = omega arith in
    ap (first_set (from + i)) (drop-cons words i 0 within)
    ∙ ap (λ b. cond b (first_set (suc (from + i)) (drop (suc i) words)) (Some (from + i))) (eq-eqb (get_or words i 0) 0 is)
    ∙ (λ j. first_set (up j) (drop (next j) words))

-- one that isn't is the first
pub set_found : (from i : ℕ) (words : List ℕ) → i < length words → (get_or words i 0 ≡ 0 → ⊥) → first_set (from + i) (drop i words) ≡ Some (from + i)
set_found from i words within is =
    ap (first_set (from + i)) (drop-cons words i 0 within)
    ∙ ap (λ b. cond b (first_set (suc (from + i)) (drop (suc i) words)) (Some (from + i))) (ne_eqb (get_or words i 0) 0 is)

-- ---- blocks
-- so many steps are enough
pub fuel_any : (one two at : ℕ) (ag : Bool) (words : List ℕ) → length words ≤ one → length words ≤ two → first_wrong one at ag words ≡ first_wrong two at ag words
fuel_any zero zero at ag words a b = refl
fuel_any zero (suc two) at ag [] a b = refl
fuel_any (suc one) zero at ag [] a b = refl
fuel_any (suc one) (suc two) at ag [] a b = refl
fuel_any zero (suc two) at ag (tag ∷ words) a b = absurd (omega (arith, a))
fuel_any (suc one) zero at ag (tag ∷ words) a b = absurd (omega (arith, b))
fuel_any (suc one) (suc two) at ag (tag ∷ words) a b =
    let rest = length-drop (tag_size tag - 1) words in
    ap (λ r. cond (is_wrong_tag ag tag words) (Some at) (option_or (wrong_in_gap at tag words) r))
    (fuel_any one two (at + tag_size tag) (is_gap_tag tag) (drop (tag_size tag - 1) words) (omega (arith, rest, a)) (omega (arith, rest, b)))

-- ---- the words after a block
pub tail_is : (k : ℕ) (words : List ℕ) → take (length words - k) (drop k words) ≡ drop k words
tail_is k words = ap (λ n. take n (drop k words)) (sym (length-drop k words)) ∙ take-length (drop k words)

-- a block in which nothing is wrong is passed
pub block_passed : (fuel at : ℕ) (ag : Bool) (tag : ℕ) (words : List ℕ) → cond (is_wrong_tag ag tag words) (Some at) (wrong_in_gap at tag words) ≡ None
    → first_wrong (suc fuel) at ag (tag ∷ words) ≡ first_wrong fuel (at + tag_size tag) (is_gap_tag tag) (drop (tag_size tag - 1) words)
block_passed fuel at ag tag words none = by (is_wrong_tag ag tag words) (wrong_in_gap at tag words) none
  where
    by : (b : Bool) (o : Option ℕ) → cond b (Some at) o ≡ None → cond b (Some at) (option_or o (first_wrong fuel (at + tag_size tag) (is_gap_tag tag) (drop (tag_size tag - 1) words))) ≡ first_wrong fuel (at + tag_size tag) (is_gap_tag tag) (drop (tag_size tag - 1) words)
    by true o e = absurd cc
    by false None e = refl
    by false (Some n) e = absurd cc

-- one in which a word is wrong is where the zone is
pub block_broken : (fuel at n : ℕ) (ag : Bool) (tag : ℕ) (words : List ℕ) → cond (is_wrong_tag ag tag words) (Some at) (wrong_in_gap at tag words) ≡ Some n → first_wrong (suc fuel) at ag (tag ∷ words) ≡ Some n
block_broken fuel at n ag tag words is = by (is_wrong_tag ag tag words) (wrong_in_gap at tag words) is
  where
    by : (b : Bool) (o : Option ℕ) → cond b (Some at) o ≡ Some n → cond b (Some at) (option_or o (first_wrong fuel (at + tag_size tag) (is_gap_tag tag) (drop (tag_size tag - 1) words))) ≡ Some n
    by true o e = e
    by false None e = absurd cc
    by false (Some k) e = e

pub ok_is_none : (o : Option ℕ) (x : Unit {0}) → checked o ≡ Ok x → o ≡ None
ok_is_none None x e = refl
ok_is_none (Some n) x e = absurd cc

pub err_is_some : (o : Option ℕ) (n : ℕ) → checked o ≡ Err n → o ≡ Some n
err_is_some None n e = absurd cc
err_is_some (Some k) n e = cc

-- the first of the zone, or of the words after it
pub zone_broken : (one two : Option ℕ) (n : ℕ) → one ≡ Some n → option_or one two ≡ Some n
zone_broken one two n e = ap (λ o. option_or o two) e

pub zone_unbroken : (one two : Option ℕ) → one ≡ None → option_or one two ≡ two
zone_unbroken one two e = ap (λ o. option_or o two) e

-- a row of steps as long as the memory is enough
pub enough_steps : (top : ℕ) (memory : List ℕ) → zone_start ≤ top → top ≤ length memory → length memory ≡ memory_length
    → first_wrong (length (zone_part top memory)) zone_start false (zone_part top memory) ≡ first_wrong (length memory) zone_start false (zone_part top memory)
enough_steps top memory low high long =
    let part = part_length top zone_start memory_length memory long low (omega (arith, high, long)) in
    fuel_any (length (zone_part top memory)) (length memory) zone_start false (zone_part top memory) (omega arith) (omega (arith, part, high))

-- the words after a block are where the walk goes on
pub blocks_step : (at size : ℕ) (ag g : Bool) (rest : List ℕ) (tag : ℕ) (words : List ℕ) → rest ≡ tag ∷ words → size ≡ tag_size tag → g ≡ is_gap_tag tag → cond (is_wrong_tag ag tag words) (Some at) (wrong_in_gap at tag words) ≡ None
    → first_wrong (length rest) at ag rest ≡ first_wrong (length (take (length words - (size - 1)) (drop (size - 1) words))) (at + size) g (take (length words - (size - 1)) (drop (size - 1) words))
blocks_step at size ag g rest tag words is e k none =
    let later : List ℕ = drop (tag_size tag - 1) words in
    let less = length-drop (tag_size tag - 1) words in
    let same : later ≡ take (length words - (size - 1)) (drop (size - 1) words) = ap (λ n. drop (n - 1) words) (sym e) ∙ sym (tail_is (size - 1) words) in
    ap (λ (l : List ℕ). first_wrong (length l) at ag l) is
    ∙ block_passed (length words) at ag tag words none
    ∙ fuel_any (length words) (length later) (at + tag_size tag) (is_gap_tag tag) later (omega (arith, less)) (omega arith)
    ∙ (λ i. first_wrong (length (same i)) (at + sym e i) (sym k i) (same i))

pub blocks_place : (at size : ℕ) (rest : List ℕ) (tag : ℕ) (words : List ℕ) → rest ≡ tag ∷ words → size ≡ tag_size tag → 1 ≤ tag_size tag → tag_size tag ≤ suc (length words)
    → at + size + length (take (length words - (size - 1)) (drop (size - 1) words)) ≡ at + length rest
blocks_place at size rest tag words is e some fits =
    let tail = ap length (tail_is (size - 1) words) ∙ length-drop (size - 1) words in
    let long : length rest ≡ suc (length words) = ap length is in
    omega (arith, tail, long, e, some, fits)

-- the zone of the memory, between two places that are its start and its end
zone_is_wrong : (top k : ℕ) (memory : List ℕ) → zone_start ≤ top → top ≤ length memory → length memory ≡ memory_length → k ≡ zone_start
    → first_wrong (length (take (top - k) (drop k memory))) zone_start false (take (top - k) (drop k memory)) ≡ first_wrong (length memory) zone_start false (zone_part top memory)
zone_is_wrong top k memory low high long e =
    (λ i. first_wrong (length (take (top - e i) (drop (e i) memory))) zone_start false (take (top - e i) (drop (e i) memory))) ∙ enough_steps top memory low high long

pub broken_zone : (top end k n : ℕ) (memory : List ℕ) → zone_start ≤ end → end ≤ length memory → length memory ≡ memory_length → end ≡ top → k ≡ zone_start
    → checked (first_wrong (length (take (end - k) (drop k memory))) zone_start false (take (end - k) (drop k memory))) ≡ Err n → Err n ≡ checked (first_broken top memory)
broken_zone top end k n memory low high long e f is =
    let wrong = first_wrong (length (take (end - k) (drop k memory))) zone_start false (take (end - k) (drop k memory)) in
    let some = err_is_some wrong n is in
    ap checked (sym (zone_broken (first_wrong (length memory) zone_start false (zone_part end memory)) (first_set end (drop end memory)) n (sym (zone_is_wrong end k memory low high long f) ∙ some)))
    ∙ ap (λ t. checked (first_broken t memory)) e

pub broken_rest : (top end k : ℕ) (memory : List ℕ) (x : Unit {0}) → zone_start ≤ end → end ≤ length memory → length memory ≡ memory_length → end ≡ top → k ≡ zone_start
    → checked (first_wrong (length (take (end - k) (drop k memory))) zone_start false (take (end - k) (drop k memory))) ≡ Ok x → checked (first_set end (take (length memory - end) (drop end memory))) ≡ checked (first_broken top memory)
broken_rest top end k memory x low high long e f is =
    let wrong = first_wrong (length (take (end - k) (drop k memory))) zone_start false (take (end - k) (drop k memory)) in
    let none = ok_is_none wrong x is in
    ap (λ (l : List ℕ). checked (first_set end l)) (tail_is end memory)
    ∙ ap checked (sym (zone_unbroken (first_wrong (length memory) zone_start false (zone_part end memory)) (first_set end (drop end memory)) (sym (zone_is_wrong end k memory low high long f) ∙ none)))
    ∙ ap (λ t. checked (first_broken t memory)) e
