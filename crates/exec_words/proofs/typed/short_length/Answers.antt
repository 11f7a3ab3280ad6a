use Rattle.std.proofs.Common.{◌≡◌, ◌≢◌, ℕ, zero, suc, ◌+◌, ◌-◌, ◌≤◌, true, ◌==◌, List, [], ◌∷◌, ◌++◌, length, get_or, arith, refl, ap, sym, ◌∙◌, length-append, length-take}
use Rattle.std.proofs.lemmas.Bool.{cond-true, cond-false, eq-eqb, ne_eqb}
use Rattle.alto_words.specs.Names.{is_stored_name, last_byte, but_last, version_of, version_text}
use Rattle.alto_words.proofs.Versions.{stored_parts}
use Rattle.exec_words.specs.Typed.{short_name}
use Rattle.exec_words.proofs.typed.short_length.Goals as goal

-- the bytes of a stored name
record AreStored (name bytes : List ℕ) : Type 0 where
  pub is : bytes ≡ name
  pub least : 2 ≤ length bytes
  pub most : length bytes ≤ 39

are_stored : (name bytes : List ℕ) → bytes ≡ name → is_stored_name name ≡ true → AreStored name bytes
are_stored name bytes is stored =
    let parts = stored_parts name stored in
    let v = version_text (version_of name) in
    record {
      is = is;
      least = omega (arith, ap length is, parts.some, ap length parts.is, length-append (parts.stem ++ v) (46 ∷ []), length-append parts.stem v);
      most = omega (arith, ap length is, parts.fits);
    }

last_is : (text : List ℕ) (k : ℕ) → length text ≡ k + 1 → last_byte text ≡ get_or text k 0
last_is [] k e = absurd (omega (arith, e))
last_is (a ∷ []) zero e = refl
last_is (a ∷ []) (suc k) e = absurd (omega (arith, e))
last_is (a ∷ b ∷ text) zero e = absurd (omega (arith, e))
last_is (a ∷ b ∷ text) (suc k) e = last_is (b ∷ text) k (omega (arith, e))

last_of_stem : (name bytes : List ℕ) → AreStored name bytes → last_byte (but_last name) ≡ get_or (but_last bytes) (length (but_last bytes) - 1) 0
last_of_stem name bytes are =
    ap (λ t. last_byte (but_last t)) (sym are.is) ∙ last_is (but_last bytes) (length (but_last bytes) - 1) (omega (arith, are.least, length-take (length bytes - 1) bytes))

dot_kept : (name bytes : List ℕ) → AreStored name bytes → get_or (but_last bytes) (length (but_last bytes) - 1) 0 ≡ 46 → length (but_last bytes) + 1 ≡ length (short_name name)
dot_kept name bytes are dot =
    let test = eq-eqb (last_byte (but_last name)) 46 (last_of_stem name bytes are ∙ dot) in
    omega (arith, ap length (cond-true (last_byte (but_last name) == 46) name (but_last name) test), ap length are.is, are.least, length-take (length bytes - 1) bytes)

dot_left : (name bytes : List ℕ) → AreStored name bytes → get_or (but_last bytes) (length (but_last bytes) - 1) 0 ≢ 46 → length (but_last bytes) ≡ length (short_name name)
dot_left name bytes are other =
    let test = ne_eqb (last_byte (but_last name)) 46 (λ e. other (sym (last_of_stem name bytes are) ∙ e)) in
    ap (λ t. length (but_last t)) are.is ∙ ap length (sym (cond-false (last_byte (but_last name) == 46) name (but_last name) test))

pub slice_bounds-stem-count : goal.slice_bounds-stem-count
slice_bounds-stem-count c = let are = are_stored c.args.name.now c.as_bytes-bytes.result.now c.as_bytes-bytes.ensures.value c.as_bytes-bytes.ensures.stored in omega (arith, are.least)

pub overflow_sub-stem : goal.overflow_sub-stem
overflow_sub-stem c =
    let bytes = c.as_bytes-bytes.result.now in
    let are = are_stored c.args.name.now bytes c.as_bytes-bytes.ensures.value c.as_bytes-bytes.ensures.stored in
    omega (arith, are.least, length-take (length bytes - 1) bytes)

pub bounds-stem-stem : goal.bounds-stem-stem
bounds-stem-stem c =
    let bytes = c.as_bytes-bytes.result.now in
    let are = are_stored c.args.name.now bytes c.as_bytes-bytes.ensures.value c.as_bytes-bytes.ensures.stored in
    omega (arith, are.least, length-take (length bytes - 1) bytes)

pub returns-then-stem-eq46-clause-is : goal.returns-then-stem-eq46-clause-is
returns-then-stem-eq46-clause-is c =
    let bytes = c.as_bytes-bytes.result.now in
    dot_kept c.args.name.now bytes (are_stored c.args.name.now bytes c.as_bytes-bytes.ensures.value c.as_bytes-bytes.ensures.stored) c.if-stem-eq46.true

pub returns-then-stem-eq46-clause-most : goal.returns-then-stem-eq46-clause-most
returns-then-stem-eq46-clause-most c =
    let bytes = c.as_bytes-bytes.result.now in
    let are = are_stored c.args.name.now bytes c.as_bytes-bytes.ensures.value c.as_bytes-bytes.ensures.stored in
    omega (arith, are.least, are.most, length-take (length bytes - 1) bytes)

pub returns-else-stem-eq46-clause-is : goal.returns-else-stem-eq46-clause-is
returns-else-stem-eq46-clause-is c =
    let bytes = c.as_bytes-bytes.result.now in
    dot_left c.args.name.now bytes (are_stored c.args.name.now bytes c.as_bytes-bytes.ensures.value c.as_bytes-bytes.ensures.stored) c.if-stem-eq46.false

pub returns-else-stem-eq46-clause-most : goal.returns-else-stem-eq46-clause-most
returns-else-stem-eq46-clause-most c =
    let bytes = c.as_bytes-bytes.result.now in
    let are = are_stored c.args.name.now bytes c.as_bytes-bytes.ensures.value c.as_bytes-bytes.ensures.stored in
    omega (arith, are.most, length-take (length bytes - 1) bytes)
