-- When bytes are a name after its length.
use Rattle.std.proofs.Common.{◌≡◌, ℕ, ◌<◌, ◌≤◌, Bool, true, false, cond, List, [], ◌∷◌, ◌++◌, length, take, drop, Some, None, refl, sym, ap, ◌∙◌, arith}
use Rattle.std.specs.Prelude.{◌==◌, ◌&&◌}
use Rattle.std.specs.List.{list_all, IsSplitAt}
use Rattle.std.proofs.lemmas.Bool.{eq-eqb, ne_eqb}
use Rattle.std.proofs.lemmas.List.{length-append, length-take}
use Rattle.alto_words.specs.Names.{is_stored_name, stored_in, version_of, version_text}
use Rattle.alto_words.proofs.Versions.{stored_parts}
use Rattle.dir_slots.specs.Inside.{name_of}

-- a stored name has a character before its final `.`
pub stored_least : (name : List ℕ) → is_stored_name name ≡ true → 2 ≤ length name
stored_least name stored =
    let parts = stored_parts name stored in
    let some = parts.some in
    let both = length-append parts.stem (version_text (version_of name)) in
    let whole = length-append (parts.stem ++ version_text (version_of name)) (46 ∷ []) in
    omega (arith, ap length parts.is)

-- ---- after its length
pub name_of-nil : (bytes : List ℕ) → length bytes ≡ 0 → name_of bytes ≡ None
unfolding name_of is_stored_name
name_of-nil [] none = refl
name_of-nil (b ∷ bytes) none = absurd (omega arith)

in_turn : {X : Type 0} (a s p : Bool) (x : X) → a ≡ true → cond (a && s && p) (Some x) None ≡ cond p (cond s (Some x) None) None
in_turn false s p x e = absurd (cc)
in_turn true false false x e = refl
in_turn true false true x e = refl
in_turn true true false x e = refl
in_turn true true true x e = refl

not_first : {X : Type 0} (a s p : Bool) (x : X) → a ≡ false → cond (a && s && p) (Some x) None ≡ None
not_first true s p x e = absurd (cc)
not_first false s p x e = refl

name_of-cons : (n : ℕ) (rest : List ℕ) → length (take n rest) ≡ n → name_of (n ∷ rest) ≡ cond (list_all (λ b. b == 0) (drop n rest)) (stored_in (take n rest)) None
unfolding name_of
name_of-cons n rest e = in_turn (length (take n rest) == n) (is_stored_name (take n rest)) (list_all (λ b. b == 0) (drop n rest)) (take n rest) (eq-eqb _ _ e)

-- so many characters, and what follows them
pub name_of-parts : (bytes rest text pad : List ℕ) (n : ℕ) → bytes ≡ n ∷ rest → IsSplitAt rest n text pad → name_of bytes ≡ cond (list_all (λ b. b == 0) pad) (stored_in text) None
name_of-parts bytes rest text pad n e s =
    let long : length (take n rest) ≡ n = ap length (sym s.1) ∙ s.3 in
    ap name_of e ∙ name_of-cons n rest long ∙ (λ i. cond (list_all (λ b. b == 0) (sym s.2 i)) (stored_in (sym s.1 i)) None)

-- too few characters
pub name_of-short : (bytes rest : List ℕ) (n : ℕ) → bytes ≡ n ∷ rest → length rest < n → name_of bytes ≡ None
unfolding name_of
name_of-short bytes rest n e short =
    let taken = length-take n rest in
    ap name_of e ∙ not_first (length (take n rest) == n) (is_stored_name (take n rest)) (list_all (λ b. b == 0) (drop n rest)) (take n rest) (ne_eqb _ _ (λ same. omega arith))
