-- Files that are filled.
use Rattle.std.proofs.Common.{◌≡◌, ℕ, ◌+◌, ◌*◌, List, ◌++◌, replicate, ap, ◌∙◌, arith, append_assoc, Option, Some, None}
use Rattle.std.proofs.lemmas.List.{replicate-append-replicate}
use Rattle.std.specs.Io.KnownBytes.{Appends}

appends_twice : (a b c : Option (List ℕ)) (x y : List ℕ) → Appends a b x → Appends b c y → Appends a c (x ++ y)
appends_twice None b c x y first second = tt
appends_twice (Some s) None c x y first second = absurd first
appends_twice (Some s) (Some t) None x y first second = absurd second
appends_twice (Some s) (Some t) (Some u) x y first second = second ∙ ap (λ (l : List ℕ). l ++ y) first ∙ append_assoc s x y

-- one part more is filled with zeros
pub fills_more : (a b c : Option (List ℕ)) (i n : ℕ) → Appends a b (replicate (i * n) 0) → Appends b c (replicate n 0) → Appends a c (replicate ((i + 1) * n) 0)
fills_more a b c i n first second =
    let count : i * n + n ≡ (i + 1) * n = omega arith in
    rw (← count, ← replicate-append-replicate {A = ℕ} (i * n) n 0) (appends_twice a b c _ _ first second)
