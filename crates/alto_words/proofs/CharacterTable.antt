-- A table that says of each byte whether it may stand in a bare name.
use Rattle.std.proofs.Common.{◌≡◌, ℕ, zero, suc, ◌+◌, ◌<◌, Bool, false, List, [], ◌∷◌, get_or, ap, ◌∙◌, arith}
use Rattle.alto_words.specs.Names.{is_name_character}

-- what is said of so many numbers from this one on
abbrev pub rows_from : ℕ → ℕ → List Bool
rows_from c zero = []
rows_from c (suc n) = is_name_character c ∷ rows_from (suc c) n

row_is : (n c k : ℕ) (d : Bool) → k < n → get_or (rows_from c n) k d ≡ is_name_character (c + k)
row_is zero c k d within = absurd (omega (arith, within))
row_is (suc n) c zero d within = let e : c ≡ c + 0 = omega arith in ap is_name_character e
row_is (suc n) c (suc k) d within = let e : suc c + k ≡ c + suc k = omega arith in row_is n (suc c) k d (omega (arith, within)) ∙ ap is_name_character e

-- such a table of all bytes
pub row_of : (table : List Bool) (c : ℕ) → table ≡ rows_from 0 256 → c < 256 → get_or table c false ≡ is_name_character c
row_of table c same byte = let e : 0 + c ≡ c = omega arith in ap (λ l. get_or l c false) same ∙ row_is 256 0 c false byte ∙ ap is_name_character e
