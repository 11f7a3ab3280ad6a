-- Bytes in whole words.
use Rattle.std.proofs.Common.{List, [], ap, arith, length, refl, suc, zero, ℕ, ◌*◌, ◌++◌, ◌+◌, ◌∷◌, ◌≡◌}
use Rattle.laws_contents.specs.pack_model.specs.reading.Bytes.{bytes_of, words_of}
use Rattle.laws_contents.specs.pack_model.specs.reading.Slots.{IsEven}
use Rattle.laws_contents.specs.pack_model.specs.reading.Slots.IsEven.{none, two}

-- the bytes of words
pub even_words : (ws : List ℕ) → IsEven (bytes_of ws)
even_words [] = none
even_words (w ∷ ws) = two (even_words ws)

-- as many bytes as twice a number
pub even_by : (n : ℕ) (bs : List ℕ) → length bs ≡ n + n → IsEven bs
even_by zero [] e = none
even_by zero (a ∷ bs) e = absurd (omega arith)
even_by (suc n) [] e = absurd (omega arith)
even_by (suc n) (a ∷ []) e = absurd (omega arith)
even_by (suc n) (a ∷ b ∷ bs) e = two (even_by n bs (omega arith))

-- and half of them
pub even_half : (bs : List ℕ) → IsEven bs → (n : ℕ) × (length bs ≡ n + n)
even_half [] none = (0, refl)
even_half _ (two {bytes = bs} e) = let r = even_half bs e in let h = r.1 in (suc r.0, omega arith)

-- the words of bytes after others
pub words_of-append : (a b : List ℕ) → IsEven a → words_of (a ++ b) ≡ words_of a ++ words_of b
words_of-append [] b none = refl
words_of-append _ b (two {a = x} {b = y} {bytes = a} e) = ap (λ r. (x * 256 + y) ∷ r) (words_of-append a b e)
