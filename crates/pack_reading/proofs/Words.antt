-- Bytes as words, pair by pair.
use Rattle.std.proofs.Common.{◌≡◌, ℕ, suc, ◌+◌, ◌*◌, ◌/◌, List, [], ◌∷◌, length, take, refl, ap, ◌∙◌, arith}
use Rattle.disk_records.specs.Bytes.{words_of}

-- a last odd byte makes no word
pub words_of-even : (bytes : List ℕ) → words_of (take (2 * (length bytes / 2)) bytes) ≡ words_of bytes
words_of-even [] = refl
words_of-even (a ∷ []) = refl
words_of-even (a ∷ b ∷ bytes) =
    let two : 2 * (length (a ∷ b ∷ bytes) / 2) ≡ suc (suc (2 * (length bytes / 2))) = omega arith in
    ap (λ n. words_of (take n (a ∷ b ∷ bytes))) two ∙ ap (λ l. (a * 256 + b) ∷ l) (words_of-even bytes)
