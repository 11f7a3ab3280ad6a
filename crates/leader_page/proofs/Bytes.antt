-- An even number of bytes survive as words.
use Rattle.std.proofs.Common.{◌≡◌, ℕ, zero, suc, ◌+◌, ◌-◌, ◌*◌, ◌/◌, ◌%◌, ◌<◌, List, [], ◌∷◌, ◌++◌, length, replicate, refl, arith}
use Rattle.disk_records.specs.Bytes.{bytes_of, words_of}

abbrev pub AreBytes : List ℕ → Type 0
AreBytes [] = Unit {0}
AreBytes (b ∷ bytes) = (b < 256) × AreBytes bytes

pub AreBytes-append : (a b : List ℕ) → AreBytes a → AreBytes b → AreBytes (a ++ b)
AreBytes-append [] b h k = k
AreBytes-append (x ∷ a) b h k = (h.0, AreBytes-append a b h.1 k)

pub AreBytes-zeros : (n : ℕ) → AreBytes (replicate n 0)
AreBytes-zeros zero = tt
AreBytes-zeros (suc n) = (omega arith, AreBytes-zeros n)

-- an even number of bytes survive as words
pub bytes_of-words_of : (n : ℕ) (bytes : List ℕ) → length bytes ≡ 2 * n → AreBytes bytes → bytes_of (words_of bytes) ≡ bytes
bytes_of-words_of n [] even h = refl
bytes_of-words_of n (a ∷ []) even h = absurd (omega arith)
bytes_of-words_of n (a ∷ b ∷ bytes) even h =
    let low = h.1.0 in
    let high : (a * 256 + b) / 256 ≡ a = omega arith in
    let rest : (a * 256 + b) % 256 ≡ b = omega arith in
    let more : length bytes ≡ 2 * (n - 1) = omega arith in
    λ i. high i ∷ rest i ∷ bytes_of-words_of (n - 1) bytes more h.1.1 i
