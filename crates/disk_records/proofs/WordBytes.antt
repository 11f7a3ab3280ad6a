-- Words that byteorder writes as bytes, and reads of them.
use Rattle.std.proofs.Common.{◌≡◌, ℕ, suc, ◌+◌, ◌*◌, ◌/◌, ◌%◌, ◌<◌, List, [], ◌∷◌, length, get_or, drop, refl, ap, ◌∙◌, arith, Fits, w8, w16}
use Rattle.std.specs.List.{slice_index, flat_map}
use Rattle.byteorder.specs.Endian.{big_number, big_bytes}
use Rattle.disk_records.specs.Bytes.{bytes_of, words_of}

-- bytes that are written of words are theirs
pub bytes_of-written : (words : List ℕ) → ((k : ℕ) → Fits w16 (get_or words k 0)) → flat_map (big_bytes 2) words ≡ bytes_of words
bytes_of-written [] fits = refl
bytes_of-written (w ∷ words) fits =
    let here = fits 0 in
    let high : w / 256 % 256 ≡ w / 256 = omega (arith, here) in
    λ i. high i ∷ w % 256 ∷ bytes_of-written words (λ k. fits (suc k)) i

-- each word is read from its two bytes
abbrev AreRead : List ℕ → List ℕ → Type 0
AreRead bytes words = (k : ℕ) → k < length words → slice_index words k ≡ big_number 2 (drop (2 * k) bytes)

reads_rest : (a b w : ℕ) (bytes words : List ℕ) → AreRead (a ∷ b ∷ bytes) (w ∷ words) → AreRead bytes words
reads_rest a b w bytes words read k below =
    let later : 2 * suc k ≡ suc (suc (2 * k)) = omega arith in
    read (suc k) (omega arith) ∙ ap (λ (n : ℕ). big_number 2 (drop n (a ∷ b ∷ bytes))) later

-- words that are read from bytes are theirs
pub words_of-read : (bytes words : List ℕ) → length bytes ≡ 2 * length words → AreRead bytes words → words ≡ words_of bytes
words_of-read [] [] len read = refl
words_of-read (a ∷ []) [] len read = refl
words_of-read (a ∷ b ∷ bytes) [] len read = absurd (omega (arith, len))
words_of-read [] (w ∷ words) len read = absurd (omega (arith, len))
words_of-read (a ∷ []) (w ∷ words) len read = absurd (omega (arith, len))
words_of-read (a ∷ b ∷ bytes) (w ∷ words) len read =
    let first : w ≡ a * 256 + (b * 1 + 0) = read 0 (omega arith) in
    let here : w ≡ a * 256 + b = omega (arith, first) in
    let rest = words_of-read bytes words (omega (arith, len)) (reads_rest a b w bytes words read) in
    λ i. here i ∷ rest i

-- and have these bytes
pub bytes_of-read : (bytes words : List ℕ) → length bytes ≡ 2 * length words → ((k : ℕ) → Fits w8 (get_or bytes k 0)) → AreRead bytes words → bytes_of words ≡ bytes
bytes_of-read [] [] len fits read = refl
bytes_of-read (a ∷ bytes) [] len fits read = absurd (omega (arith, len))
bytes_of-read [] (w ∷ words) len fits read = absurd (omega (arith, len))
bytes_of-read (a ∷ []) (w ∷ words) len fits read = absurd (omega (arith, len))
bytes_of-read (a ∷ b ∷ bytes) (w ∷ words) len fits read =
    let first : w ≡ a * 256 + (b * 1 + 0) = read 0 (omega arith) in
    let high = fits 0 in
    let low = fits 1 in
    let upper : w / 256 ≡ a = omega (arith, first, high, low) in
    let lower : w % 256 ≡ b = omega (arith, first, high, low) in
    let rest = bytes_of-read bytes words (omega (arith, len)) (λ k. fits (suc (suc k))) (reads_rest a b w bytes words read) in
    λ i. upper i ∷ lower i ∷ rest i
