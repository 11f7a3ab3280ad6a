-- Words as bytes and back, and bytes put in the place of others.
use Rattle.std.proofs.Common.{◌≡◌, ℕ, zero, suc, ◌+◌, ◌-◌, ◌*◌, ◌/◌, ◌%◌, ◌<◌, ◌≤◌, List, [], ◌∷◌, ◌++◌, length, take, drop, refl, sym, ap, subst, ◌∙◌, arith, append_assoc, append-nil, inl, inr, min}
use Rattle.std.specs.Prelude.{All}
use Rattle.std.proofs.lemmas.List.{length-append, length-take, length-drop, take-append-le, drop-append-le, take-append-drop, take_at, take_all, drop_all}
use Rattle.std.proofs.lemmas.Bool.{cases_lt}
use Rattle.disk_records.specs.Bytes.{bytes_of, words_of, put_at}

-- ---- there and back
-- two bytes to a word
pub length-bytes_of : (words : List ℕ) → length (bytes_of words) ≡ 2 * length words
length-bytes_of [] = refl
length-bytes_of (w ∷ words) = let e = length-bytes_of words in omega arith

-- a word of two bytes, and none of a last odd one
pub length-words_of : (bytes : List ℕ) → length (words_of bytes) ≡ length bytes / 2
length-words_of [] = refl
length-words_of (a ∷ []) = refl
length-words_of (a ∷ b ∷ bytes) = let e = length-words_of bytes in omega arith

-- words survive as bytes, whatever they are
pub words_of-bytes_of : (words : List ℕ) → words_of (bytes_of words) ≡ words
words_of-bytes_of [] = refl
words_of-bytes_of (w ∷ words) = let e : w / 256 * 256 + w % 256 ≡ w = omega arith in λ i. e i ∷ words_of-bytes_of words i

-- an even number of bytes, and each second one below 256
abbrev pub ArePairs : List ℕ → Type 0
ArePairs [] = Unit {0}
ArePairs (a ∷ []) = ⊥
ArePairs (a ∷ b ∷ bytes) = (b < 256) × ArePairs bytes

-- such bytes survive as words
pub bytes_of-words_of : (bytes : List ℕ) → ArePairs bytes → bytes_of (words_of bytes) ≡ bytes
bytes_of-words_of [] h = refl
bytes_of-words_of (a ∷ []) h = absurd h
bytes_of-words_of (a ∷ b ∷ bytes) h =
    let low = h.0 in
    let high : (a * 256 + b) / 256 ≡ a = omega arith in
    let rest : (a * 256 + b) % 256 ≡ b = omega arith in
    λ i. high i ∷ rest i ∷ bytes_of-words_of bytes h.1 i

-- the bytes of words are such
pub pairs_of_words : (words : List ℕ) → ArePairs (bytes_of words)
pairs_of_words [] = tt
pairs_of_words (w ∷ words) = (omega arith, pairs_of_words words)

-- bytes in an even number are pairs
pub pairs_of_bytes : (bytes : List ℕ) (n : ℕ) → length bytes ≡ 2 * n → All (λ b. b < 256) bytes → ArePairs bytes
pairs_of_bytes [] n even below = tt
pairs_of_bytes (a ∷ []) n even below = absurd (omega arith)
pairs_of_bytes (a ∷ b ∷ bytes) n even below = (below 1 0 (omega arith), pairs_of_bytes bytes (n - 1) (omega arith) (λ k d l. below (suc (suc k)) d (omega arith)))

-- bytes of words are in range
pub bytes_below : (words : List ℕ) → All (λ w. w < 65536) words → All (λ b. b < 256) (bytes_of words)
bytes_below [] h k d l = absurd (omega arith)
bytes_below (w ∷ words) h zero d l = let below = h 0 0 (omega arith) in omega arith
bytes_below (w ∷ words) h (suc zero) d l = omega arith
bytes_below (w ∷ words) h (suc (suc k)) d l = bytes_below words (λ j e m. h (suc j) e (omega arith)) k d (omega arith)

-- ---- bytes in place
pub length-put_at : (at : ℕ) (new old : List ℕ) → at + length new ≤ length old → length (put_at at new old) ≡ length old
length-put_at at new old fits = simp (length-append, length-take, length-drop) (omega arith)

-- no byte in place changes nothing
pub put_at-nil : (at : ℕ) (old : List ℕ) → put_at at [] old ≡ old
put_at-nil zero old = refl
put_at-nil (suc at) [] = let z : suc at + 0 ≡ suc (at + 0) = omega arith in rw z refl
put_at-nil (suc at) (x ∷ old) = let z : suc at + 0 ≡ suc (at + 0) = omega arith in rw z (ap (λ r. x ∷ r) (put_at-nil at old))

-- a byte that stays, and a byte that is put
pub put_at-later : (at x : ℕ) (new old : List ℕ) → put_at (suc at) new (x ∷ old) ≡ x ∷ put_at at new old
put_at-later at x new old = let z : suc at + length new ≡ suc (at + length new) = omega arith in rw z refl

-- a byte that is put
pub put_at-here : (x b : ℕ) (new old : List ℕ) → put_at 0 (b ∷ new) (x ∷ old) ≡ b ∷ put_at 0 new old
put_at-here x b new old = let z : 0 + suc (length new) ≡ suc (0 + length new) = omega arith in rw z refl

-- bytes in place of the front's, and of those after it
pub put_at-append_left : (at : ℕ) (new a b : List ℕ) → at + length new ≤ length a → put_at at new (a ++ b) ≡ put_at at new a ++ b
put_at-append_left at new a b fits =
    let below : at ≤ length a = omega arith in
    rw (take-append-le at a b below, drop-append-le (at + length new) a b fits) (sym (append_assoc (take at a ++ new) (drop (at + length new) a) b))

-- bytes in place after the front
pub put_at-append_right : (at : ℕ) (new a b : List ℕ) → put_at (length a + at) new (a ++ b) ≡ a ++ put_at at new b
put_at-append_right at new [] b = let z : 0 + at ≡ at = omega arith in rw z refl
put_at-append_right at new (x ∷ a) b =
    let z : suc (length a) + at ≡ suc (length a + at) = omega arith in
    rw z (put_at-later (length a + at) x new (a ++ b) ∙ ap (λ r. x ∷ r) (put_at-append_right at new a b))

-- the first n bytes, where the new ones are among them
pub take-put_at : (n at : ℕ) (new old : List ℕ) → at + length new ≤ length (take n old) → take n (put_at at new old) ≡ put_at at new (take n old)
take-put_at n at new old fits =
    let short : length (take n old) ≡ min n (length old) = length-take n old in
    let size : length (put_at at new (take n old)) ≡ length (take n old) = length-put_at at new (take n old) fits in
    ap (λ x. take n (put_at at new x)) (sym (take-append-drop n old))
    ∙ ap (take n) (put_at-append_left at new (take n old) (drop n old) fits)
    ∙ elim (cases_lt n (length old)) [
      | inl below ↦ take_at (put_at at new (take n old)) (drop n old) n (omega arith)
      | inr past ↦ ap (λ r. take n (put_at at new (take n old) ++ r)) (drop_all n old past) ∙ ap (take n) (append-nil _) ∙ take_all n _ (omega arith)
    ]

-- ---- pairs stay pairs
put_first : (new old : List ℕ) → length new ≤ length old → All (λ b. b < 256) new → ArePairs old → ArePairs (put_at 0 new old)
put_first [] old fits below h = subst ArePairs (sym (put_at-nil 0 old)) h
put_first (x ∷ new) [] fits below h = absurd (omega arith)
put_first (x ∷ new) (a ∷ []) fits below h = absurd h
put_first (x ∷ []) (a ∷ b ∷ old) fits below h = subst ArePairs (sym (put_at-here a x [] (b ∷ old) ∙ ap (λ r. x ∷ r) (put_at-nil 0 (b ∷ old)))) h
put_first (x ∷ y ∷ new) (a ∷ b ∷ old) fits below h =
    subst ArePairs (sym (put_at-here a x (y ∷ new) (b ∷ old) ∙ ap (λ r. x ∷ r) (put_at-here b y new old)))
    (below 1 0 (omega arith), put_first new old (omega arith) (λ k d l. below (suc (suc k)) d (omega arith)) h.1)

-- from the second byte of a pair on
put_second : (a b : ℕ) (new old : List ℕ) → length new ≤ suc (length old) → All (λ b. b < 256) new → ArePairs (a ∷ b ∷ old) → ArePairs (a ∷ put_at 0 new (b ∷ old))
put_second a b [] old fits below h = subst (λ r. ArePairs (a ∷ r)) (sym (put_at-nil 0 (b ∷ old))) h
put_second a b (x ∷ new) old fits below h =
    subst (λ r. ArePairs (a ∷ r)) (sym (put_at-here b x new old))
    (below 0 0 (omega arith), put_first new old (omega arith) (λ k d l. below (suc k) d (omega arith)) h.1)

-- bytes in place leave pairs
pub put_pairs : (at : ℕ) (new old : List ℕ) → at + length new ≤ length old → All (λ b. b < 256) new → ArePairs old → ArePairs (put_at at new old)
put_pairs zero new old fits below h = put_first new old (omega arith) below h
put_pairs (suc at) new [] fits below h = absurd (omega arith)
put_pairs (suc at) new (a ∷ []) fits below h = absurd h
put_pairs (suc zero) new (a ∷ b ∷ old) fits below h = subst ArePairs (sym (put_at-later 0 a new (b ∷ old))) (put_second a b new old (omega arith) below h)
put_pairs (suc (suc at)) new (a ∷ b ∷ old) fits below h =
    subst ArePairs (sym (put_at-later (suc at) a new (b ∷ old) ∙ ap (λ r. a ∷ r) (put_at-later at b new old)))
    (h.0, put_pairs at new old (omega arith) below h.1)

-- Words with bytes put in place, as bytes: those bytes in place.
pub bytes_of-put : (at : ℕ) (new words : List ℕ) → at + length new ≤ length (bytes_of words) → All (λ b. b < 256) new → bytes_of (words_of (put_at at new (bytes_of words))) ≡ put_at at new (bytes_of words)
bytes_of-put at new words fits below = bytes_of-words_of _ (put_pairs at new (bytes_of words) fits below (pairs_of_words words))
